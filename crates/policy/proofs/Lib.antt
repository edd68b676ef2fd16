pub mod LinesLaws
pub mod BadLaws
pub mod ReadingLaws
pub mod WritingLaws
pub mod MembersLaws
pub mod ShapeLaws
pub mod TextLaws
pub mod Laws
