pub mod SeeingLaws
pub mod ReadingLaws
pub mod Laws
