pub mod WrittenLaws
pub mod DecimalLaws
pub mod LineLaws
pub mod Laws
