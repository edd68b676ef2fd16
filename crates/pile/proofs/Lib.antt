pub mod PileLaws
pub mod WalkLaws
pub mod LineLaws
pub mod Laws
