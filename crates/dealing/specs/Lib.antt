pub mod Deal
pub mod Given
pub mod Dealt
pub mod Inner
pub mod Laws
