pub mod Cards
pub mod Dealt
pub mod Inner
pub mod Laws
