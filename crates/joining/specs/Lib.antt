pub mod Pile
pub mod Checks
pub mod Secret
pub mod Joined
pub mod Earlier
pub mod Inner
pub mod Laws
