pub mod Seeing
pub mod Laws
