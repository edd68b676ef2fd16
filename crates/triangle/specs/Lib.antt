pub mod Triangle
pub mod Laws
