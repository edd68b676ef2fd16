pub mod Policy
pub mod Inner
pub mod Laws
