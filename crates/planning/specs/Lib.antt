pub mod Sets
pub mod Groups
pub mod Policy
pub mod Planned
pub mod Inner
pub mod Laws
pub mod Given
