pub mod Holdings
pub mod Judged
pub mod Own
pub mod Inner
pub mod Laws
