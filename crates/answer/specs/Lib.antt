pub mod Outcome
pub mod Checks
pub mod Lent
pub mod Laws
