pub mod Decimal
pub mod Written
pub mod Lines
pub mod Inner
pub mod Laws
