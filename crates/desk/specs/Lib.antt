pub mod Opens
pub mod Slots
pub mod Lines
pub mod Parts
pub mod Inner
pub mod History
pub mod Laws
