pub mod Plain
pub mod Table
pub mod Renewed
