pub mod Listing
pub mod Bytes
pub mod Table
pub mod Renewed
