pub mod Prime
pub mod Inverse
pub mod Laws
