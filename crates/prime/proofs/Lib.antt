pub mod Mod
pub mod Prime
pub mod Laws
