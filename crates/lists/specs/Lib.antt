pub mod Places
pub mod Run
pub mod Some
pub mod Flat
pub mod Over
pub mod Laws
