pub mod Dealt
pub mod Joined
pub mod Laws
