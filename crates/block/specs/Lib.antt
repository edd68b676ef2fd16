pub mod Words
pub mod Deals
pub mod Layout
pub mod Open
pub mod Written
pub mod Earlier
pub mod Inner
pub mod Laws
