pub mod Sum
pub mod Adding
pub mod Laws
