pub mod AddLaws
pub mod SumLaws
pub mod Laws
