pub mod KeyLaws
pub mod Laws
