pub mod WeightLaws
pub mod JoinLaws
pub mod RowLaws
pub mod FillLaws
pub mod Laws
