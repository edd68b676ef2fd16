pub mod OneLaws
pub mod CheckLaws
pub mod WhichLaws
pub mod SaysLaws
pub mod LentLaws
pub mod Laws
pub mod PassedOn
