pub mod SizeLaws
pub mod CardLaws
pub mod DealLaws
pub mod MadeLaws
pub mod ByteLaws
pub mod HideLaws
pub mod Laws
pub mod Cases
