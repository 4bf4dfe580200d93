pub mod Residuals
pub mod EdgeParts
