pub mod Rounding
pub mod Samples
