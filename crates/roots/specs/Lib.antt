pub mod Roots
pub mod Samples
