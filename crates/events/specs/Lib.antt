pub mod Driven
pub mod Samples
