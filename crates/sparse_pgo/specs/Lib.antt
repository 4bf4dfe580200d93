pub mod Parts
pub mod Numerics
pub mod Optimize
pub mod Refusing
pub mod StarredSamples
pub mod forms
