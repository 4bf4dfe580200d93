pub mod Stowed
pub mod Costs
pub mod Samples
