pub mod Measuring
pub mod Costs
pub mod Judging
pub mod Slips
