pub mod Patterns
pub mod Joins
pub mod Fitting
pub mod Spoken
pub mod Slips
