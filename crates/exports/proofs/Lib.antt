pub mod Steps
pub mod Telling
pub mod Jobs
pub mod Closings
