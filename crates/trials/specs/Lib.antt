pub mod Trials
pub mod forms
