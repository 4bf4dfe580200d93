pub mod Layout
pub mod Starts
