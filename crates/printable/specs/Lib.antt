pub mod Measures
pub mod Printing
