pub mod Lists
pub mod Demands
