pub mod Nodes
pub mod Strings
pub mod Fits
pub mod Built
pub mod Slips
