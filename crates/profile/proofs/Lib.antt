pub mod Index
pub mod Zeros
pub mod Leading
