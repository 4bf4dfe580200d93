pub mod Ends
pub mod Fitting
pub mod Parts
pub mod Products
pub mod Additions
pub mod Blocks
pub mod DiagonalBlocks
