pub mod Formats
pub mod Rotation
pub mod FromMatrix
