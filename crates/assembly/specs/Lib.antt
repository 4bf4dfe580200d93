pub mod Assembly
pub mod FromParts
pub mod Known
pub mod Sums
