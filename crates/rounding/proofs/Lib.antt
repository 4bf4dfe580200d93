pub mod Fractions
pub mod Narrowing
pub mod Widening
pub mod Own
pub mod Believe
