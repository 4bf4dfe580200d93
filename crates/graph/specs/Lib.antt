pub mod Graph
pub mod Lent
