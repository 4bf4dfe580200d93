mod Behind
mod Poses
pub mod Steps
pub mod Priced
pub mod Halves
mod Trying
