pub mod FiniteParts
pub mod Stepping
pub mod PoseAgain
pub mod SharedSe3
pub mod SharedGravity
pub mod Shared
