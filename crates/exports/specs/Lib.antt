pub mod Layers
pub mod Exported
pub mod Jobs
pub mod Closings
