pub mod Jacobians
pub mod FromProbes
pub mod Cells
