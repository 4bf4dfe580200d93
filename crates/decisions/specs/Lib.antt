pub mod Damping
pub mod Run
pub mod Machine
pub mod Demand
