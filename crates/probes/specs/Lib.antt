pub mod Probes
pub mod Stances
