pub mod Additions
pub mod Systems
