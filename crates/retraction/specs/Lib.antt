pub mod Retraction
