pub mod Going
pub mod SideBySide
pub mod Sharing
pub mod Parting
