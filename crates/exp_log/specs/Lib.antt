pub mod Formats
pub mod ExpLog
pub mod LogParts
pub mod Samples
