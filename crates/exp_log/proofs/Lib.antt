pub mod Steps
pub mod LogParts
