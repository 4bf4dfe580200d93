pub mod EdgesAlone
pub mod Large
pub mod Promises
