pub mod Notation
pub mod Walks
pub mod Refusals
pub mod Foremost
pub mod Rounds
