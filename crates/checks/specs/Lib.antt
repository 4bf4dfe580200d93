pub mod Input
pub mod Islands
pub mod Labels
pub mod Table
pub mod IslandSamples
