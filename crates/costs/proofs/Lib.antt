pub mod Costing
pub mod Depends
pub mod Stowing
pub mod HadCost
