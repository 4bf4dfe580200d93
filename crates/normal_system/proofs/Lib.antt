pub mod Building
pub mod Islands
