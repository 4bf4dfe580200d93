pub mod Scans
pub mod ScanRows
