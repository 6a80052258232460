pub mod Scans
pub mod Found
pub mod Items
