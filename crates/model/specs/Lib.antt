pub mod Blank
pub mod Rows
pub mod Memory
pub mod Small
pub mod Searches
pub mod Fits
pub mod Kinds
pub mod Writes
