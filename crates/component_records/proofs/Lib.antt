pub mod Links
pub mod Rows
pub mod Records
pub mod Pairs
pub mod Lent
pub mod Counts
