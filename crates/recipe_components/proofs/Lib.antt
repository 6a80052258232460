pub mod Counts
pub mod Rows
pub mod Passes
pub mod Leaves
pub mod Referrers
