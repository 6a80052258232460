pub mod Pushes
pub mod Reports
pub mod Referrers
pub mod Frames
pub mod Reading
