pub mod Search
pub mod Tables
pub mod Folded
