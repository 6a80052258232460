pub mod Names
pub mod Sizes
pub mod Searches
pub mod Adds
