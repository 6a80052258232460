pub mod Trims
pub mod Singles
pub mod Names
pub mod Paths
pub mod Meets
