pub mod Lines
pub mod Splits
pub mod Sources
