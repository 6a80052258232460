pub mod Relations
pub mod Names
pub mod Own
pub mod Rows
