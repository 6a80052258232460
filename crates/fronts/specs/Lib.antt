pub mod Plain
pub mod Seams
pub mod Ends
