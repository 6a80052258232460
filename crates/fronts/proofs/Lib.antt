pub mod Plain
pub mod Seams
pub mod Lasts
pub mod Ends
