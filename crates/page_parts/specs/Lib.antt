pub mod Sections
pub mod Drawing
