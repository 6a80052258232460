pub mod Checked
pub mod Codes
