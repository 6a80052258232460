pub mod Places
pub mod Windows
pub mod Below
pub mod Rows
pub mod Still
pub mod Ascii
pub mod Near
