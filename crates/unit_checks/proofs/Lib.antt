pub mod Rows
pub mod Fitting
pub mod Codes
pub mod Units
pub mod After
