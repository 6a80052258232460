pub mod Quantities
pub mod Lists
