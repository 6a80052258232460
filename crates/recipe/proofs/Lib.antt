pub mod Pages
pub mod Passes
pub mod Errors
pub mod Forms
pub mod Demand3
pub mod Clears
