pub mod Records
pub mod Links
pub mod Tables
