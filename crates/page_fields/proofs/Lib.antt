pub mod Tables
pub mod Contents
pub mod Amounts
pub mod Letters
