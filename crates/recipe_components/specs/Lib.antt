pub mod Components
pub mod Tables
