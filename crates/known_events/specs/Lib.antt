pub mod Fields
pub mod Known
