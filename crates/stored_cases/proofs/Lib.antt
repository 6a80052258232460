pub mod Places
pub mod Numbers
pub mod Words
pub mod Parts
pub mod Named
