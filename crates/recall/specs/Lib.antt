pub mod Recalls
pub mod Places
