pub mod Places
pub mod Rows
pub mod Earlier
pub mod Asked
pub mod Rooms
pub mod Whole
pub mod Named
pub mod Ends
