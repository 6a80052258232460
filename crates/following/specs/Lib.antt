pub mod Drawn
pub mod Follow
pub mod Checked
