pub mod Walk
pub mod Pages
pub mod Parts
