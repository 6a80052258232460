pub mod Arms
pub mod Sections
pub mod Timers
pub mod Parts
