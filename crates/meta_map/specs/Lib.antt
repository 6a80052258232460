pub mod Index
pub mod Maps
