pub mod Views
pub mod Got
