pub mod Views
pub mod Got
pub mod Near
pub mod Generic
