pub mod Props
pub mod Found
pub mod Stored
pub mod Printed
pub mod Walks
pub mod Metas
pub mod Lines
