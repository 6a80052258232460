pub mod Metas
pub mod Whole
