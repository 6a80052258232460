pub mod Texts
pub mod Tables
pub mod Asides
pub mod Parsers
pub mod Firsts
