pub mod Intermediates
