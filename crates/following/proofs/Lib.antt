pub mod Lists
pub mod Grows
pub mod Insides
pub mod Betweens
pub mod Laws
pub mod Follows
pub mod Walking
