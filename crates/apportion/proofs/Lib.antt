pub mod Laws
pub mod Sizes
pub mod Refused
pub mod Steps
pub mod Equal
