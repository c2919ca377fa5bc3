pub mod Euclid
pub mod Reach
