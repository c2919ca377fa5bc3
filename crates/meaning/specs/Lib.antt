pub mod Allocation
pub mod Least
pub mod Sums
pub mod Types
pub mod Soft
pub mod Written
pub mod Promises
