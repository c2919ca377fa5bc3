pub mod Least
pub mod Verdict
pub mod Decision
pub mod Bounds
pub mod Promises
