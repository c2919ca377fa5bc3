pub mod Case
pub mod Promises
