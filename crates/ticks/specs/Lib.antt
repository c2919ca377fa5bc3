pub mod Times
pub mod Promises
