pub mod Formula
pub mod Examples
pub mod Promises
