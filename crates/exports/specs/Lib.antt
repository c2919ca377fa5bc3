pub mod Exports
pub mod Again
pub mod Promises
