pub mod Unending
pub mod Promises
pub mod Alike
