pub mod Promises
pub mod Needed
pub mod Whole
pub mod Switch
pub mod Soft
