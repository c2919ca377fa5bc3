pub mod Before
pub mod Back
pub mod Promises
