pub mod Fit
pub mod Before
pub mod Broken
pub mod Check
pub mod Promises
