pub mod Layout
pub mod Before
pub mod Promises
pub mod Longest
