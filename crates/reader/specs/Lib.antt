pub mod Read
pub mod Part
pub mod Before
pub mod Promises
