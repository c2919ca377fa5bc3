pub mod Accepts
pub mod Spelled
pub mod Kept
pub mod Checks
pub mod Handed
pub mod Before
