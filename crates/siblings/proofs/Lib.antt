pub mod Off
pub mod Leaves
pub mod Turns
pub mod Wasted
pub mod Idle
pub mod Skipping
pub mod Back
pub mod Kept
