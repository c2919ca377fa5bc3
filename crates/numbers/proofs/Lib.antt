pub mod Stored
pub mod Laid
pub mod Down
pub mod Fields
pub mod Counts
pub mod Back
pub mod Kept
pub mod Held
