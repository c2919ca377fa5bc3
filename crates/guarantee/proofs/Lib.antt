pub mod Kept
pub mod Computed
