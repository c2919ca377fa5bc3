pub mod Entries
pub mod All
pub mod Depth
pub mod Parents
pub mod Cores
pub mod Kept
