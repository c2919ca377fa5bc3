pub mod Editions
pub mod Filled
pub mod Entries
pub mod Made
