pub mod WellFormed
pub mod Stretch
