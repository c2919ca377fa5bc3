pub mod Periods
pub mod Books
pub mod Level
