pub mod Arithmetic
pub mod Answers
pub mod Kept
