pub mod Books
pub mod Walks
pub mod Cores
pub mod Answers
pub mod Slots
pub mod Kept
pub mod Alike
