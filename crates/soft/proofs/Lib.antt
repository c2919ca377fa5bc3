pub mod Greatest
pub mod Lost
pub mod Loses
pub mod Judged
pub mod Answers
pub mod Kept
pub mod KeptExamples
