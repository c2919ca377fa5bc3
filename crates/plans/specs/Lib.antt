pub mod Plan
pub mod Bytes
pub mod Sound
pub mod Cores
pub mod Promises
