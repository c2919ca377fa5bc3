pub mod Positions
pub mod Decode
