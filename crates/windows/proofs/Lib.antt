pub mod Missed
pub mod Hard
pub mod Blocks
pub mod Losing
pub mod Shorter
pub mod Longer
