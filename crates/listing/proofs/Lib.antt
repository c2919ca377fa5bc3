pub mod Pages
pub mod Digits
pub mod NodeLines
pub mod SlotLines
pub mod Sizes
pub mod Texts
pub mod Decimals
pub mod Kept
