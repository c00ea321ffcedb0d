pub mod Members
pub mod Numbers
pub mod Widths
pub mod Words
pub mod Heads
pub mod Slots
pub mod Chains
pub mod Kept
