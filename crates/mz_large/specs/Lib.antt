pub mod Blocks
pub mod Large
pub mod Best
