pub mod Gaps
pub mod LiveBlocks
pub mod HeldRuns
pub mod TakenPages
pub mod NanoPages
