pub mod FreeRuns
pub mod Pages
pub mod Kept
