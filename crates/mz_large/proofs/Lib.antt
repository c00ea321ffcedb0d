pub mod Tiled
pub mod Places
pub mod Fits
pub mod Runs
pub mod OneOut
pub mod Keeping
pub mod Finding
