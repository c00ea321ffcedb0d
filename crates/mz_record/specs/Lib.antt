pub mod Moments
pub mod Served
pub mod Dropped
pub mod Resized
pub mod Bytes
pub mod Zones
pub mod Listing
