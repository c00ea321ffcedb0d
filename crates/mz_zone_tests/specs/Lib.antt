pub mod Tested
pub mod TwoZones
