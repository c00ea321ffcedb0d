pub mod Tested
pub mod BackInHand
pub mod TwoZones
pub mod Asked
pub mod StillMine
