pub mod Views
pub mod Quanta
pub mod Search
pub mod Held
