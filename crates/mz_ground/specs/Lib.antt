pub mod Place
pub mod Marks
pub mod Views
pub mod Ownership
pub mod Parts
pub mod Held
pub mod Estates
