pub mod Rounds
pub mod Texts
pub mod Faults
pub mod Given
pub mod Readers
pub mod TailTexts
pub mod RunTexts
pub mod RunForms
