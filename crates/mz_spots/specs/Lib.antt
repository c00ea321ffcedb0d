pub mod Keys
pub mod Slots
pub mod SlotKinds
pub mod SlotLists
pub mod Indexes
