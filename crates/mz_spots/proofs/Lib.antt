mod KeyLemmas
mod SpotLemmas
mod SlotLemmas
mod IndexLemmas
pub mod RunLemmas
