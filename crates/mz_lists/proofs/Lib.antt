pub mod WordLemmas
pub mod ChainLemmas
pub mod MapLemmas
pub mod SlotLemmas
pub mod KeptLemmas
pub mod PutLemmas
pub mod TakeLemmas
