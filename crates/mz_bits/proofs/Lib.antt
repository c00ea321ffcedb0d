mod WordLemmas
mod RunLemmas
mod ViewLemmas
