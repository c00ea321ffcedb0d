mod Gift
mod TakesLemmas
