mod ToyLemmas
mod BothFull
mod SlotCalls
mod FullCalls
mod TwoPasses
mod Crosses
