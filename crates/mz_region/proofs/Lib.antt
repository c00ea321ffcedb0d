mod Runs
mod Blocks
mod Fronts
mod Rows
mod Kept
mod RoomLemmas
mod Clear
