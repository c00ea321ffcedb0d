pub mod Built
pub mod Coming
pub mod Turns
pub mod RunLaws
pub mod Passing
pub mod Jobs
pub mod Top
pub mod Replies
