pub mod Following
pub mod Numbered
pub mod Taken
pub mod Replayed
