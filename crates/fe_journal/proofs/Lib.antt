mod Steps
pub mod Bytes
pub mod Frames
mod Spelled
mod FirstStore
mod Appends
mod Buffers
mod Journals
mod Slots
mod Begins
pub mod Openings
pub mod Readings
pub mod Founds
pub mod Contents
