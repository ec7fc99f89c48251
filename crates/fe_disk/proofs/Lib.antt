pub mod Images
pub mod Moments
pub mod Outcomes
mod Stops
mod Tears
mod Unsynced
