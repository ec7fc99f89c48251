pub mod Appending
pub mod Checkpoints
pub mod Ends
pub mod Finishing
pub mod Rests
mod Standing
mod Stops
mod Going
mod Bases
mod Numbers
mod Openings
pub mod Taking
mod Beginning
pub mod Damages
