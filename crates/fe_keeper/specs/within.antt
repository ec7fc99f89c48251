-- Definitions that no public clause rests on.
pub mod Upholds
pub mod Faults
pub mod Replaying
pub mod Ends
