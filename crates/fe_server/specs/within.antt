-- Definitions that no public clause rests on.
pub mod HasServed
pub mod Leavings
