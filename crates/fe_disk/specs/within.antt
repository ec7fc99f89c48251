-- Definitions that no public clause rests on.
pub mod Samples
pub mod Record
pub mod Memory
