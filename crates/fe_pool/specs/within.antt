-- Definitions that no public clause rests on.
pub mod Cells
pub mod Runs
