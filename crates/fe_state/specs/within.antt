-- Definitions that no public clause rests on.
pub mod Arrays
