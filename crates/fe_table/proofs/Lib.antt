pub mod Pairs
pub mod TableCopyLemmas
pub mod TableLemmas
pub mod TablePositions
