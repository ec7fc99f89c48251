pub mod TextLemmas
pub mod LookLemmas
pub mod Headers
pub mod Areas
pub mod Slots
pub mod Copies
