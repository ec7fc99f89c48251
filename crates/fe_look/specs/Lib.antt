pub mod Look
pub mod Slot
pub mod Reading
