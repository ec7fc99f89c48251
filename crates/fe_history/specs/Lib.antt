pub mod Receipts
pub mod Acts
pub mod Rules
