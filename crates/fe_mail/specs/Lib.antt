pub mod Books
pub mod Connections
pub mod Limits
pub mod Refusal
pub mod within
