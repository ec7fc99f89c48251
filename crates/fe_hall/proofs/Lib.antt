pub mod Committed
pub mod Streams
pub mod Handling
pub mod Written
pub mod Noted
pub mod Issuing
