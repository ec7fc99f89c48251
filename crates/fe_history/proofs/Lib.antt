pub mod BorneOut
pub mod Kept
pub mod Sent
pub mod Acts
pub mod Moves
