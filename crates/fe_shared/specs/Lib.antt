pub mod Bells
pub mod Logs
pub mod Shown
pub mod Seats
pub mod Holds
pub mod Marks
