pub mod Ready
pub mod Schedule
pub mod Runs
pub mod within
