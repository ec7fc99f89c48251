pub mod Kept
pub mod Names
pub mod Opening
pub mod Spare
pub mod within
