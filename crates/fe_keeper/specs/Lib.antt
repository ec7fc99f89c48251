pub mod Stands
pub mod Keeper
pub mod Ends
pub mod Opened
pub mod Damage
pub mod within
