pub mod Columns
pub mod Pool
pub mod within
