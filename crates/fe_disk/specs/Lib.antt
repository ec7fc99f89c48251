pub mod Disk
pub mod Runs
pub mod Memory
pub mod Guarded
pub mod Liar
pub mod FileDisk
pub mod SystemFile
pub mod within
