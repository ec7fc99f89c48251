pub mod Risings
pub mod Marks
pub mod Watching
