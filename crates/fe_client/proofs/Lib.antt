pub mod Leads
pub mod Over
pub mod Separates
pub mod Fronts
pub mod Taken
pub mod Frames
pub mod Talks
pub mod Calls
