pub mod Call
pub mod Event
pub mod Front
pub mod Posting
pub mod Step
pub mod Steps
pub mod within
pub mod Laws
