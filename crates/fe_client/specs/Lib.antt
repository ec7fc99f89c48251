pub mod Events
pub mod Conversation
pub mod Streams
pub mod Ends
pub mod Input
