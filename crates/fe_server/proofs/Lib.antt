pub mod Ends
pub mod Accounts
pub mod Acknowledged
pub mod Leavings
pub mod Noted
pub mod Transcripts
