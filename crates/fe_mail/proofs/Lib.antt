pub mod ConnectionLemmas
pub mod HashedMaps
pub mod Lookups
pub mod MailCounts
