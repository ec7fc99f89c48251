-- Definitions that no public clause rests on.
pub mod Desk
pub mod Goes
