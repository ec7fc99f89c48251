-- Definitions about a desk: a front, its connections' streams and a store's keeper, in one thread
-- (`docs/model.md`, "The desk"). `within` has those that no public clause rests on.
pub mod DeskRunState
pub mod Room
pub mod Steps
pub mod Messages
pub mod Crash
pub mod Ends
pub mod GivenAgain
pub mod Runs
pub mod Acknowledged
pub mod Lives
pub mod within
