-- What the threads of a hall do, which is a front under one lock (`docs/model.md`, "The hall").
pub mod Commits
pub mod Reads
pub mod Writes
pub mod Audits
pub mod within
