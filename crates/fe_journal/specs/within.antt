-- Definitions that no public clause rests on.
pub mod CursorFields
pub mod Fields
