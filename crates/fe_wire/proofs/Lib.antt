pub mod FieldLaws
pub mod MessageLaws
pub mod FrameLaws
pub mod StreamLaws
pub mod Pieces
pub mod ReplyLaws
pub mod Existence
