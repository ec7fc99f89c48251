pub mod AttachmentsState
pub mod Events
pub mod Service
pub mod within
