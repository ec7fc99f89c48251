pub mod Entering
pub mod Recorded
pub mod Answers
pub mod Boxes
pub mod Boxing
pub mod AttachmentLaws
pub mod WaitLaws
