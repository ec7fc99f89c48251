mod KeptLemmas
pub mod KeyLemmas
mod OwnerLemmas
mod AttachmentLemmas
pub mod SessionLemmas
mod RequestLemmas
pub mod Completing
pub mod Creating
pub mod Effects
pub mod Lengths
pub mod Quiet
pub mod Remade
pub mod Removing
pub mod Replies
pub mod Attaching
pub mod Serving
pub mod Sizes
pub mod Staying
pub mod Turns
