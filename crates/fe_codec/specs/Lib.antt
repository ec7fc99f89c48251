pub mod Record
pub mod Reading
pub mod Image
pub mod Appending
pub mod FirstFault
pub mod Loading
