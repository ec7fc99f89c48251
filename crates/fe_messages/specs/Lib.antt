pub mod Mails
pub mod Taking
pub mod Answers
