pub mod Report
pub mod within
