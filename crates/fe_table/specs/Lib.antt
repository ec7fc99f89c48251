pub mod Table
pub mod within
