pub mod Layout
pub mod Contents
pub mod Damage
pub mod Journal
pub mod Store
pub mod Found
pub mod within
