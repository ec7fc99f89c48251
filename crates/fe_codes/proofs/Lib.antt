pub mod BindingLaws
pub mod Splits
pub mod CodeLaws
