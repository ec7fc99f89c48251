pub mod Numbers
pub mod Results
pub mod Written
pub mod LineLemmas
