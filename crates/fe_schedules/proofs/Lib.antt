pub mod FrameLemmas
pub mod Outputs
pub mod Between
pub mod Moving
pub mod Readiness
pub mod Stages
pub mod Taking
pub mod Starting
