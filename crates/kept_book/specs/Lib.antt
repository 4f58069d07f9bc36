pub mod Kept
pub mod Observed
