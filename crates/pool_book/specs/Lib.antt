pub mod Kept
pub mod Past
