pub mod Counting
pub mod Stepping
