pub mod Counts
pub mod Firing
pub mod Kept
pub mod Rows
