pub mod Kept
pub mod Settings
