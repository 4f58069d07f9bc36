pub mod Growing
pub mod Kept
pub mod Legacy
pub mod Lines
pub mod Old
pub mod Whole
