pub mod Decided
pub mod Ending
