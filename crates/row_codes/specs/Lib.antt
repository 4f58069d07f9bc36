pub mod AreCodes
pub mod Rows
pub mod Worlds
