pub mod Heard
pub mod Laws
pub mod Lines
pub mod Sleeps
pub mod Windows
