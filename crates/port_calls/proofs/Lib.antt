mod Examples
pub mod Making
pub mod Turns
