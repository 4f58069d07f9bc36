pub mod Added
mod Examples
pub mod Faults
pub mod Rulebook
pub mod SaidIsRead
pub mod Walked
