pub mod Each
pub mod Worlds
