pub mod Ahead
pub mod Found
pub mod Held
pub mod Moves
pub mod Places
pub mod Steps
pub mod Ways
