pub mod Halving
pub mod Played
