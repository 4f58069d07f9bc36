pub mod Actors
pub mod Progress
pub mod Tally
