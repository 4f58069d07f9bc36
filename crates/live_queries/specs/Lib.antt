pub mod AtWork
pub mod Resting
