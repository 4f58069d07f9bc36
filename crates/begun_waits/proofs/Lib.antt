pub mod Actors
pub mod Keeping
pub mod Noticed
pub mod Waiting
