pub mod Workers
pub mod Pools
pub mod Tallies
pub mod Tallied
pub mod Free
