-- The plan of each call in a renamed world.
pub mod Making
pub mod Objects
pub mod Pools
pub mod Waits
pub mod Workers
