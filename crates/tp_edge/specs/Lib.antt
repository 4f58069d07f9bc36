pub mod Counts
pub mod Edges
pub mod Given
pub mod Memory
pub mod Plan
pub mod Reading
pub mod Taken
