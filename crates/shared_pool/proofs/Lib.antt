pub mod Begins
pub mod Calling
pub mod Entries
pub mod Opening
pub mod Waiting
