pub mod Calls
pub mod Notices
pub mod Pools
pub mod Tries
pub mod Waits
