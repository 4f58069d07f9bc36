pub mod Callbacks
pub mod Families
pub mod Held
pub mod Kept
pub mod Lists
pub mod Places
pub mod Queues
pub mod Reserved
