pub mod Dealing
pub mod Gathering
pub mod Keeping
pub mod Lists
pub mod Preparing
pub mod Pumping
pub mod Threads
