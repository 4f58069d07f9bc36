pub mod Opened
pub mod Rows
pub mod Shown
pub mod Threads
