pub mod Histories
pub mod Locks
pub mod Rule
pub mod Seats
pub mod Steps
pub mod Turns
pub mod Views
