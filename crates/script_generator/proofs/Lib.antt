mod Clients
pub mod Examples
mod Knowing
mod Points
mod Whole
