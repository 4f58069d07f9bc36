pub mod Mapped
pub mod Queries
pub mod Refusing
pub mod Waiting
pub mod Calls
pub mod Plans
pub mod Changes
pub mod Settled
pub mod SettledPlans
pub mod Places
pub mod Tidied
pub mod Behind
pub mod Closing
pub mod ClosedSound
pub mod Nameless
pub mod Exchange
mod Examples
