-- The calls of the machine, as plans: the refusals that a call can meet, of which the first one that applies is
-- answered, and else what it does.
pub mod Pools
pub mod Groups
pub mod Objects
pub mod Work
pub mod Workers
pub mod InCallback
pub mod Kernels
pub mod Timers
pub mod WaitObjects
pub mod Io
pub mod Waits
pub mod Clients
pub mod End
