-- Workers that change places.
pub mod Actions
pub mod Changes
pub mod Closing
pub mod Kernels
pub mod Making
pub mod Objects
pub mod Plans
pub mod Pools
pub mod Queries
pub mod Refusing
pub mod Rows
pub mod Waiting
pub mod Waits
pub mod Workers
