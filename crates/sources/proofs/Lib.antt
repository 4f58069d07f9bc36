pub mod Armed
pub mod Expiring
pub mod Keeping
pub mod Released
pub mod Releasing
