pub mod Renamed
pub mod Closed
pub mod Exchanged
pub mod Ordered
