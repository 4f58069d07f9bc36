pub mod Beginnings
pub mod Dealing
pub mod Gathering
pub mod Joining
pub mod Keeping
pub mod Numbering
pub mod Seating
