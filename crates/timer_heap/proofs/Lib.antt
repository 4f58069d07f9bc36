pub mod Behind
pub mod Entries
pub mod Found
pub mod Held
pub mod Order
pub mod Sifting
pub mod Sums
pub mod Told
