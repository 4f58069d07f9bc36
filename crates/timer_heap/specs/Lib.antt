pub mod Counting
pub mod Dues
pub mod Heap
pub mod Held
pub mod Kept
pub mod Least
