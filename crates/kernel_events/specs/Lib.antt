pub mod Armed
pub mod Kept
pub mod Kernels
pub mod Threaded
