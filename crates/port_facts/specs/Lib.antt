pub mod Accepted
pub mod Completions
pub mod Interleaved
pub mod SetUp
