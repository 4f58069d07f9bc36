pub mod Above
pub mod AtRest
pub mod LeftAfter
pub mod Numbered
pub mod Short
pub mod Stuck
