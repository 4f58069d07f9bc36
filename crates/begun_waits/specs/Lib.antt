pub mod Begun
pub mod Covers
pub mod Kept
pub mod Listed
pub mod Notices
pub mod Past
