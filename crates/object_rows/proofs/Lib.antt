pub mod MembersChanged
pub mod Listed
pub mod Walked
