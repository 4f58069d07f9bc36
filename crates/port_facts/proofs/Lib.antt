pub mod Completing
mod Examples
pub mod Finishing
pub mod Following
pub mod Interleaving
pub mod Issued
pub mod Listing
pub mod SettingUp
pub mod Whole
