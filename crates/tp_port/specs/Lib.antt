pub mod Completing
pub mod Devices
pub mod Lists
pub mod Parts
pub mod Ports
pub mod Pumps
pub mod Rule
