pub mod Checked
pub mod Devices
pub mod Main
pub mod Numbers
pub mod Scripted
