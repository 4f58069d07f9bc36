pub mod DeviceFacts
mod Examples
pub mod LineFacts
pub mod SoFar
