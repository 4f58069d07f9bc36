pub mod Faults
pub mod Language
pub mod Lines
pub mod Numbers
pub mod Parts
pub mod Traces
pub mod Words
