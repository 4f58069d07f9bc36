pub mod ProgramLimits
pub mod Recordings
