pub mod Ending
pub mod Examples
pub mod Laws
pub mod LineExamples
pub mod LineFacts
pub mod LinePart
pub mod Printing
pub mod SleepRows
