pub mod Entered
pub mod Made
pub mod View
