pub mod Answers
pub mod Rules
pub mod Same
pub mod Searched
