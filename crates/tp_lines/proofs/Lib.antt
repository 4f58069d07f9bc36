mod Agree
mod AnswerFacts
pub mod Apart
pub mod Bounds
pub mod CallFacts
mod Choices
pub mod DueFacts
pub mod EntryFacts
mod Examples
pub mod Feeds
mod MillisFacts
mod NamedFacts
mod Outcomes
mod PartFacts
pub mod Rebuilt
pub mod RowFacts
pub mod Tables
pub mod WhoFacts
pub mod WordRules
