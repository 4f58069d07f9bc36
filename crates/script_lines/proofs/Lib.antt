mod Examples
pub mod HeadFacts
pub mod LineFacts
mod NameFacts
pub mod TextFacts
mod TokenFacts
