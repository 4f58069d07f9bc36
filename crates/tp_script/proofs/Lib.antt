pub mod ClientFacts
pub mod DeclarationFacts
mod Examples
mod MarkFacts
mod Parsing
mod Places
mod Unique
