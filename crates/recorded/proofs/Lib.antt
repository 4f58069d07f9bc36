pub mod Histories
pub mod Playing
pub mod Walks
