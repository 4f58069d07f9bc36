pub mod Lines
pub mod Words
pub mod Explored
pub mod EachExplored
