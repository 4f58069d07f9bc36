pub mod Filled
pub mod Kept
pub mod Linked
pub mod Moved
pub mod Nodes
pub mod Rings
