pub mod Deadlines
pub mod Expiry
pub mod Kept
pub mod NextDue
pub mod Padding
pub mod Shown
