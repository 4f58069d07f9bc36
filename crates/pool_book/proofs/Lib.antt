pub mod Making
pub mod Spending
