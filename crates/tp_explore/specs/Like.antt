-- Boards that are like each other but for which worker is which: what a search asks for as laws, if it is to know boards by
-- their workers in order.
pub mod Faults
pub mod Keys
pub mod Moves
pub mod Plans
pub mod Rows
