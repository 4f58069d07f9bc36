-- What is proved of worlds and plans, and what an engine remembers: for proofs, and for the contracts of an engine. Who
-- wants to know what the machine is needs none of it.
pub mod Allowed
pub mod Moves
pub mod Ranged
pub mod Remembered
pub mod Safe
pub mod Sound
pub mod Standing
pub mod Told
