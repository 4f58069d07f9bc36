-- The list of begun waits as it stands for contracts alone.
use Rattle.std.specs.Prelude.{ℕ, List}
use Rattle.tp_model.specs.World.{BegunWait}

-- the waits, in the order in which they were begun, and how many notices stalled waits never gave
pub record Listed : Type 0 where
  pub waits : List BegunWait
  pub given_up : ℕ
