-- What a plain world is seen as, and what it is after a change.
use Rattle.std.specs.Prelude.{ℕ, ◌+◌}
use Rattle.tp_base.specs.declared.plans.Change.{Change}
use Rattle.tp_model.specs.World.{World}
use Rattle.tp_model.specs.Changes.{changed}
use Rattle.tp_model.specs.Support.Allowed.{news}
use Rattle.tp_model.specs.Support.Remembered.{forget}

-- a world without the callbacks that are over, and how many were ever made
pub record Plain : Type 0 where
  pub world : World
  pub made : ℕ

abbrev pub moved : Plain → Change → Plain
moved p change = record { world = forget (changed p.world change); made = p.made + news change }
