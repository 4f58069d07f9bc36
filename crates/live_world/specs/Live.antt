-- What a live world is seen as, and what it is after a change.
use Rattle.std.specs.Prelude.{ℕ, ◌+◌, Bool, true}
use Rattle.tp_base.specs.declared.ids.ObjectId.{ObjectId}
use Rattle.tp_base.specs.declared.rows.WaitTarget.TheVariants.{Object}
use Rattle.tp_base.specs.declared.plans.Change.{Change}
use Rattle.tp_model.specs.World.{World}
use Rattle.tp_model.specs.Changes.{changed}
use Rattle.tp_model.specs.Waits.{is_cancelled_by, cancel_where}
use Rattle.tp_model.specs.Support.Allowed.{news}
use Rattle.tp_model.specs.Support.Remembered.{forget}

-- a world without the callbacks that are over, and how many were ever made
pub record Live : Type 0 where
  pub world : World
  pub made : ℕ

abbrev pub moved : Live → Change → Live
moved l change = record { world = forget (changed l.world change); made = l.made + news change }

-- the same with another world
abbrev pub with_world : Live → World → Live
with_world l w = record { world = forget w; made = l.made }

-- the pending callbacks of an object cancelled, if so it is asked
abbrev pub settled : Live → ObjectId → Bool → Live
settled l object cancel = with_world l (record l.world { callbacks = cancel_where (is_cancelled_by (Object object) cancel) l.world.callbacks })

abbrev pub without_pending : Live → ObjectId → Live
without_pending l object = settled l object true
