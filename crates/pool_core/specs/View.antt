-- What a machine remembers, and what it counts.
use Rattle.std.specs.Prelude.{◌≡◌, ◌+◌, ◌*◌, ◌≤◌}
use Rattle.tp_model.specs.Counts.{owed}
use Rattle.tp_model.specs.Support.Ranged.{AreRowsInRange, AreTakenAtMost}
use Rattle.tp_model.specs.Support.Remembered.{Remembered}
use Rattle.pool_core.specs.declared.Engine.TheInside.{Inside}

abbrev pub remembered : Inside → Remembered
remembered a = record { world = a.live.world; made = a.live.made; age = a.age }

-- what is owed is counted, with no more steps than can be counted the numbers fit, the rows are in range, and no lock was
-- taken more often than there were steps
pub record IsMachine (a : Inside) : Type 0 where
  pub owes : a.owed ≡ owed a.live.world
  pub few_made : a.live.made ≤ a.age * 65536
  pub few_owed : a.owed ≤ 65536 + a.age * 65536
  pub rows : AreRowsInRange a.live.world
  pub takings : AreTakenAtMost a.age a.live.world
