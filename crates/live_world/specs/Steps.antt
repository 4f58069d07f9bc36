-- The change of which it is said how many nodes of lists it reads.
use Rattle.std.specs.Prelude.{Bool, true, false}
use Rattle.tp_base.specs.declared.plans.Change.{Change}
use Rattle.tp_base.specs.declared.plans.Change.TheVariants.{Take}

-- a worker begins a callback
abbrev pub is_take : Change → Bool
is_take (Take by callback) = true
is_take _ = false
