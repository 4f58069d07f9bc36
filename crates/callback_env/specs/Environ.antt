-- What a callback environment is at first, and what its setters leave.
use Rattle.std.specs.Prelude.{false, Option, unwrap_or}
use Rattle.tp_base.specs.declared.calls.Environ.{Environ}
use Rattle.tp_base.specs.declared.calls.Priority.TheVariants.{Normal}
use Rattle.tp_base.specs.declared.ids.RoutineId.{RoutineId}

-- the default pool, no cleanup group, the priority Normal, and no mark
abbrev pub initialized : Environ
initialized = record {
  pool = record { 0 = 0 };
  group = record { 0 = 0 };
  cancel = record { 0 = 0 };
  priority = Normal;
  long = false;
  persistent = false;
}

-- the routine, or 0 for none
abbrev pub cancel_of : Option RoutineId → RoutineId
cancel_of cancel = unwrap_or cancel (record { 0 = 0 })
