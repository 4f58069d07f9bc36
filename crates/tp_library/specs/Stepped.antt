-- The calls of libraries alone, beside a machine.
use Rattle.std.specs.Prelude.{◌≡◌, if◌then◌else◌, Option, None, Some}
use Rattle.tp_base.specs.declared.ids.Who.{Who}
use Rattle.recorded.specs.Recordings.{world_behind, Recording}
use Rattle.tp_library.specs.Acting.{has_finished, is_there, Acting}
use Rattle.tp_library.specs.Kept.{stand_of, AreActors}
use Rattle.tp_library.specs.Libraries.{step_at}
use Rattle.tp_library.specs.declared.beside.Beside.{Beside}
use Rattle.tp_library.specs.declared.LibAnswer.{LibAnswer}
use Rattle.tp_library.specs.declared.LibCall.{LibCall}
use Rattle.tp_library.specs.declared.LibRefusal.{LibRefusal}
use Rattle.tp_library.specs.declared.LibRefusal.TheVariants.{NoSuch, Released}

-- why an actor makes no calls, if it makes none
abbrev pub refused_actor : Acting → Who → Option LibRefusal
refused_actor a who = if is_there a who then (if has_finished a who then Some Released else None) else Some NoSuch

-- the call is the definition's, and changes loads and slots alone
pub record IsStep (old : Beside) (who : Who) (call : LibCall) (new : Beside) (answer : LibAnswer) : Type 0 where
  pub same : new ≡ record old { shelf = record old.shelf { shelf = record old.shelf.shelf { loads = new.shelf.shelf.loads; slots = new.shelf.shelf.slots } } }
  pub step : (r : Recording) → AreActors (world_behind r) old.actors → step_at (stand_of r old) who call ≡ (stand_of r new, answer)
