use Rattle.std.proofs.Common.{ℕ, sym, ap, ◌∙◌, is_some}
use Rattle.tp_base.specs.declared.ids.ObjectId.{ObjectId}
use Rattle.tp_library.proofs.Stepping.{some_map}
use Rattle.tp_library.proofs.actors.Actors.is_running.Goals as goal

pub returns : goal.returns
returns c = c.is_some.ensures ∙ sym (some_map (λ (run : ℕ × ObjectId). (run.0, run.1.0)) c.run.result) ∙ ap is_some c.run.ensures
