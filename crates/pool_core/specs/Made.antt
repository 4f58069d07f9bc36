-- What a call comes to that was made, on a machine that stands for any world at all.
use Rattle.std.specs.Prelude.{ℕ}
use Rattle.tp_base.specs.Ranges.{IsOutcomeInRange}
use Rattle.tp_base.specs.declared.answers.Outcome.{Outcome}
use Rattle.tp_base.specs.declared.calls.Call.{Call}
use Rattle.tp_base.specs.declared.ids.Who.{Who}
use Rattle.tp_model.specs.Table.{step}
use Rattle.tp_model.specs.World.{World}
use Rattle.tp_model.specs.Support.Remembered.{Remembered, StandsFor, Meets}

pub record IsMade (old new : Remembered) (room : ℕ) (who : Who) (call : Call) (outcome : Outcome) : Type 0 where
  pub meets : (w : World) → StandsFor old w → Meets old new w (step w room who call) outcome
  pub in_range : IsOutcomeInRange outcome
