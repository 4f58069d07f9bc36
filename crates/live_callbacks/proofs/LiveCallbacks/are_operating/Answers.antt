use Rattle.std.proofs.Common.{ap, ◌∙◌, ◌==◌, not}
use Rattle.tp_base.specs.declared.rows.CallbackRow.{CallbackRow}
use Rattle.tp_model.specs.Counts.{is_operating}
use Rattle.live_callbacks.specs.Held.{rows_of}
use Rattle.live_callbacks.proofs.Found.{any_some}
use Rattle.live_callbacks.proofs.LiveCallbacks.are_operating.Goals as goal

pub returns : goal.returns
returns c =
    rw (← c.self.view_is)
    (ap (λ n. not (n == 0)) c.self.invariant.counted ∙ any_some (λ (x : CallbackRow). is_operating x.status) (rows_of c.self.inside.rows.held))
