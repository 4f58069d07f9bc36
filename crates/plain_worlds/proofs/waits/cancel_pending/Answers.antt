use Rattle.std.proofs.Common.{arith}
use Rattle.std.specs.Prelude.{if◌then◌else◌}
use Rattle.tp_base.specs.declared.rows.CallbackRow.{CallbackRow}
use Rattle.tp_model.specs.Waits.{cancelled, is_cancelled_by}
use Rattle.plain_worlds.proofs.InPlace.{all_written}
use Rattle.plain_worlds.proofs.waits.cancel_pending.Goals as goal

pub returns : goal.returns
returns c = all_written (λ (r : CallbackRow). if is_cancelled_by c.args.target c.args.cancel r then cancelled r else r) c.loop-place.callbacks.items _ c.loop-place.place (omega (arith, c.loop-place.invariant.0, c.loop-place-test.false, c.len-place-end.ensures)) c.loop-place.invariant.1
