use Rattle.std.proofs.Common.{arith}
use Rattle.std.specs.Prelude.{if◌then◌else◌}
use Rattle.tp_base.specs.declared.rows.CallbackRow.{CallbackRow}
use Rattle.tp_model.specs.Counts.{has_number}
use Rattle.plain_worlds.proofs.InPlace.{all_written}
use Rattle.plain_worlds.proofs.callbacks.replace.Goals as goal

pub returns : goal.returns
returns c = all_written (λ (r : CallbackRow). if has_number c.args.callback.number r then c.args.callback else r) c.loop-place.callbacks.items _ c.loop-place.place (omega (arith, c.loop-place.invariant.0, c.loop-place-test.false, c.len-place-end.ensures)) c.loop-place.invariant.1
