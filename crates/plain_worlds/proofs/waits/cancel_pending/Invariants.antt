use Rattle.std.proofs.Common.{length, ◌≡◌, ◌++◌, take, drop}
use Rattle.tp_model.specs.Waits.{cancel_where, is_cancelled_by}
use Rattle.plain_worlds.proofs.waits.cancel_pending.Given as goal

abbrev pub invariant-loop-place : goal.invariant-loop-place
invariant-loop-place l =
    (length l.callbacks.items ≡ length l.initial.callbacks.items)
    × (take l.place l.callbacks.items ++ cancel_where (is_cancelled_by l.target l.cancel) (drop l.place l.callbacks.items) ≡ cancel_where (is_cancelled_by l.target l.cancel) (l.initial.callbacks.items))
