use Rattle.std.proofs.Common.{length, ◌≡◌, ◌++◌, take, drop}
use Rattle.tp_model.specs.Changes.{replaced}
use Rattle.plain_worlds.proofs.callbacks.replace.Given as goal

abbrev pub invariant-loop-place : goal.invariant-loop-place
invariant-loop-place l =
    (length l.callbacks.items ≡ length l.initial.callbacks.items)
    × (take l.place l.callbacks.items ++ replaced l.callback (drop l.place l.callbacks.items) ≡ replaced l.callback (l.initial.callbacks.items))
