use Rattle.std.proofs.Common.{length, ◌≡◌, ◌++◌, take, drop}
use Rattle.tp_model.specs.Changes.{give_notice}
use Rattle.plain_worlds.proofs.waits.give_notice.Given as goal

abbrev pub invariant-loop-place : goal.invariant-loop-place
invariant-loop-place l =
    (length l.waits.items ≡ length l.initial.waits.items)
    × (take l.place l.waits.items ++ give_notice l.who (drop l.place l.waits.items) ≡ give_notice l.who (l.initial.waits.items))
