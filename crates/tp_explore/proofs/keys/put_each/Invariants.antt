use Rattle.std.proofs.Common.{◌≡◌, ◌++◌, drop}
use Rattle.short_codes.specs.Codes.{each}
use Rattle.tp_explore.specs.Keys.{place_code}
use Rattle.tp_explore.proofs.keys.put_each.Given as goal

abbrev pub invariant-loop-kept : goal.invariant-loop-kept
invariant-loop-kept l = l.text.items ++ each place_code (drop l.kept-index l.places) ≡ l.initial.text.items ++ each place_code l.places
