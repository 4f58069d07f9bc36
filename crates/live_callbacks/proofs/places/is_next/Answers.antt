use Rattle.std.proofs.Common.{◌≡◌, ◌<◌, ◌-◌, ℕ, Bool, true, false, List, length, get_or, ltb-true, refl}
use Rattle.std.specs.List.{All}
use Rattle.std.specs.Bool.{OnTrue}
use Rattle.std.specs.Prelude.{nat_lt}
use Rattle.live_callbacks.specs.declared.places.Entry.{Entry}
use Rattle.live_callbacks.specs.Places.{EntriesRise}
use Rattle.live_callbacks.proofs.Rising.{below_last}
use Rattle.live_callbacks.proofs.places.is_next.Goals as goal

told : (es : List Entry) (n : ℕ) (e : Entry) (b : Bool) → b ≡ nat_lt (get_or es (length es - 1) e).number n → EntriesRise es → OnTrue b (All (λ (x : Entry). x.number < n) es)
told es n e true is rising = below_last es n e rising (ltb-true _ _ (let same : nat_lt (get_or es (length es - 1) e).number n ≡ true = cc in same))
told es n e false is rising = tt

pub returns-else-len-eq0-clause-last : goal.returns-else-len-eq0-clause-last
returns-else-len-eq0-clause-last c = told c.args.entries.now c.args.number _ _ refl c.requires
