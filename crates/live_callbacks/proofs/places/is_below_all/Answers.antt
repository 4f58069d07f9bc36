use Rattle.std.proofs.Common.{◌≡◌, ◌<◌, ℕ, Bool, true, false, List, get_or, ltb-true, refl}
use Rattle.std.specs.List.{All}
use Rattle.std.specs.Bool.{OnTrue}
use Rattle.std.specs.Prelude.{nat_lt}
use Rattle.live_callbacks.specs.declared.places.Entry.{Entry}
use Rattle.live_callbacks.specs.Places.{EntriesRise}
use Rattle.live_callbacks.proofs.Rising.{above_first}
use Rattle.live_callbacks.proofs.places.is_below_all.Goals as goal

told : (es : List Entry) (n : ℕ) (e : Entry) (b : Bool) → b ≡ nat_lt n (get_or es 0 e).number → EntriesRise es → OnTrue b (All (λ (x : Entry). n < x.number) es)
told es n e true is rising = above_first es n e rising (ltb-true _ _ (let same : nat_lt n (get_or es 0 e).number ≡ true = cc in same))
told es n e false is rising = tt

pub returns-else-entries-eq0 : goal.returns-else-entries-eq0
returns-else-entries-eq0 c = told c.args.entries.now c.args.number _ _ refl c.requires
