use Rattle.std.proofs.Common.{ℕ, ◌<◌, List, length, ap, ◌∙◌}
use Rattle.std.proofs.lemmas.List.{get_or_default}
use Rattle.live_callbacks.specs.declared.places.Entry.{Entry}
use Rattle.live_callbacks.specs.Places.{IsPlaceOf}
use Rattle.live_callbacks.proofs.Numbers.{find_absent, find_left}
use Rattle.live_callbacks.proofs.places.place_of.Goals as goal

within : (es : List Entry) (n i : ℕ) → IsPlaceOf es n i → i < length es
within es n i place = place.within

pub returns-then-entries-place : goal.returns-then-entries-place
returns-then-entries-place c = record {
  entry = c.in-Some.ensures;
  there = λ d. ap (λ (e : Entry). e.there) (get_or_default c.args.entries.now _ d _ (within c.args.entries.now c.args.number _ c.in-Some.ensures)) ∙ c.if-entries-place.true;
}

pub returns-else-entries-place : goal.returns-else-entries-place
returns-else-entries-place c = find_left c.args.number _ _ _ c.in-Some.ensures c.if-entries-place.false

pub returns-in-None : goal.returns-in-None
returns-in-None c = find_absent c.args.number _ c.in-None.ensures
