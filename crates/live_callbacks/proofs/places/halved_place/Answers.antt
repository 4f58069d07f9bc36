use Rattle.std.proofs.Common.{ap, ◌∙◌, arith}
use Rattle.std.proofs.lemmas.List.{get_or_default}
use Rattle.live_callbacks.specs.declared.places.Entry.{Entry}
use Rattle.live_callbacks.proofs.Rising.{place_here, place_missing}
use Rattle.live_callbacks.proofs.places.halved_place.Goals as goal
use Rattle.live_callbacks.proofs.places.halved_place.Goals.{else-place-entries-via-then-place-entries+else-entries-place, else-place-entries-via-else-place-entries}

pub returns-then-entries-place : goal.returns-then-entries-place
returns-then-entries-place c = place_here _ _ _ c.requires c.if-place-entries.true _ c.if-entries-place.true

pub returns-else-place-entries : goal.returns-else-place-entries
returns-else-place-entries c =
    place_missing _ _ _ c.first_from-place.ensures.parted c.requires (λ d within same.
    elim c.else-place-entries.branch [
      | else-place-entries-via-then-place-entries+else-entries-place w ↦
          w.if-entries-place.false (ap (λ (e : Entry). e.number) (get_or_default _ _ _ d within) ∙ same)
      | else-place-entries-via-else-place-entries w ↦ omega (arith, w.if-place-entries.false)
    ])
