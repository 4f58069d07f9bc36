-- Places in a row whose names are forgotten, one after another.
use Rattle.std.proofs.Common.{◌≡◌, ◌<◌, ℕ, ◌+◌, List, [], ◌∷◌, ◌++◌, length, take, get_or, ap, ◌∙◌, arith}
use Rattle.std.proofs.lemmas.List.{length-take, take_more}
use Rattle.tp_base.specs.declared.limits.Limits.{Limits}
use Rattle.part_places.specs.declared.place.Place.{Place}
use Rattle.tp_explore.specs.Boards.{actor_of}
use Rattle.tp_explore.specs.Closing.{named_place, named_row}

module _ (limits : Limits) (name : ℕ → ℕ) where
  row_more : (front : ℕ) (places : List Place) (p : Place) → named_row limits name front (places ++ p ∷ []) ≡ named_row limits name front places ++ named_place name (actor_of limits (front + length places + 1)) p ∷ []
  row_more front [] p = ap (λ n. named_place name (actor_of limits n) p ∷ []) (omega arith)
  row_more front (q ∷ places) p =
      let further : front + 1 + length places + 1 ≡ front + length (q ∷ places) + 1 = omega arith in
      ap (λ ps. named_place name (actor_of limits (front + 1)) q ∷ ps) (row_more (front + 1) places p ∙ ap (λ n. named_row limits name (front + 1) places ++ named_place name (actor_of limits n) p ∷ []) further)

  -- the place at an index, too
  pub row_next : (places : List Place) (at : ℕ) (p : Place) → at < length places → get_or places at p ≡ p → named_row limits name 0 (take (at + 1) places) ≡ named_row limits name 0 (take at places) ++ named_place name (actor_of limits (at + 1)) p ∷ []
  row_next places at p less is =
      let long : 0 + length (take at places) + 1 ≡ at + 1 = omega (arith, less, length-take at places) in
      ap (named_row limits name 0) (take_more places at p less ∙ ap (λ q. take at places ++ q ∷ []) is)
      ∙ row_more 0 (take at places) p
      ∙ ap (λ n. named_row limits name 0 (take at places) ++ named_place name (actor_of limits n) p ∷ []) long
