-- A seat that is cut in two, and two that become one, keep the rule.
use Rattle.std.proofs.Common.{◌≡◌, ℕ, suc, ◌+◌, false, true≢false, List, [], ◌∷◌, ◌++◌, set, All, sym, ap, ◌∙◌, subst, ⊎_elim, inl, inr, arith}
use Rattle.std.proofs.lemmas.List.Elements.{All-nil, All-cons, All-head, All-tail, All-append}
use mathlib.Core.Option.{some}
use lib.ListN.{get_elem?}
use Rattle.atomic_table.specs.Table.{State, Splits, Joins}
use Rattle.atomic_table.proofs.Lists.{at_snoc, set_else}
use Rattle.recorded.specs.Recordings.{Recording}
use Rattle.turn_lock.specs.declared.views.Setup.{Setup}
use Rattle.turn_lock.specs.declared.views.View.{View}
use Rattle.turn_lock.specs.Rule.{Stands, Fits, IsHeld, Ruled}
use Rattle.turn_lock.specs.Views.{part, HasNumber, copied, dealt, undealt, taking_in, spent_view, first_part, other_parts}
use Rattle.turn_lock.proofs.Beginnings.{starts_nothing}
use Rattle.turn_lock.proofs.Numbering.{at_other, dealt_above, dealt_from, each_set, held_set, once_joined, once_split}

module _ {B : Type 0} (recording : B → Recording) (setup : Setup) where
  abbrev Rule : State B View → Type 0
  Rule s = Ruled recording setup s

  -- ---- a seat is cut in two

  -- who holds the turn still does, where a view that doesn't is replaced
  held_beside : (views : List View) (id : ℕ) (v w : View) (holder : ℕ) → get_elem? views id ≡ some v → v.holds ≡ false → IsHeld views holder → IsHeld (set views id w) holder
  held_beside views id v w holder at off h = held_set views id v w holder at (λ _ on. absurd (true≢false (sym on ∙ off))) h

  splits : (s : State B View) (r : Rule s) (id : ℕ) (v left right : View) → get_elem? s.views id ≡ some v → v.holds ≡ false → Fits setup r.history r.holder left → Fits setup r.history r.holder right
      → ((n : ℕ) → HasNumber n left.parts → HasNumber n v.parts) → ((n : ℕ) → HasNumber n right.parts → HasNumber n v.parts) → ((n : ℕ) → HasNumber n left.parts → HasNumber n right.parts → ⊥)
      → Rule record { words = s.words; homes = s.homes; views = set s.views id left ++ right ∷ [] }
  splits s r id v left right at off left_fits right_fits from_left from_right apart = record {
    history = r.history;
    holder = r.holder;
    words = r.words;
    few = r.few;
    legal = r.legal;
    seated = r.seated;
    home = r.home;
    held = λ some_holder. let h = held_beside s.views id v left r.holder at off (r.held some_holder) in record { seat = h.seat; view = h.view; at = at_other (set s.views id left) (right ∷ []) h.seat h.view h.at; number = h.number; holds = h.holds };
    each = λ j u e. ⊎_elim
        (λ (there : get_elem? (set s.views id left) j ≡ some u). each_set (Fits setup r.history r.holder) s.views id left left_fits (λ i x _ d. r.each i x d) j u there)
        (λ (is : right ≡ u). subst (Fits setup r.history r.holder) is right_fits)
        (at_snoc (set s.views id left) right u j e);
    once = once_split s.views id v left right at from_left from_right apart r.once;
  }

  pub copies : (id : ℕ) (v : View) → v.holds ≡ false → Splits Rule id v v (copied v)
  copies id v off s r at = let f = r.each id v at in
      splits s r id v v (copied v) at off f
      (record { setup_is = f.setup_is; seen = f.seen; told = starts_nothing r.history; parts = All-nil (Stands setup r.history); turn = λ on. absurd (true≢false (sym on)) })
      (λ _ has. has) (λ _ none_there. absurd none_there) (λ _ _ none_there. none_there)

  pub deals : (id low count : ℕ) (v : View) → v.holds ≡ false → v.parts ≡ dealt_from low (suc count) → Splits Rule id v (undealt v) (dealt v)
  deals id low count v off parts s r at =
      let f = r.each id v at in
      let first : first_part v.parts ≡ part low [] ∷ [] = ap first_part parts in
      let others : other_parts v.parts ≡ dealt_from (low + 1) count = ap other_parts parts in
      let stands = subst (All (Stands setup r.history)) parts f.parts in
      let one_stands : All (Stands setup r.history) (part low [] ∷ [])
      = All-cons (Stands setup r.history) (part low []) [] (All-head (Stands setup r.history) (part low []) (dealt_from (low + 1) count) stands) (All-nil (Stands setup r.history)) in
      splits s r id v (undealt v) (dealt v) at off
      (record { setup_is = f.setup_is; seen = f.seen; told = f.told; parts = subst (All (Stands setup r.history)) (sym others) (All-tail (Stands setup r.history) (part low []) (dealt_from (low + 1) count) stands); turn = λ on. absurd (true≢false (sym on ∙ off)) })
      (record { setup_is = f.setup_is; seen = f.seen; told = starts_nothing r.history; parts = subst (All (Stands setup r.history)) (sym first) one_stands; turn = λ on. absurd (true≢false (sym on)) })
      (λ n has. subst (HasNumber n) (sym parts) (inr (subst (HasNumber n) others has)))
      (λ n has. subst (HasNumber n) (sym parts) (⊎_elim (λ (is : low ≡ n). inl is) (λ (none_there : ⊥). absurd none_there) (subst (HasNumber n) first has)))
      (λ n left right. let above = dealt_above (low + 1) count n (subst (HasNumber n) others left) in
      ⊎_elim (λ (is : low ≡ n). absurd (omega arith)) (λ (none_there : ⊥). none_there) (subst (HasNumber n) first right))

  -- ---- two seats become one

  pub takes_in : (id other : ℕ) (v w : View) → v.holds ≡ false → w.holds ≡ false → Joins Rule id v other w (taking_in v w) spent_view
  takes_in id other v w off also_off s r at apart there =
      let both : View = taking_in v w in
      let views : List View = set s.views id both in
      let was : get_elem? s.views other ≡ some w = sym (set_else s.views id other both apart) ∙ there in
      let f = r.each id v at in
      let g = r.each other w was in record {
        history = r.history;
        holder = r.holder;
        words = r.words;
        few = r.few;
        legal = r.legal;
        seated = r.seated;
        home = r.home;
        held = λ some_holder. held_beside views other w spent_view r.holder there also_off (held_beside s.views id v both r.holder at off (r.held some_holder));
        each = each_set (Fits setup r.history r.holder) views other spent_view
            (record { setup_is = λ here. absurd (true≢false here); seen = starts_nothing r.history; told = starts_nothing r.history; parts = All-nil (Stands setup r.history); turn = λ on. absurd (true≢false (sym on)) })
            (λ j u _ e. each_set (Fits setup r.history r.holder) s.views id both
            (record { setup_is = f.setup_is; seen = f.seen; told = g.seen; parts = All-append (Stands setup r.history) v.parts w.parts f.parts g.parts; turn = λ on. absurd (true≢false (sym on ∙ off)) })
            (λ i x _ d. r.each i x d) j u e);
        once = once_joined s.views id other v w at was apart r.once;
      }
