-- The first callback that is left, as those above a number are gone along.
use Rattle.std.proofs.Common.{◌≡◌, ℕ, Bool, true, false, cond, List, [], ◌∷◌, map, nat_lt, option_map, Option, Some, None, refl, sym, ap, ◌∙◌, filter, find}
use Rattle.tp_base.specs.declared.ids.ObjectId.{ObjectId}
use Rattle.tp_base.specs.declared.rows.CallbackRow.{CallbackRow}
use Rattle.tp_base.specs.declared.rows.Status.{Status}
use Rattle.tp_model.specs.Laws.Once.{is_left}
use Rattle.tp_model.specs.Over.{left_after, row_of, status_of}
use Rattle.tp_model.specs.Support.Sound.{IsRising}
use Rattle.tp_model.specs.World.{World}
use Rattle.tp_model.specs.declared.Left.{Left}
use Rattle.live_queries.proofs.Above.{above, first_above, none_above}

abbrev pub is_left_callback : CallbackRow → Bool
is_left_callback c = is_left c.status

abbrev pub left_row : CallbackRow → ℕ × ObjectId × Status
left_row c = (c.number, c.object, c.status)

-- a row of what is left is found by its callback
found_in : (n : ℕ) (cs : List CallbackRow) → find (λ (row : ℕ × ObjectId × Status). nat_lt n row.0) (map left_row (filter is_left_callback cs)) ≡ option_map left_row (find is_left_callback (filter (λ c. nat_lt n c.number) cs))
found_in n [] = refl
found_in n (c ∷ cs) =
    elim (is_left c.status) as (λ b. is_left c.status ≡ b → find (λ (row : ℕ × ObjectId × Status). nat_lt n row.0)
    (map left_row (cond b (c ∷ filter is_left_callback cs) (filter is_left_callback cs))) ≡ option_map left_row (find is_left_callback (filter (λ (x : CallbackRow). nat_lt n x.number) (c ∷ cs)))) [
      | true ↦ λ e. elim (nat_lt n c.number) as (λ t. cond t (Some (left_row c))
          (find (λ (row : ℕ × ObjectId × Status). nat_lt n row.0) (map left_row (filter is_left_callback cs))) ≡ option_map left_row
          (find is_left_callback (cond t (c ∷ filter (λ (x : CallbackRow). nat_lt n x.number) cs) (filter (λ (x : CallbackRow). nat_lt n x.number) cs)))) [
            | true ↦ ap (λ t. option_map left_row (cond t (Some c) (find is_left_callback (filter (λ (x : CallbackRow). nat_lt n x.number) cs)))) (sym e)
            | false ↦ found_in n cs
          ]
      | false ↦ λ e. elim (nat_lt n c.number) as (λ t. find (λ (row : ℕ × ObjectId × Status). nat_lt n row.0) (map left_row (filter is_left_callback cs))
          ≡ option_map left_row (find is_left_callback (cond t (c ∷ filter (λ (x : CallbackRow). nat_lt n x.number) cs) (filter (λ (x : CallbackRow). nat_lt n x.number) cs)))) [
            | true ↦ found_in n cs ∙ ap (λ t. option_map left_row (cond t (Some c) (find is_left_callback (filter (λ (x : CallbackRow). nat_lt n x.number) cs)))) (sym e)
            | false ↦ found_in n cs
          ]
    ] refl

-- none of those that were gone past is left
abbrev pub IsSought : ℕ → ℕ → List CallbackRow → Type 0
IsSought n passed cs = find is_left_callback (above passed cs) ≡ find is_left_callback (above n cs)

-- the next one is left, or it is gone past
pub record Seeks (n : ℕ) (w : World) (c : CallbackRow) : Type 0 where
  pub found : (left : Left) → Some (status_of left) ≡ cond (is_left c.status) (Some c.status) None → Some (row_of (c.number, c.object, left)) ≡ left_after w n
  pub others : None ≡ cond (is_left c.status) (Some c.status) None → IsSought n c.number w.callbacks

pub seeks : (n passed next_number : ℕ) (w : World) (c : CallbackRow) → IsRising 1 next_number w.callbacks → find (λ (x : CallbackRow). nat_lt passed x.number) w.callbacks ≡ Some c → IsSought n passed w.callbacks → Seeks n w c
seeks n passed next_number w c rising is sought =
    record {
      found = λ left told. of_status left (is_left c.status) refl told;
      others = λ told. skipped (is_left c.status) refl told ∙ here;
    }
  where
    behind : Option CallbackRow
    behind = find is_left_callback (above c.number w.callbacks)

    here : cond (is_left c.status) (Some c) behind ≡ find is_left_callback (above n w.callbacks)
    here = sym (ap (find is_left_callback) (first_above passed 1 next_number w.callbacks c rising is)) ∙ sought

    skipped : (b : Bool) → is_left c.status ≡ b → None ≡ cond b (Some c.status) None → behind ≡ cond (is_left c.status) (Some c) behind
    skipped true e told = absurd cc
    skipped false e told = ap (λ t. cond t (Some c) behind) (sym e)

    of_status : (left : Left) (b : Bool) → is_left c.status ≡ b → Some (status_of left) ≡ cond b (Some c.status) None → Some (row_of (c.number, c.object, left)) ≡ left_after w n
    of_status left false e told = absurd cc
    of_status left true e told =
        let same : status_of left ≡ c.status = cc in
        ap (λ (s : Status). Some (c.number, c.object, s)) same ∙ ap (option_map left_row) (ap (λ t. cond t (Some c) behind) (sym e) ∙ here) ∙ sym (found_in n w.callbacks)

-- none is left
pub none_left : (n passed : ℕ) (w : World) → find (λ (x : CallbackRow). nat_lt passed x.number) w.callbacks ≡ None → IsSought n passed w.callbacks → None ≡ left_after w n
none_left n passed w is sought = ap (option_map left_row) (sym (ap (find is_left_callback) (none_above passed w.callbacks is)) ∙ sought) ∙ sym (found_in n w.callbacks)
