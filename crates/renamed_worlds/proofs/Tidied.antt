-- What is no more outstanding never comes back. So behind a change waits cover the same of what is outstanding, whether they
-- covered more before or not.
use Rattle.std.proofs.Common.{◌≡◌, ℕ, ◌+◌, ◌<◌, ◌==◌, ◌&&◌, Bool, true, false, cond, List, [], ◌∷◌, map, Option, Some, None, refl, sym, ap, ap₂, ◌∙◌, filter, find, ◌⊎◌, inl, inr, arith}
use Rattle.std.specs.List.{AllByRecursion}
use Rattle.std.specs.Option.{option_map_or}
use Rattle.tp_base.specs.declared.answers.Answer.{Answer}
use Rattle.tp_base.specs.declared.calls.Call.{Call}
use Rattle.tp_base.specs.declared.ids.GroupId.{GroupId}
use Rattle.tp_base.specs.declared.ids.ObjectId.{ObjectId}
use Rattle.tp_base.specs.declared.ids.Who.{Who}
use Rattle.tp_base.specs.declared.plans.Change.{Change}
use Rattle.tp_base.specs.declared.rows.CallbackRow.{CallbackRow}
use Rattle.tp_base.specs.declared.rows.WaitTarget.{WaitTarget}
use Rattle.tp_base.specs.declared.rows.WaitTarget.TheVariants.{Group, Kernel, Object}
use Rattle.tp_model.specs.World.{World, BegunWait}
use Rattle.tp_model.specs.Changes.{changed}
use Rattle.tp_model.specs.Counts.{has_number}
use Rattle.tp_model.specs.Support.Allowed.{news}
use Rattle.tp_model.specs.Support.Moves.{Moves}
use Rattle.tp_model.specs.Support.Remembered.{lives}
use Rattle.tp_model.specs.Support.Safe.{IsSafeChange}
use Rattle.tp_model.specs.Support.Sound.{IsSound, IsWaitSound}
use Rattle.tp_model.specs.Waits.{is_held_for, is_of, is_outstanding_for}
use Rattle.tp_model.proofs.CallbackMoves.{change_moves}
use Rattle.tp_model.proofs.Fates.{row_was, WasRow}
use Rattle.tp_model.proofs.Forgetting.{over_forget, over_not_outstanding}
use Rattle.tp_model.proofs.Places.{new_above}
use Rattle.tp_model.proofs.Refusals.{both, false_true}
use Rattle.tp_model.proofs.Sound.{changed_sound}

-- what a wait covers of the callbacks that are outstanding
abbrev pub is_held_among : List CallbackRow → WaitTarget → ℕ → Bool
is_held_among cs target n = option_map_or (is_outstanding_for target) (find (has_number n) cs) false

abbrev pub kept_by : List CallbackRow → BegunWait → BegunWait
kept_by cs b = record b { covered = filter (is_held_among cs b.target) b.covered }

-- a filter by p sees nothing of a filter by what p implies for the items that there are
pub filter_within : {X : Type 0} (p q : X → Bool) (xs : List X) → AllByRecursion (λ (x : X). q x ≡ false → p x ≡ false) xs → filter p (filter q xs) ≡ filter p xs
filter_within p q [] all = refl
filter_within {X} p q (x ∷ xs) all =
    elim (q x) as (λ b. q x ≡ b → filter p (cond b (x ∷ filter q xs) (filter q xs)) ≡ filter p (x ∷ xs)) [
      | true ↦ λ _. ap (λ t. cond (p x) (x ∷ t) t) (filter_within p q xs all.1)
      | false ↦ λ e. filter_within p q xs all.1 ∙ ap (λ b. cond b (x ∷ filter p xs) (filter p xs)) (sym (all.0 e))
    ] refl

module _ (next_number : ℕ) (w : World) (who : Who) (call : Call) (told : Answer) (how : Change) (s : IsSound next_number w) (safe : IsSafeChange next_number w who call told how) where
  abbrev after : World
  after = changed w how

  moves : Moves next_number w (record { who = who; call = call; answer = told }) after
  moves = change_moves next_number w (record { who = who; call = call; answer = told }) how s safe.allowed safe.made_by safe.tells

  of_was : (target : WaitTarget) (old new : CallbackRow) → new.object ≡ old.object → new.group ≡ old.group → is_of target new ≡ is_of target old
  of_was (Object object) old new same group = ap (λ (o : ObjectId). o.0 == object.0) same
  of_was (Group it) old new object same = ap (λ (g : GroupId). g.0 == it.0) same
  of_was (Kernel kernel) old new object group = refl

  -- what was made before and isn't outstanding is not outstanding behind the change
  never_back : (target : WaitTarget) (n : ℕ) → n < next_number → is_held_among w.callbacks target n ≡ false → is_held_among after.callbacks target n ≡ false
  never_back target n made out = of_row (find (has_number n) after.callbacks) refl
    where
      of_kept : (c : CallbackRow) (b : Bool) → find (has_number n) after.callbacks ≡ Some c → is_outstanding_for target c ≡ b → b ≡ false
      of_kept c false found is = refl
      of_kept c true found is = absurd (of_either (row_was next_number w _ after n c moves found))
        where
          of_old : WasRow w n c → ⊥
          of_old was =
              let parts = both (is_of target c) (is_held_for target c.status) is in
              let held : is_outstanding_for target was.old ≡ true = ap₂ (λ a b. a && b) (sym (of_was target was.old c was.object was.group) ∙ parts.0) (was.follows.held target parts.1) in
              false_true (sym out ∙ ap (λ o. option_map_or (is_outstanding_for target) o false) was.found ∙ held)

          of_either : WasRow w n c ⊎ (find (has_number n) moves.new ≡ Some c) → ⊥
          of_either (inl was) = of_old was
          of_either (inr new) = omega (arith, made, new_above next_number n moves.new c moves.rows new)

      of_row : (o : Option CallbackRow) → find (has_number n) after.callbacks ≡ o → option_map_or (is_outstanding_for target) o false ≡ false
      of_row None found = refl
      of_row (Some c) found = of_kept c (is_outstanding_for target c) found refl

  never_back_living : (target : WaitTarget) (n : ℕ) → n < next_number → is_held_among w.callbacks target n ≡ false → is_held_among (filter lives after.callbacks) target n ≡ false
  never_back_living target n made out =
      over_forget (is_outstanding_for target) (over_not_outstanding target) 1 (next_number + news how) n after.callbacks (changed_sound next_number w how s safe.allowed).numbers ∙ never_back target n made out

  abbrev left : List CallbackRow
  left = filter lives after.callbacks

  covered_again : (target : WaitTarget) (ns : List ℕ) → AllByRecursion (λ n. n < next_number) ns → filter (is_held_among left target) (filter (is_held_among w.callbacks target) ns) ≡ filter (is_held_among left target) ns
  covered_again target ns made = filter_within (is_held_among left target) (is_held_among w.callbacks target) ns (each ns made)
    where
      each : (ms : List ℕ) → AllByRecursion (λ n. n < next_number) ms → AllByRecursion (λ n. is_held_among w.callbacks target n ≡ false → is_held_among left target n ≡ false) ms
      each [] all = tt
      each (m ∷ ms) all = (never_back_living target m all.0, each ms all.1)

  pub kept_again : (b : BegunWait) → IsWaitSound next_number w.callbacks b → kept_by left (kept_by w.callbacks b) ≡ kept_by left b
  kept_again b sound = ap (λ ns. record b { covered = ns }) (covered_again b.target b.covered sound.made)

  pub all_kept_again : (bs : List BegunWait) → AllByRecursion (IsWaitSound next_number w.callbacks) bs → map (kept_by left) (map (kept_by w.callbacks) bs) ≡ map (kept_by left) bs
  all_kept_again [] sound = refl
  all_kept_again (b ∷ bs) sound = ap₂ (λ x xs. x ∷ xs) (kept_again b sound.0) (all_kept_again bs sound.1)
