-- A call of the machine is the step of the definition.
use Rattle.std.proofs.Common.{◌≡◌, ℕ, ◌+◌, ◌<◌, ◌≤◌, ◌==◌, ◌&&◌, ◌^◌, Bool, true, false, cond, length, nat_lt, None, Some, refl, sym, ap, ap₂, ◌∙◌, subst, arith}
use Rattle.std.specs.List.{range_with_len}
use Rattle.std.proofs.lemmas.Bool.Decides.{nat_tests}
use Rattle.std.proofs.lemmas.List.{append-nil}
use Rattle.tp_base.specs.declared.answers.Answer.{Answer}
use Rattle.tp_base.specs.declared.answers.Outcome.{Outcome}
use Rattle.tp_base.specs.declared.answers.Outcome.TheVariants as outcome
use Rattle.tp_base.specs.declared.calls.Call.{Call}
use Rattle.tp_base.specs.declared.ids.Who.{Who}
use Rattle.tp_base.specs.Ranges.{IsAnswerInRange}
use Rattle.tp_model.specs.Laws.Entries.{made_by}
use Rattle.tp_model.specs.Laws.Once.{left}
use Rattle.recorded.specs.Recordings.{outcome_behind, recorded, world_behind, Recording}
use Rattle.tp_library.specs.Tallied.{Tallied}
use Rattle.tp_library.specs.Effecting.{effect_of}
use Rattle.tp_library.specs.Kept.{held_by, stand_of, IsKept}
use Rattle.tp_library.specs.Noted.{CanNote, IsNoted}
use Rattle.tp_library.specs.Rows.{counted_left}
use Rattle.tp_library.specs.Libraries.{made_at, shelf_after, step_at, unless_refused}
use Rattle.tp_library.specs.Shelves.{holds, Shelf, Stand}
use Rattle.tp_library.specs.Tallies.{at}
use Rattle.tp_library.specs.declared.beside.Beside.{Beside}
use Rattle.tp_library.specs.declared.LibAnswer.{LibAnswer}
use Rattle.tp_library.specs.declared.LibAnswer.TheVariants as answer
use Rattle.tp_library.specs.declared.LibCall.TheVariants.{Pool}
use Rattle.tp_library.specs.declared.LibraryId.{LibraryId}
use Rattle.tp_library.specs.declared.LibRefusal.TheVariants.{LibraryNotLoaded}
use Rattle.tp_library.specs.declared.told.Effect.{Effect}
use Rattle.tp_library.specs.declared.TheConstants.{LIBRARY_LIMIT}
use Rattle.tp_library.proofs.Asked.{asked_kept, can_note, counted_fits, now_is, shelf_now}
use Rattle.tp_library.proofs.EffectsOf.{effects_of}
use Rattle.tp_library.proofs.Keeping.{holds_as}

abbrev IsRefused : Stand → ℕ → Bool
IsRefused t library = nat_lt 0 library && (holds t library == 0)

with_refusal : (t : Stand) (who : Who) (call : Call) (library : LibraryId) (refused : Bool) → IsRefused t library.0 ≡ refused
    → step_at t who (Pool call library) ≡ unless_refused (cond refused (Some LibraryNotLoaded) None) t (made_at t who (Pool call library))
with_refusal t who call library refused is = ap (λ b. unless_refused (cond b (Some LibraryNotLoaded) None) t (made_at t who (Pool call library))) is

zero_tests : (n m : ℕ) → n ≡ m → nat_lt 0 n ≡ false → (m == 0) ≡ true
zero_tests n m e h = grind (arith, nat_tests, e, h)

some_tests : (n m : ℕ) → n ≡ m → nat_lt 0 n ≡ true → (m == 0) ≡ false
some_tests n m e h = grind (arith, nat_tests, e, h)

and_false : (b : Bool) → (b && false) ≡ false
and_false true = refl
and_false false = refl

-- what a call comes to with this outcome
abbrev made_with : Recording → Shelf → Who → Call → ℕ → Outcome → Stand × LibAnswer
made_with r s who call library x = (record { recording = recorded r who call x; shelf = shelf_after s who call library x }, answer.Pool x)

abbrev paired : Outcome → Recording → Shelf → Stand × LibAnswer
paired x r s = (record { recording = r; shelf = s }, answer.Pool x)

module _ (r : Recording) (b : Beside) (k : IsKept r b) (who : Who) (call : Call) (library : LibraryId) (is_library : library.0 ≤ LIBRARY_LIMIT) where
  pub not_loaded : 0 < library.0 → nat_lt 0 (held_by b library.0) ≡ false → step_at (stand_of r b) who (Pool call library) ≡ (stand_of r b, answer.Refused LibraryNotLoaded)
  not_loaded some none =
      let above : nat_lt 0 library.0 ≡ true = grind (arith, nat_tests, some) in
      with_refusal (stand_of r b) who call library true
      (ap₂ (λ x y. x && y) above (zero_tests (held_by b library.0) (holds (stand_of r b) library.0) (holds_as r b k library.0 is_library) none))

  -- where it is loaded, or none is named
  pub loaded_or_none : (0 < library.0 → nat_lt 0 (held_by b library.0) ≡ true) → step_at (stand_of r b) who (Pool call library) ≡ made_at (stand_of r b) who (Pool call library)
  loaded_or_none held = with_refusal (stand_of r b) who call library false (elim (nat_lt 0 library.0) as (λ x. nat_lt 0 library.0 ≡ x → (x && (holds (stand_of r b) library.0 == 0)) ≡ false) [
    | true ↦ λ is.
        let above : 0 < library.0 = grind (arith, nat_tests, is) in
        some_tests (held_by b library.0) (holds (stand_of r b) library.0) (holds_as r b k library.0 is_library) (held above)
    | false ↦ λ is. refl
  ] refl)

  -- ---- where nothing happens

  module _ (told : Outcome) (none : (a : Answer) → told ≡ outcome.Done a → ⊥) where
    nothing_recorded : (x : Outcome) → ((a : Answer) → x ≡ outcome.Done a → ⊥) → recorded r who call x ≡ r
    nothing_recorded (outcome.Done a) not_done = absurd (not_done a refl)
    nothing_recorded (outcome.Look look) not_done = ap (λ h. record r { history = h }) (append-nil r.history)
    nothing_recorded (outcome.Full room cost) not_done = ap (λ h. record r { history = h }) (append-nil r.history)

    nothing_shelved : (x : Outcome) → ((a : Answer) → x ≡ outcome.Done a → ⊥) → shelf_after b.shelf.shelf who call library.0 x ≡ b.shelf.shelf
    nothing_shelved (outcome.Done a) not_done = absurd (not_done a refl)
    nothing_shelved (outcome.Look look) not_done = refl
    nothing_shelved (outcome.Full room cost) not_done = refl

    pub same_recording : (q : Recording) → q ≡ recorded r who call told → q ≡ r
    same_recording q is = is ∙ nothing_recorded told none

    pub nothing_happens : (q : Recording) → told ≡ outcome_behind r who call → q ≡ recorded r who call told → (0 < library.0 → nat_lt 0 (held_by b library.0) ≡ true)
        → step_at (stand_of r b) who (Pool call library) ≡ (stand_of q b, answer.Pool told)
    nothing_happens q is came held =
        loaded_or_none held
        ∙ ap (made_with r b.shelf.shelf who call library.0) (sym is)
        ∙ ap₂ (paired told) (sym came) (nothing_shelved told none)

  -- ---- where it is answered

  module _ (a : Answer) (told : outcome_behind r who call ≡ outcome.Done a) where
    pub may_note : CanNote b (effect_of call a) library.0
    may_note = can_note r b k who call library.0 a told (effects_of r k.legal who call a told) is_library

    module _ (q : Recording) (came : q ≡ recorded r who call (outcome.Done a)) (effect : Effect) (is : effect ≡ effect_of call a) (new : Beside) (noted : IsNoted b who effect library.0 new) (first count : ℕ) (made : made_by (record { who = who; call = call; answer = a }) ≡ range_with_len first count) (in_range : IsAnswerInRange a) where
      noted_as : IsNoted b who (effect_of call a) library.0 new
      noted_as = subst (λ (e : Effect). IsNoted b who e library.0 new) is noted

      -- what is counted, by the recording and the effect as they are called elsewhere
      same_counted : (l : ℕ) → counted_left new.shelf.shelf l effect first count (left (world_behind q)) new.counts.left ≡ counted_left new.shelf.shelf l (effect_of call a) first count (left (world_behind (recorded r who call (outcome.Done a)))) new.counts.left
      same_counted l = ap₂ (λ (x : Recording) (e : Effect). counted_left new.shelf.shelf l e first count (left (world_behind x)) new.counts.left) came is

      pub may_count : (l : ℕ) → l ≤ LIBRARY_LIMIT → counted_left new.shelf.shelf l effect first count (left (world_behind q)) new.counts.left < 2 ^ 64
      may_count l h = omega (arith, same_counted l, counted_fits r b k who call library.0 a told (effects_of r k.legal who call a told) new noted_as first count made in_range l h)

      pub answered_kept : (c : Tallied) → ((l : ℕ) → l ≤ LIBRARY_LIMIT → at c.left l ≡ counted_left new.shelf.shelf l effect first count (left (world_behind q)) new.counts.left) → length c.left ≡ LIBRARY_LIMIT + 1 → c ≡ record new.counts { left = c.left }
          → IsKept q (record { shelf = new.shelf; counts = c; actors = new.actors; before = new.before })
      answered_kept c left_is many same =
          subst (λ (x : Recording). IsKept x (record { shelf = new.shelf; counts = c; actors = new.actors; before = new.before })) (sym came)
          (asked_kept r b k who call library.0 a told (effects_of r k.legal who call a told) new noted_as first count made is_library in_range c (λ l h. left_is l h ∙ same_counted l) many same)

      pub answered_step : (c : Tallied) → (0 < library.0 → nat_lt 0 (held_by b library.0) ≡ true) → step_at (stand_of r b) who (Pool call library) ≡ (stand_of q (record { shelf = new.shelf; counts = c; actors = new.actors; before = new.before }), answer.Pool (outcome.Done a))
      answered_step c held =
          loaded_or_none held
          ∙ ap (made_with r b.shelf.shelf who call library.0) told
          ∙ ap₂ (paired (outcome.Done a)) (sym came)
          (now_is r b k who call library.0 a told (effects_of r k.legal who call a told) ∙ sym (shelf_now r b k who call library.0 a told (effects_of r k.legal who call a told) new noted_as first count made))
