-- A shelf that is answered has one more place at most, behind those that it had.
use Rattle.std.proofs.Common.{if◌then◌else◌, ◌≡◌, ◌≢◌, ℕ, zero, suc, ◌-◌, ◌<◌, ◌≤◌, Bool, true, false, cond, ◌==◌, List, [], ◌∷◌, ◌++◌, length, Option, Some, None, refl, sym, ap, ◌∙◌, arith, find, ne_eqb, slice_get}
use Rattle.std.specs.List.{AllByRecursion}
use Rattle.std.specs.Option.{option_map_or, unwrap_or}
use Rattle.std.proofs.lemmas.List.{append-nil}
use Rattle.tp_base.specs.declared.answers.Answer.{Answer}
use Rattle.tp_base.specs.declared.answers.Answer.TheVariants.{Made, Queued, Returned}
use Rattle.tp_base.specs.declared.calls.Call.{Call}
use Rattle.tp_base.specs.declared.calls.Call.TheVariants.{Create, Return, SubmitSimple}
use Rattle.tp_base.specs.declared.ids.Who.{Who}
use Rattle.tp_base.specs.declared.ids.Who.TheVariants.{Client, Worker}
use Rattle.tp_model.specs.Counts.{numbered}
use Rattle.tp_model.specs.Support.Sound.{IsMade}
use Rattle.tp_model.proofs.Refusals.{false_true}
use Rattle.tp_library.specs.Libraries.{freed_slot, shelf_answered, slot_of, with_slot}
use Rattle.tp_library.specs.Shelves.{library_at, library_of_object, library_of_simple, Shelf}

abbrev pub more_objects : Call → ℕ → Answer → List ℕ
more_objects (Create kind routine context env) library (Made number) = library ∷ []
more_objects call library told = []

abbrev pub more_simples : Call → ℕ → Answer → List (ℕ × ℕ)
more_simples (SubmitSimple routine context env) library (Queued first count) = if library == 0 then [] else (first, library) ∷ []
more_simples call library told = []

pub record Grows (s now : Shelf) (objects : List ℕ) (simples : List (ℕ × ℕ)) : Type 0 where
  pub of_object : now.of_object ≡ s.of_object ++ objects
  pub of_simple : now.of_simple ≡ s.of_simple ++ simples

same_shelf : (s now : Shelf) → now.of_object ≡ s.of_object → now.of_simple ≡ s.of_simple → Grows s now [] []
same_shelf s now objects simples = record { of_object = objects ∙ sym (append-nil s.of_object); of_simple = simples ∙ sym (append-nil s.of_simple) }

pub answered : (s : Shelf) (who : Who) (call : Call) (library : ℕ) (told : Answer) → Grows s (shelf_answered s who call library told) (more_objects call library told) (more_simples call library told)
answered s who (Create kind routine context env) library (Made number) = record { of_object = refl; of_simple = sym (append-nil s.of_simple) }
answered s who (SubmitSimple routine context env) library (Queued first count) =
    elim (library == 0) as (λ b. Grows s (cond b s (record s { of_simple = s.of_simple ++ (first, library) ∷ [] })) [] (cond b [] ((first, library) ∷ []))) [
      | true ↦ same_shelf s s refl refl
      | false ↦ record { of_object = sym (append-nil s.of_object); of_simple = refl }
    ]
answered s (Client number) Return library (Returned section mutex semaphore event first count) = same_shelf s (freed_slot s 0) refl refl
answered s (Worker number) Return library (Returned section mutex semaphore event first count) = same_shelf s (with_slot (freed_slot s (slot_of s (Worker number))) (Worker number) 0) refl refl
answered s who call library told = same_shelf s s refl refl

-- ---- libraries of what was there before

find_before : {X : Type 0} (p : X → Bool) (xs ys : List X) → AllByRecursion (λ x. p x ≡ false) ys → find p (xs ++ ys) ≡ find p xs
find_before p [] [] none = refl
find_before p [] (y ∷ ys) none = ap (λ b. cond b (Some y) (find p ys)) none.0 ∙ find_before p [] ys none.1
find_before p (x ∷ xs) ys none = ap (λ o. cond (p x) (Some x) o) (find_before p xs ys none)

slice_get_front : {X : Type 0} (xs ys : List X) (i : ℕ) → i < length xs → slice_get (xs ++ ys) i ≡ slice_get xs i
slice_get_front [] ys i below = absurd (omega (arith, below))
slice_get_front (x ∷ xs) ys zero below = refl
slice_get_front (x ∷ xs) ys (suc i) below = slice_get_front xs ys i (omega (arith, below))

pub numbered_front : {X : Type 0} (xs ys : List X) (n : ℕ) → IsMade (length xs) n → numbered (xs ++ ys) n ≡ numbered xs n
numbered_front xs ys n made = ap (λ o. cond (n == 0) None o) (slice_get_front xs ys (n - 1) (omega (arith, made.0, made.1)))

-- the simple callbacks that are added aren't below a number
abbrev pub AreFrom : ℕ → List (ℕ × ℕ) → Type 0
AreFrom number simples = AllByRecursion (λ (m : ℕ × ℕ). number ≤ m.0) simples

module _ (s now : Shelf) (objects : List ℕ) (simples : List (ℕ × ℕ)) (grown : Grows s now objects simples) where
  object_library : (object : ℕ) → IsMade (length s.of_object) object → library_of_object now object ≡ library_of_object s object
  object_library object made = ap (λ (os : List ℕ). unwrap_or (numbered os object) 0) grown.of_object ∙ ap (λ (o : Option ℕ). unwrap_or o 0) (numbered_front s.of_object objects object made)

  simple_library : (number next_number : ℕ) → number < next_number → AreFrom next_number simples → library_of_simple now number ≡ library_of_simple s number
  simple_library number next_number below from =
      ap (λ (ms : List (ℕ × ℕ)). option_map_or (λ (m : ℕ × ℕ). m.1) (find (λ (m : ℕ × ℕ). m.0 == number) ms) 0) grown.of_simple
      ∙ ap (λ (o : Option (ℕ × ℕ)). option_map_or (λ (m : ℕ × ℕ). m.1) o 0) (find_before (λ (m : ℕ × ℕ). m.0 == number) s.of_simple simples (others simples from))
    where
      others : (ms : List (ℕ × ℕ)) → AreFrom next_number ms → AllByRecursion (λ (m : ℕ × ℕ). (m.0 == number) ≡ false) ms
      others [] from = tt
      others (m ∷ ms) from = (ne_eqb m.0 number (λ e. omega (arith, e, from.0, below)), others ms from.1)

  -- a callback of a lower number, with no object or one that has its place
  pub library_still : (number next_number object : ℕ) → number < next_number → (object ≢ 0 → IsMade (length s.of_object) object) → AreFrom next_number simples → library_at now number object ≡ library_at s number object
  library_still number next_number object below made from = of_object (object == 0) refl
    where
      of_object : (b : Bool) → (object == 0) ≡ b → cond b (library_of_simple now number) (library_of_object now object) ≡ cond b (library_of_simple s number) (library_of_object s object)
      of_object true is = simple_library number next_number below from
      of_object false is = object_library object (made (λ zero. false_true (sym is ∙ ap (λ n. n == 0) zero)))
