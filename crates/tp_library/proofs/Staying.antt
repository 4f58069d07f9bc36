-- A callback keeps its number and its object, whatever becomes of it.
use Rattle.std.proofs.Common.{◌≡◌, ◌≢◌, ℕ, ◌+◌, ◌<◌, Bool, true, false, cond, List, [], ◌∷◌, length, Some, refl, sym, ap, ◌∙◌, subst, arith, find, eqb-true, ◌&&◌, not}
use Rattle.std.specs.List.{AllByRecursion}
use Rattle.tp_base.specs.declared.answers.Entry.{Entry}
use Rattle.tp_base.specs.declared.ids.ObjectId.{ObjectId}
use Rattle.tp_base.specs.declared.rows.CallbackRow.{CallbackRow}
use Rattle.tp_base.specs.declared.rows.ObjectRow.{ObjectRow}
use Rattle.tp_base.specs.declared.rows.Status.TheVariants.{Running}
use Rattle.tp_base.specs.declared.rows.WorkerRow.{WorkerRow}
use Rattle.tp_model.specs.Changes.{operated, replaced, returned, taken}
use Rattle.tp_model.specs.Counts.{has_number}
use Rattle.tp_model.specs.Support.Moves.{Amend, asked_slots, Attach, Cancel, Detach, Mark, Move, Operate, Return, Stay, Take}
use Rattle.tp_model.specs.Support.Sound.{IsCallbackSound, IsMade, IsRising}
use Rattle.tp_model.specs.Waits.{cancel_where, cancelled}
use Rattle.tp_model.specs.World.{World}
use Rattle.tp_model.proofs.Callbacks.{find_replaced, find_replaced_other, length_replaced, rising_bound}
use Rattle.tp_model.proofs.Cancelling.{cancelled_found, cancelled_if, find_cancelled, length_cancelled}
use Rattle.tp_model.proofs.Firing.{numbered_made}
use Rattle.tp_model.proofs.Lists.{all_along, all_map, find_all}
use Rattle.tp_library.proofs.Moving.{found_number, some_same}

-- what is known of a callback by its number and its object
abbrev pub AllOf : (ℕ → ObjectId → Type 0) → List CallbackRow → Type 0
AllOf P cs = AllByRecursion (λ (c : CallbackRow). P c.number c.object) cs

-- a row found for a number, with the object of another
pub record IsFoundAs (cs : List CallbackRow) (number : ℕ) (object : ObjectId) : Type 0 where
  pub row : CallbackRow
  pub found : find (has_number number) cs ≡ Some row
  pub same : row.object ≡ object

module _ (new old : CallbackRow) (cs : List CallbackRow) (found : find (has_number new.number) cs ≡ Some old) (object : new.object ≡ old.object) where
  all_replaced : (P : ℕ → ObjectId → Type 0) → AllOf P cs → AllOf P (replaced new cs)
  all_replaced P all = all_map (λ (c : CallbackRow). P c.number c.object) (λ c. cond (has_number new.number c) new c) one cs all
    where
      of_old : P old.number old.object
      of_old = find_all (λ (c : CallbackRow). P c.number c.object) (has_number new.number) old cs all found

      of_new : P new.number new.object
      of_new = subst (λ n. P n new.object) (found_number new.number old cs found) (subst (P old.number) (sym object) of_old)

      one : (c : CallbackRow) → P c.number c.object → P (cond (has_number new.number c) new c).number (cond (has_number new.number c) new c).object
      one c holds = elim (has_number new.number c) as (λ b. P (cond b new c).number (cond b new c).object) [ true ↦ of_new | false ↦ holds ]

  found_replaced : (n : ℕ) (c : CallbackRow) → find (has_number n) cs ≡ Some c → IsFoundAs (replaced new cs) n c.object
  found_replaced n c there = of_number (has_number n new) refl
    where
      of_number : (b : Bool) → has_number n new ≡ b → IsFoundAs (replaced new cs) n c.object
      of_number false other = record { row = c; found = find_replaced_other new n cs other ∙ there; same = refl }
      of_number true is =
          let number : new.number ≡ n = eqb-true new.number n is in
          let was : Some old ≡ Some c = sym found ∙ ap (λ m. find (has_number m) cs) number ∙ there in
          record {
            row = new;
            found = ap (λ m. find (has_number m) (replaced new cs)) (sym number) ∙ find_replaced new old cs found;
            same = object ∙ ap (λ (x : CallbackRow). x.object) (some_same old c was);
          }

module _ (test : CallbackRow → Bool) (cs : List CallbackRow) where
  all_cancelled : (P : ℕ → ObjectId → Type 0) → AllOf P cs → AllOf P (cancel_where test cs)
  all_cancelled P all = all_map (λ (c : CallbackRow). P c.number c.object) (cancelled_if test) one cs all
    where
      one : (c : CallbackRow) → P c.number c.object → P (cancelled_if test c).number (cancelled_if test c).object
      one c holds = elim (test c) as (λ b. P (cond b (cancelled c) c).number (cond b (cancelled c) c).object) [ true ↦ holds | false ↦ holds ]

  found_cancelled : (n : ℕ) (c : CallbackRow) → find (has_number n) cs ≡ Some c → IsFoundAs (cancel_where test cs) n c.object
  found_cancelled n c there =
      record {
        row = cancelled_if test c;
        found = find_cancelled test cs n ∙ ap (cancelled_found test) there;
        same = elim (test c) as (λ b. (cond b (cancelled c) c).object ≡ c.object) [ true ↦ refl | false ↦ refl ];
      }

-- ---- by moves

-- as many as before; what was known of each is known of it, and each number finds a row of the object that it found
pub record AreStill (P : ℕ → ObjectId → Type 0) (before cs : List CallbackRow) : Type 0 where
  pub length_same : length cs ≡ length before
  pub all : AllOf P cs
  pub found : (n : ℕ) (c : CallbackRow) → find (has_number n) before ≡ Some c → IsFoundAs cs n c.object

module _ (P : ℕ → ObjectId → Type 0) (w : World) (all : AllOf P w.callbacks) where
  still_same : AreStill P w.callbacks w.callbacks
  still_same = record { length_same = refl; all = all; found = λ n c there. record { row = c; found = there; same = refl } }

  still_replaced : (new old : CallbackRow) → find (has_number new.number) w.callbacks ≡ Some old → new.object ≡ old.object → AreStill P w.callbacks (replaced new w.callbacks)
  still_replaced new old found object =
      record { length_same = length_replaced new w.callbacks; all = all_replaced new old w.callbacks found object P all; found = found_replaced new old w.callbacks found object }

  still_cancelled : (test : CallbackRow → Bool) → AreStill P w.callbacks (cancel_where test w.callbacks)
  still_cancelled test = record { length_same = length_cancelled test w.callbacks; all = all_cancelled test w.callbacks P all; found = found_cancelled test w.callbacks }

  pub move_still : (entry : Entry) (kept : List CallbackRow) (staff : List WorkerRow) → Move w entry kept staff → AreStill P w.callbacks kept
  move_still entry kept staff (Stay m) = subst (AreStill P w.callbacks) (sym m.callbacks) still_same
  move_still entry kept staff (Attach m) = subst (AreStill P w.callbacks) (sym m.callbacks) still_same
  move_still entry kept staff (Detach m) = subst (AreStill P w.callbacks) (sym m.callbacks) still_same
  move_still entry kept staff (Mark m) = subst (AreStill P w.callbacks) (sym m.callbacks) (still_replaced m.new m.old m.found m.object)
  move_still entry kept staff (Take m) = subst (AreStill P w.callbacks) (sym m.callbacks) (still_replaced (taken m.callback m.worker) m.callback m.found refl)
  move_still entry kept staff (Return m) = subst (AreStill P w.callbacks) (sym m.callbacks) (still_replaced (returned m.callback) m.callback m.found refl)
  move_still entry kept staff (Amend m) =
      subst (AreStill P w.callbacks) (sym m.callbacks)
      (still_replaced (record m.callback { status = Running m.worker (m.associated && not m.loose) (asked_slots m.asks m.slots) }) m.callback m.found refl)
  move_still entry kept staff (Operate m) = subst (AreStill P w.callbacks) (sym m.callbacks) (still_replaced (operated m.how m.callback) m.callback m.found refl)
  move_still entry kept staff (Cancel m) = subst (AreStill P w.callbacks) (sym m.callbacks) (still_cancelled m.test)

-- ---- numbers and objects of a sound world

pub rising_below : (low next_number : ℕ) (cs : List CallbackRow) → IsRising low next_number cs → AllByRecursion (λ (c : CallbackRow). c.number < next_number) cs
rising_below low next_number [] rises = tt
rising_below low next_number (c ∷ cs) rises = (omega (arith, rising_bound (c.number + 1) next_number cs rises.1), rising_below (c.number + 1) next_number cs rises.1)

-- a callback has no object, or one that was made
abbrev pub IsOfMade : ℕ → ℕ → ObjectId → Type 0
IsOfMade objects number object = object.0 ≢ 0 → IsMade objects object.0

pub sound_made : (objects : List ObjectRow) (cs : List CallbackRow) → AllByRecursion (IsCallbackSound objects) cs → AllOf (IsOfMade (length objects)) cs
sound_made objects cs all = all_along (IsCallbackSound objects) (λ (c : CallbackRow). IsOfMade (length objects) c.number c.object) (λ c sound some. numbered_made objects c.object.0 (sound some).row (sound some).stands) cs all
