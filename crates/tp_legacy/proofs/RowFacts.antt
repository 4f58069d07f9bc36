-- A registration that ends stays where it is.
use Rattle.std.proofs.Common.{true, ◌≡◌, ℕ, ◌-◌, ◌<◌, List, [], ◌∷◌, length, get_or, set, zero, suc, Some, refl, sym, ap, subst, arith}
use Rattle.std.specs.Prelude.{slice_set}
use Rattle.std.proofs.lemmas.List.{length-set}
use Rattle.std.proofs.lemmas.List.Elements.{All-set}
use Rattle.std.proofs.lemmas.Option.{get_or_from_slice_get, slice_get_within}
use Rattle.tp_model.specs.Counts.{numbered}
use Rattle.tp_model.proofs.Refusals.{numbered_some}
use Rattle.tp_legacy.specs.Kept.{AreRows, IsRegistration}
use Rattle.tp_legacy.specs.declared.rows.QueueTimer.{QueueTimer}
use Rattle.tp_legacy.specs.declared.rows.Registration.{Registration}
use Rattle.tp_legacy.specs.declared.rows.TimerQueue.{TimerQueue}

number_at : List Registration → ℕ → Registration → ℕ
number_at rows i d = (get_or rows i d).object.0

number_kept : (rows : List Registration) (p i : ℕ) (new d : Registration) → p < length rows → ((e : Registration) → new.object.0 ≡ (get_or rows p e).object.0) → (get_or (set rows p new) i d).object.0 ≡ (get_or rows i d).object.0
number_kept [] p i new d h e = refl
number_kept (row ∷ rows) zero zero new d h e = e d
number_kept (row ∷ rows) zero (suc i) new d h e = refl
number_kept (row ∷ rows) (suc p) zero new d h e = refl
number_kept (row ∷ rows) (suc p) (suc i) new d h e = number_kept rows p i new d (omega (arith, h)) e

pub ended_kept : (rows : List Registration) (queues : List TimerQueue) (timers : List QueueTimer) (number : ℕ) (row : Registration) → AreRows rows queues timers → numbered rows number ≡ Some row
    → AreRows (slice_set rows (number - 1) (record row { gone = true })) queues timers
ended_kept rows queues timers number row are there =
    let new : Registration = record row { gone = true } in
    let at = numbered_some rows number row there in
    let within : number - 1 < length rows = slice_get_within rows (number - 1) row at.0 in
    let of_row : (e : Registration) → row.object.0 ≡ (get_or rows (number - 1) e).object.0 = λ e. sym (ap (λ (r : Registration). r.object.0) (get_or_from_slice_get rows (number - 1) row e at.0)) in
    let is : IsRegistration row = subst IsRegistration (get_or_from_slice_get rows (number - 1) row row at.0) (are.each_registration (number - 1) row within) in
    record {
      rising = λ i j d lt h.
          let in_rows : j < length rows = omega (arith, h, length-set rows (number - 1) new) in
          omega (arith, number_kept rows (number - 1) i new d within of_row, number_kept rows (number - 1) j new d within of_row, are.rising i j d lt in_rows);
      each_registration = All-set IsRegistration rows (number - 1) new (record { object = is.object; kernel = is.kernel; millis = is.millis }) are.each_registration;
      each_queue = are.each_queue;
      each_timer = are.each_timer;
    }
