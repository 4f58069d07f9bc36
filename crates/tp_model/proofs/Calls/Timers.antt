-- The facts of calls on timers and the clock, and of what a trigger does.
use Rattle.std.proofs.Common.{◌≡◌, ℕ, zero, suc, ◌+◌, ◌≤◌, ◌<◌, ◌^◌, true, false, Option, Some, None, refl, ap, ◌∙◌, arith, ltb-false, ne_eqb, cond}
use Rattle.std.specs.List.{range_with_len}
use Rattle.std.specs.Prelude.{ℤ}
use Rattle.std.specs.Option.{option_map_or}
use Rattle.tp_base.specs.declared.ids.Who.{Who}
use Rattle.tp_base.specs.declared.ids.ObjectId.{ObjectId}
use Rattle.tp_base.specs.declared.calls.Kind.{Kind}
use Rattle.tp_base.specs.declared.calls.Kind.TheVariants.{Work, Timer, Wait, Io}
use Rattle.tp_base.specs.declared.calls.Call.{Call}
use Rattle.tp_base.specs.declared.calls.Call.TheVariants.{SetTimer, SetTimerEx, IsTimerSet, Advance}
use Rattle.tp_base.specs.declared.answers.Answer.{Answer}
use Rattle.tp_base.specs.declared.answers.Answer.TheVariants as answer
use Rattle.tp_base.specs.declared.plans.Trigger.{Trigger}
use Rattle.tp_base.specs.declared.plans.Trigger.TheVariants as trigger
use Rattle.tp_base.specs.declared.rows.ObjectRow.{ObjectRow}
use Rattle.tp_base.specs.Armings.{is_armed}
use Rattle.tp_base.specs.Ranges.{IsCallInRange, IsAnswerInRange}
use Rattle.tp_base.specs.Timers.{clock_end}
use Rattle.tp_model.specs.World.{World}
use Rattle.tp_model.specs.Counts.{numbered, slots}
use Rattle.tp_model.specs.Conditions.{is_finished, is_object_of, is_released, is_same_kind, lacks_slots_for}
use Rattle.tp_model.specs.Sources.{sources_of, count_fired, slots_after}
use Rattle.tp_model.specs.History.{is_refusal}
use Rattle.tp_model.specs.Refusing.{object_refusals}
use Rattle.tp_model.specs.Calls.Timers.{first_of, fire, count_expiring, set_timer_refusals, set_timer_plan, set_timer_ex_plan, is_timer_set, is_timer_set_plan, advance_refusals, advance_plan}
use Rattle.tp_model.specs.Support.Allowed.{IsObjectOf, IsTimer, IsReady}
use Rattle.tp_model.specs.Support.Safe.{IsSafe}
use Rattle.tp_model.specs.Support.Sound.{IsSound, count_set, may_be_armed}
use Rattle.tp_model.specs.Support.Told.{silent, sets_of, told_by}
use Rattle.tp_model.specs.Support.Remembered.{forget}
use Rattle.tp_model.specs.Support.Ranged.{IsRanged, IsTriggerInRange, IsPlanInRange}
use Rattle.tp_model.proofs.Arming.{armed_has, armed_most, expiry_within}
use Rattle.tp_model.proofs.Firing.{armable_wait}
use Rattle.tp_model.proofs.Refusals.{NoneHolds, neither, not_false, false_true}
use Rattle.tp_model.proofs.Forgetting.{live_again}
use Rattle.tp_model.proofs.Allowed.{safe_unless}
use Rattle.tp_model.proofs.Ranged.{made_ranged, ranged_unless}

-- ---- what a trigger does

first_next_number : (next_number count : ℕ) → first_of next_number (suc count) ≡ next_number
first_next_number next_number count = ap (λ b. cond b 0 next_number) (ne_eqb (suc count) 0 (λ h. omega (arith, h)))

-- the numbers that are told are those that are made
pub told_range : (next_number count : ℕ) → range_with_len (first_of next_number count) count ≡ range_with_len next_number count
told_range next_number zero = refl
told_range next_number (suc count) = ap (λ n. range_with_len n (suc count)) (first_next_number next_number count)

pub first_within : (next_number count : ℕ) → first_of next_number count ≤ next_number
first_within next_number zero = omega arith
first_within next_number (suc count) = omega (arith, first_next_number next_number count)

pub fire_safe : (next_number : ℕ) (w : World) (who : Who) (call : Call) (t : Trigger) (told : ℕ → ℕ → Answer) → ((first count : ℕ) → is_refusal (told first count) ≡ false)
    → ((first count : ℕ) → told_by (record { who = who; call = call; answer = told first count }) ≡ record silent { made = range_with_len first count; queued = range_with_len first count; sets = sets_of t })
    → IsReady w t → (slots w ≤ w.limits.slots → slots_after w t ≤ w.limits.slots) → IsSafe next_number w who call (fire w next_number t told)
fire_safe next_number w who call t told accepted tells ready room =
    record {
      allowed = record { ready = ready; number = refl; counted = refl; room = room };
      made_by = tt;
      accepted = accepted (first_of next_number (count_fired w t)) (count_fired w t);
      tells = tells (first_of next_number (count_fired w t)) (count_fired w t) ∙ ap (λ ns. record silent { made = ns; queued = ns; sets = sets_of t }) (told_range next_number (count_fired w t));
    }

-- so many callbacks as have their slots
pub fire_ranged : (next_number : ℕ) (w : World) (t : Trigger) (told : ℕ → ℕ → Answer) → ((first count : ℕ) → first < 2 ^ 64 → count ≤ 65535 → IsAnswerInRange (told first count)) → next_number + 65536 ≤ 2 ^ 64 → IsRanged w → IsTriggerInRange t
    → slots_after w t ≤ w.limits.slots → IsPlanInRange (fire w next_number t told)
fire_ranged next_number w t told within few g in_range room =
    let n : count_fired w t ≤ 65535 = omega (arith, room, g.limits.slots_most) in
    (within (first_of next_number (count_fired w t)) (count_fired w t) (omega (arith, first_within next_number (count_fired w t), few)) n, (in_range, omega (arith, n, few)))

-- the object of the number stands, is of the kind and isn't released
pub object_stands : (w : World) (kind : Kind) (object : ObjectId) → is_object_of w kind object.0 ≡ true → is_released w object.0 ≡ false → IsObjectOf kind w object
object_stands w kind object is_kind live = of_row (numbered w.objects object.0) refl is_kind live
  where
    same_kind : (a b : Kind) → is_same_kind a b ≡ true → a ≡ b
    same_kind Work Work e = refl
    same_kind Timer Timer e = refl
    same_kind Wait Wait e = refl
    same_kind Io Io e = refl
    same_kind _ _ e = absurd (false_true e)

    of_row : (row : Option ObjectRow) → numbered w.objects object.0 ≡ row → option_map_or (λ (o : ObjectRow). is_same_kind o.kind kind) row false ≡ true → option_map_or (λ (o : ObjectRow). o.released) row false ≡ false → IsObjectOf kind w object
    of_row None is k l = absurd (false_true k)
    of_row (Some row) is k l = record { row = row; stands = is; kind = same_kind row.kind kind k; unreleased = l }

module _ (next_number : ℕ) (w : World) (who : Who) where
  set_ready : (object : ObjectId) (t : Trigger) → NoneHolds (set_timer_refusals w who object.0 t) → IsTimer w object
  set_ready object t none =
      object_stands w Timer object (not_false (is_object_of w Timer object.0) none.1.0) (neither (is_finished w who) (is_released w object.0) none.1.1.0).1

  set_room : (object : ObjectId) (due : Option ℤ) (period window : ℕ) → NoneHolds (set_timer_refusals w who object.0 (trigger.SetTimer object due period window)) → slots_after w (trigger.SetTimer object due period window) ≤ w.limits.slots
  set_room object due period window none =
      omega (arith, ltb-false w.limits.slots (slots w + count_fired w (trigger.SetTimer object due period window)) none.1.1.1.1.1.0)

  -- ---- SetTimer, SetTimerEx

  pub set_timer_safe : (object : ObjectId) (due : Option ℤ) (period window : ℕ) → IsSafe next_number w who (SetTimer object due period window) (set_timer_plan w next_number who object due period window)
  unfolding set_timer_plan
  set_timer_safe object due period window =
      let t : Trigger = trigger.SetTimer object due period window in
      safe_unless next_number w who (SetTimer object due period window) (set_timer_refusals w who object.0 t) _
      (λ none. fire_safe next_number w who (SetTimer object due period window) t answer.Queued (λ first count. refl) (λ first count. refl) (set_ready object t none) (λ _. set_room object due period window none))

  pub set_timer_ex_safe : (object : ObjectId) (due : Option ℤ) (period window : ℕ) → IsSafe next_number w who (SetTimerEx object due period window) (set_timer_ex_plan w next_number who object due period window)
  unfolding set_timer_ex_plan
  set_timer_ex_safe object due period window =
      let t : Trigger = trigger.SetTimer object due period window in
      safe_unless next_number w who (SetTimerEx object due period window) (set_timer_refusals w who object.0 t) _
      (λ none. fire_safe next_number w who (SetTimerEx object due period window) t (answer.WasSet (is_timer_set w object.0)) (λ first count. refl) (λ first count. refl) (set_ready object t none) (λ _. set_room object due period window none))

  -- ---- IsTimerSet

  pub is_timer_set_safe : (object : ObjectId) → IsSafe next_number w who (IsTimerSet object) (is_timer_set_plan w who object)
  unfolding is_timer_set_plan
  is_timer_set_safe object =
      safe_unless next_number w who (IsTimerSet object) (object_refusals w who Timer object.0) _ (λ _. record { allowed = tt; made_by = tt; accepted = refl; tells = refl })

  -- ---- Advance

  -- each timeout that expires has the slot of its arming
  advance_room : (now : ℕ) → IsSound next_number w → lacks_slots_for w (count_expiring w now) ≡ false → slots_after w (trigger.Advance now) ≤ w.limits.slots
  advance_room now s fits = omega (arith, expiry_within now (sources_of w) one_timeout, ltb-false w.limits.slots (slots w + count_expiring w now) fits)
    where
      one_timeout : (o : ℕ) → is_armed o w.armings ≡ true → count_set o w.settings ≤ 1
      one_timeout o armed =
          omega (arith, (s.timeouts o (armable_wait w.objects o (armed_has (λ n. may_be_armed w.objects n ≡ true) o w.armings s.armings armed))).few, armed_most o w.armings)

  pub advance_safe : (ticks : ℕ) → IsSound next_number w → IsSafe next_number w who (Advance ticks) (advance_plan w next_number who ticks)
  unfolding advance_plan
  advance_safe ticks s =
      let t : Trigger = trigger.Advance (w.now + ticks) in
      safe_unless next_number w who (Advance ticks) (advance_refusals w who (w.now + ticks)) _
      (λ none. fire_safe next_number w who (Advance ticks) t (answer.Advanced (w.now + ticks)) (λ first count. refl) (λ first count. refl)
      (record { onwards = omega arith; within = ltb-false clock_end (w.now + ticks) none.1.1.1.1.0 }) (λ _. advance_room (w.now + ticks) s none.1.1.1.1.1.0))

  -- ---- a forgotten world has the same plans

  pub set_timer_forget : (object : ObjectId) (due : Option ℤ) (period window : ℕ) → set_timer_plan (forget w) next_number who object due period window ≡ set_timer_plan w next_number who object due period window
  unfolding set_timer_plan
  set_timer_forget object due period window = rw (live_again w.callbacks)

  pub set_timer_ex_forget : (object : ObjectId) (due : Option ℤ) (period window : ℕ) → set_timer_ex_plan (forget w) next_number who object due period window ≡ set_timer_ex_plan w next_number who object due period window
  unfolding set_timer_ex_plan
  set_timer_ex_forget object due period window = rw (live_again w.callbacks)

  pub is_timer_set_forget : (object : ObjectId) → is_timer_set_plan (forget w) who object ≡ is_timer_set_plan w who object
  unfolding is_timer_set_plan
  is_timer_set_forget object = refl

  pub advance_forget : (ticks : ℕ) → advance_plan (forget w) next_number who ticks ≡ advance_plan w next_number who ticks
  unfolding advance_plan
  advance_forget ticks = rw (live_again w.callbacks)

  -- ---- ranges

  pub set_timer_ranged : (object : ObjectId) (due : Option ℤ) (period window : ℕ) → next_number + 65536 ≤ 2 ^ 64 → IsRanged w → IsCallInRange (SetTimer object due period window) → IsPlanInRange (set_timer_plan w next_number who object due period window)
  unfolding set_timer_plan
  set_timer_ranged object due period window few g c =
      let t : Trigger = trigger.SetTimer object due period window in
      made_ranged (set_timer_refusals w who object.0 t) _ _ (λ none. fire_ranged next_number w t answer.Queued (λ first count f n. (f, n)) few g c.0 (set_room object due period window none))

  pub set_timer_ex_ranged : (object : ObjectId) (due : Option ℤ) (period window : ℕ) → next_number + 65536 ≤ 2 ^ 64 → IsRanged w → IsCallInRange (SetTimerEx object due period window) → IsPlanInRange (set_timer_ex_plan w next_number who object due period window)
  unfolding set_timer_ex_plan
  set_timer_ex_ranged object due period window few g c =
      let t : Trigger = trigger.SetTimer object due period window in
      made_ranged (set_timer_refusals w who object.0 t) _ _ (λ none. fire_ranged next_number w t (answer.WasSet (is_timer_set w object.0)) (λ first count f n. (f, n)) few g c.0 (set_room object due period window none))

  pub is_timer_set_ranged : (object : ObjectId) → IsPlanInRange (is_timer_set_plan w who object)
  unfolding is_timer_set_plan
  is_timer_set_ranged object = ranged_unless (object_refusals w who Timer object.0) _ _ (tt, tt)

  pub advance_ranged : (ticks : ℕ) → next_number + 65536 ≤ 2 ^ 64 → IsSound next_number w → IsRanged w → IsPlanInRange (advance_plan w next_number who ticks)
  unfolding advance_plan
  advance_ranged ticks few s g =
      let t : Trigger = trigger.Advance (w.now + ticks) in
      made_ranged (advance_refusals w who (w.now + ticks)) _ _
      (λ none. fire_ranged next_number w t (answer.Advanced (w.now + ticks)) (λ first count f n. (ltb-false clock_end (w.now + ticks) none.1.1.1.1.0, f, n)) few g tt (advance_room (w.now + ticks) s none.1.1.1.1.1.0))
