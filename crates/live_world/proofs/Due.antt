-- How many of the timers that are due at a moment are unarmed.
use Rattle.std.proofs.Common.{◌≡◌, ℕ, ◌+◌, ◌≤◌, Bool, true, false, cond, not, List, [], ◌∷◌, ◌++◌, length, Option, Some, None, is_some, arith, filter, length-append, ltb-false, ltb-true, lt-ltb}
use Rattle.std.specs.Prelude.{ℤ}
use Rattle.std.proofs.lemmas.Bool.{le-ltb}
use Rattle.std.proofs.lemmas.List.{length-map}
use Rattle.std.proofs.lemmas.List.Sums.{length-filter, count_by-le-length}
use Rattle.tp_base.specs.declared.rows.Arming.{Arming}
use Rattle.tp_base.specs.declared.rows.TimerSetting.{TimerSetting}
use Rattle.tp_base.specs.declared.ids.KernelId.{KernelId}
use Rattle.tp_base.specs.declared.ids.ObjectId.{ObjectId}
use Rattle.tp_base.specs.declared.answers.TakeResult.TheVariants.{WaitObject0, WaitTimeout}
use Rattle.tp_base.specs.Armings.{is_armed, is_arming_of, without_arming}
use Rattle.tp_base.specs.Kernels.{is_signalled, taken}
use Rattle.tp_base.specs.Timers.{expired, expires_at_once, set_timer}
use Rattle.tp_model.specs.World.{World}
use Rattle.tp_model.specs.Counts.{slots}
use Rattle.tp_model.specs.Conditions.{lacks_slots_for}
use Rattle.tp_model.specs.Kernels.{is_one_that}
use Rattle.tp_model.specs.Sources.{Sources, Firing, arm, disarmed, expiry_job, job, jobless, set_wait, sources_of, with_state}
use Rattle.tp_model.specs.Calls.Timers.{count_expiring}
use Rattle.tp_model.specs.Support.Sound.{IsSound, count_set, may_be_armed}
use Rattle.tp_model.proofs.Arming.{armed_has, armed_most, expiry_within, one_if}
use Rattle.tp_model.proofs.Firing.{armable_wait}

abbrev pub is_unarmed : List Arming → TimerSetting → Bool
is_unarmed armings s = not (is_armed s.object.0 armings)

pub unarmed_fewer : (now : ℕ) (settings : List TimerSetting) (armings : List Arming) → length (filter (is_unarmed armings) (expired now settings)) ≤ length (expired now settings)
unarmed_fewer now settings armings = omega (arith, length-filter (is_unarmed armings) (expired now settings), count_by-le-length (is_unarmed armings) (expired now settings))

-- where there is a slot for each, there is one for fewer
pub fewer_lack : (w : World) (most few : ℕ) → few ≤ most → lacks_slots_for w most ≡ false → lacks_slots_for w few ≡ false
fewer_lack w most few fewer enough = le-ltb w.limits.slots (slots w + few) (omega (arith, fewer, ltb-false w.limits.slots (slots w + most) enough))

-- where there is none for some, there is none for more
pub more_lack : (w : World) (few most : ℕ) → few ≤ most → lacks_slots_for w few ≡ true → lacks_slots_for w most ≡ true
more_lack w few most more lacks = lt-ltb w.limits.slots (slots w + most) (omega (arith, more, ltb-true w.limits.slots (slots w + few) lacks))

-- each armed wait has one timeout at most, so of those that are due no more are armed than there are armed waits
pub due_most : (next_number now : ℕ) (w : World) → IsSound next_number w → length (expired now w.settings) ≤ count_expiring w now + length w.armings
due_most next_number now w sound =
    omega (arith, expiry_within now (sources_of w) one_timeout, length-map (expired now w.settings) (expiry_job w.armings))
  where
    one_timeout : (o : ℕ) → is_armed o w.armings ≡ true → count_set o w.settings ≤ 1
    one_timeout o armed =
        omega (arith, (sound.timeouts o (armable_wait w.objects o (armed_has (λ n. may_be_armed w.objects n ≡ true) o w.armings sound.armings armed))).few, armed_most o w.armings)

-- ---- a wait is set
abbrev arms : ObjectId → KernelId → Option ℤ → Sources → Bool → Bool → Firing
arms object kernel timeout s b c = cond b (record { sources = with_state taken kernel.0 s; jobs = job object WaitObject0 ∷ [] })
    (cond c (record { sources = s; jobs = job object WaitTimeout ∷ [] }) (jobless (record s { settings = set_timer s.now object timeout 0 0 s.settings; armings = s.armings ++ record { object = object; kernel = kernel } ∷ [] })))

arm_needs : (object : ObjectId) (kernel : KernelId) (timeout : Option ℤ) (s : Sources) → length (arm object kernel timeout s).jobs + length (arm object kernel timeout s).sources.armings ≡ length s.armings + 1
arm_needs object kernel timeout s =
    elim (is_one_that is_signalled s.kernels kernel.0) as (λ b. length (arms object kernel timeout s b (expires_at_once s.now timeout)).jobs + length (arms object kernel timeout s b (expires_at_once s.now timeout)).sources.armings ≡ length s.armings + 1) [
      | true ↦ omega arith
      | false ↦ elim (expires_at_once s.now timeout) as (λ b. length (arms object kernel timeout s false b).jobs + length (arms object kernel timeout s false b).sources.armings ≡ length s.armings + 1) [
        | true ↦ omega arith
        | false ↦ omega (arith, length-append s.armings (record { object = object; kernel = kernel } ∷ []))
      ]
    ]

-- with a kernel object the wait has one slot
pub set_needs : (object : ObjectId) (kernel : Option KernelId) (timeout : Option ℤ) (s : Sources)
    → length (set_wait object kernel timeout s).jobs + length (set_wait object kernel timeout s).sources.armings ≡ length (without_arming object.0 s.armings) + one_if (is_some kernel)
set_needs object None timeout s = omega arith
set_needs object (Some kernel) timeout s = arm_needs object kernel timeout (disarmed object s)

pub fewer_armings : (object : ℕ) (armings : List Arming) → length (without_arming object armings) ≤ length armings
fewer_armings object armings =
    let others : Arming → Bool = λ (a : Arming). not (is_arming_of object a) in
    omega (arith, length-filter others armings, count_by-le-length others armings)
