-- What is set is due later than the clock, in every world that changes lead to.
use Rattle.std.proofs.Common.{◌≡◌, ℕ, zero, suc, ◌+◌, ◌-◌, ◌*◌, ◌/◌, ◌<◌, ◌==◌, Bool, true, false, cond, not, List, [], ◌∷◌, length, slice_get, Option, Some, None, refl, arith, filter, find}
use Rattle.std.specs.Prelude.{ℤ}
use Rattle.std.specs.List.{All, AllByRecursion}
use Rattle.std.proofs.Math.Nat.{lt-div-mul-add}
use Rattle.std.proofs.lemmas.Bool.{leb-false}
use Rattle.std.proofs.lemmas.Bool.Decides.{nat_tests}
use Rattle.std.proofs.lemmas.List.Elements.{All-from_recursion}
use Rattle.tp_base.specs.declared.answers.Entry.{Entry}
use Rattle.tp_base.specs.declared.answers.TakeResult.TheVariants.{WaitObject0, WaitTimeout}
use Rattle.tp_base.specs.declared.ids.KernelId.{KernelId}
use Rattle.tp_base.specs.declared.ids.ObjectId.{ObjectId}
use Rattle.tp_base.specs.declared.limits.Limits.{Limits}
use Rattle.tp_base.specs.declared.plans.Change.{Change}
use Rattle.tp_base.specs.declared.plans.Change.TheVariants as change
use Rattle.tp_base.specs.declared.plans.KernelChange.{KernelChange}
use Rattle.tp_base.specs.declared.plans.KernelChange.TheVariants.{Set, Raise}
use Rattle.tp_base.specs.declared.plans.Trigger.{Trigger}
use Rattle.tp_base.specs.declared.plans.Trigger.TheVariants.{SetTimer, Advance, SetWait, SetEvent, ReleaseSemaphore}
use Rattle.tp_base.specs.declared.rows.Arming.{Arming}
use Rattle.tp_base.specs.declared.rows.ObjectRow.{ObjectRow}
use Rattle.tp_base.specs.declared.rows.PoolRow.{PoolRow}
use Rattle.tp_base.specs.declared.rows.TimerSetting.{TimerSetting}
use Rattle.tp_base.specs.Armings.{is_arming_on}
use Rattle.tp_base.specs.Kernels.{is_signalled, taken, state_after}
use Rattle.tp_base.specs.Timers.{with_setting, without_setting, set_again, set_all_again, setting_for, set_timer, expires_at_once, expired, after_expiry, is_due, next_due, units_per_millisecond}
use Rattle.tp_model.specs.Actions.{slots_of}
use Rattle.tp_model.specs.Changes.{changed, change_pool, release_object}
use Rattle.tp_model.specs.Counts.{numbered}
use Rattle.tp_model.specs.Groups.{is_member_at}
use Rattle.tp_model.specs.History.{after, after_from, change_told, IsLegal, is_refusal, led_by, led_to}
use Rattle.tp_model.specs.Kernels.{is_one_that}
use Rattle.tp_model.specs.Sources.{Sources, Firing, job, jobless, with_state, disarmed, release_to, release_first, release_times, signal, arm, firing, sources_of}
use Rattle.tp_model.specs.World.{World, opening}
use Rattle.tp_model.proofs.Firing.{all_with, with_arming}
use Rattle.tp_model.proofs.Lists.{all_filter}
use Rattle.tp_model.proofs.Performing.{performed_keeps}

-- ---- settings

abbrev pub AreAhead : ℕ → List TimerSetting → Type 0
AreAhead now settings = AllByRecursion (λ (s : TimerSetting). now < s.due) settings

-- what a filter leaves
some_ahead : (now : ℕ) (test : TimerSetting → Bool) (settings : List TimerSetting) → AreAhead now settings → AreAhead now (filter test settings)
some_ahead now test settings all = all_filter (λ (s : TimerSetting). now < s.due) test settings all

-- what isn't due
left_ahead : (now : ℕ) (settings : List TimerSetting) → AreAhead now (filter (λ (s : TimerSetting). not (is_due now s)) settings)
left_ahead now [] = tt
left_ahead now (s ∷ ss) =
    let rest : List TimerSetting = filter (λ (t : TimerSetting). not (is_due now t)) ss in
    elim (is_due now s) as (λ b. is_due now s ≡ b → AreAhead now (cond (not b) (s ∷ rest) rest)) [
      | true ↦ λ _. left_ahead now ss
      | false ↦ λ later. (leb-false s.due now later, left_ahead now ss)
    ] refl

above_by : (base span now : ℕ) → 0 < span → now < base + ((now - base) / span + 1) * span
above_by base span now some = omega (arith, lt-div-mul-add {a = now - base} {b = span} some)

next_above : (base period now : ℕ) → (period == 0) ≡ false → now < next_due base period now
next_above base period now repeats =
    let some : 0 < period = grind (arith, nat_tests) in
    above_by base (units_per_millisecond * period) now (omega arith)

again_ahead : (now : ℕ) (s : TimerSetting) (settings : List TimerSetting) → AreAhead now settings → AreAhead now (set_again now s settings)
again_ahead now s settings all =
    let anew : TimerSetting = record s { due = next_due s.due s.period now } in
    elim (s.period == 0) as (λ b. (s.period == 0) ≡ b → AreAhead now (cond b settings (with_setting anew settings))) [
      | true ↦ λ _. all
      | false ↦ λ repeats. all_with (λ (t : TimerSetting). now < t.due) anew settings (next_above s.due s.period now repeats) all
    ] refl

all_again_ahead : (now : ℕ) (ss settings : List TimerSetting) → AreAhead now settings → AreAhead now (set_all_again now ss settings)
all_again_ahead now [] settings all = all
all_again_ahead now (s ∷ ss) settings all = all_again_ahead now ss (set_again now s settings) (again_ahead now s settings all)

-- the clock comes to a moment: all that is due expires, and what of it is set again is due later
pub expiry_ahead : (now : ℕ) (settings : List TimerSetting) → AreAhead now (after_expiry now settings)
expiry_ahead now settings = all_again_ahead now (expired now settings) (filter (λ (s : TimerSetting). not (is_due now s)) settings) (left_ahead now settings)

-- a timer is set: if it is due at once, it expires
pub set_ahead : (now : ℕ) (object : ObjectId) (due : Option ℤ) (period window : ℕ) (settings : List TimerSetting) → AreAhead now settings → AreAhead now (set_timer now object due period window settings)
set_ahead now object None period window settings all = some_ahead now (λ (s : TimerSetting). not (s.object.0 == object.0)) settings all
set_ahead now object (Some due) period window settings all =
    let s : TimerSetting = setting_for now object due period window in
    let rest : AreAhead now (without_setting object settings) = some_ahead now (λ (t : TimerSetting). not (t.object.0 == object.0)) settings all in
    elim (is_due now s) as (λ b. is_due now s ≡ b → AreAhead now (cond b (set_again now s (without_setting object settings)) (with_setting s (without_setting object settings)))) [
      | true ↦ λ _. again_ahead now s (without_setting object settings) rest
      | false ↦ λ later. all_with (λ (t : TimerSetting). now < t.due) s (without_setting object settings) (leb-false s.due now later) rest
    ] refl

-- ---- firings

abbrev IsAhead : Sources → Type 0
IsAhead s = AreAhead s.now s.settings

disarmed_ahead : (object : ObjectId) (s : Sources) → IsAhead s → IsAhead (disarmed object s)
disarmed_ahead object s all = some_ahead s.now (λ (t : TimerSetting). not (t.object.0 == object.0)) s.settings all

release_to_ahead : (kernel : ℕ) (f : Firing) (first : Option Arming) → IsAhead f.sources → IsAhead (release_to kernel f first).sources
release_to_ahead kernel f None all = all
release_to_ahead kernel f (Some a) all = disarmed_ahead a.object f.sources all

release_times_ahead : (n kernel : ℕ) (f : Firing) → IsAhead f.sources → IsAhead (release_times n kernel f).sources
release_times_ahead zero kernel f all = all
release_times_ahead (suc n) kernel f all =
    release_times_ahead n kernel (release_first kernel f)
    (elim (is_one_that is_signalled f.sources.kernels kernel) as (λ b. IsAhead (cond b (release_to kernel f (find (is_arming_on kernel) f.sources.armings)) f).sources) [
      | true ↦ release_to_ahead kernel f (find (is_arming_on kernel) f.sources.armings) all
      | false ↦ all
    ])

signal_ahead : (how : KernelChange) (kernel : ℕ) (f : Firing) → IsAhead f.sources → IsAhead (signal how kernel f).sources
signal_ahead how kernel f all = release_times_ahead (length f.sources.armings) kernel (record f { sources = with_state (state_after how) kernel f.sources }) all

arm_ahead : (object : ObjectId) (kernel : KernelId) (timeout : Option ℤ) (s : Sources) → IsAhead s → IsAhead (arm object kernel timeout s).sources
arm_ahead object kernel timeout s all =
    elim (is_one_that is_signalled s.kernels kernel.0) as (λ b. IsAhead (cond b (record { sources = with_state taken kernel.0 s; jobs = job object WaitObject0 ∷ [] })
    (cond (expires_at_once s.now timeout) (record { sources = s; jobs = job object WaitTimeout ∷ [] }) (jobless (with_arming object kernel timeout s)))).sources) [
      | true ↦ all
      | false ↦ elim (expires_at_once s.now timeout) as (λ b. IsAhead (cond b (record { sources = s; jobs = job object WaitTimeout ∷ [] }) (jobless (with_arming object kernel timeout s))).sources) [
        | true ↦ all
        | false ↦ set_ahead s.now object timeout 0 0 s.settings all
      ]
    ]

pub firing_ahead : (trigger : Trigger) (s : Sources) → IsAhead s → IsAhead (firing trigger s).sources
firing_ahead (SetTimer object due period window) s all = set_ahead s.now object due period window s.settings all
firing_ahead (Advance now) s all = expiry_ahead now s.settings
firing_ahead (SetWait object None timeout) s all = disarmed_ahead object s all
firing_ahead (SetWait object (Some kernel) timeout) s all = arm_ahead object kernel timeout (disarmed object s) (disarmed_ahead object s all)
firing_ahead (SetEvent kernel) s all = signal_ahead Set kernel.0 (jobless s) all
firing_ahead (ReleaseSemaphore kernel count) s all = signal_ahead (Raise count) kernel.0 (jobless s) all

-- ---- each change

pub changed_ahead : (w : World) (ch : Change) → IsAhead (sources_of w) → IsAhead (sources_of (changed w ch))
changed_ahead w (change.ChangePool pool how) all = of_pool (slice_get w.pools pool.0)
  where
    of_pool : (o : Option PoolRow) → IsAhead (sources_of (change_pool w pool.0 how o))
    of_pool None = all
    of_pool (Some row) = all
changed_ahead w (change.ReleaseObject object) all = of_object (numbered w.objects object.0)
  where
    of_object : (o : Option ObjectRow) → IsAhead (sources_of (release_object w object o))
    of_object None = all
    of_object (Some row) = some_ahead w.now (λ (s : TimerSetting). not (s.object.0 == object.0)) w.settings all
changed_ahead w (change.Fire trigger first count) all = firing_ahead trigger (sources_of w) all
changed_ahead w (change.Return by words first count) all =
    performed_keeps (λ f. IsAhead f.sources) (λ how _. signal_ahead how) (λ kernel f h. h) words (slots_of by.callback.status) (jobless (sources_of w)) all
changed_ahead w (change.BeginClose who group cancel context notices) all = some_ahead w.now (λ (s : TimerSetting). not (is_member_at w group.0 s.object.0)) w.settings all
changed_ahead w _ all = all

-- ---- along a history

led_ahead : (w : World) (entry : Entry) → IsAhead (sources_of w) → IsAhead (sources_of (led_to w entry))
led_ahead w entry all =
    elim (is_refusal entry.answer) as (λ b. IsAhead (sources_of (cond b w (led_by w (change_told w entry.who entry.call entry.answer))))) [
      | true ↦ all
      | false ↦ of_change (change_told w entry.who entry.call entry.answer)
    ]
  where
    of_change : (o : Option Change) → IsAhead (sources_of (led_by w o))
    of_change None = all
    of_change (Some ch) = changed_ahead w ch all

after_ahead : (w : World) (history : List Entry) → IsAhead (sources_of w) → IsAhead (sources_of (after_from w history))
after_ahead w [] all = all
after_ahead w (entry ∷ history) all = after_ahead (led_to w entry) history (led_ahead w entry all)

-- no answer is read, so that of a history that isn't legal it is true too
pub lies_ahead : (limits : Limits) (capacity : ℕ) (history : List Entry) → IsLegal limits capacity history → All (λ (s : TimerSetting). (after limits history).now < s.due) (after limits history).settings
lies_ahead limits capacity history legal = All-from_recursion (λ (s : TimerSetting). (after limits history).now < s.due) (after limits history).settings (after_ahead (opening limits) history tt)
