-- What triggers leave of armed waits: each callback of a wait object takes the place of its arming.
use Rattle.std.proofs.Common.{◌≡◌, ℕ, zero, suc, ◌+◌, ◌≤◌, ◌==◌, Bool, true, false, cond, not, ◌||◌, List, [], ◌∷◌, ◌++◌, length, map, Option, Some, None, is_some, refl, sym, ap, ◌∙◌, subst, arith, filter, find, eqb-true, eq-eqb}
use Rattle.std.specs.Prelude.{ℤ}
use Rattle.std.specs.List.{AllByRecursion}
use Rattle.tp_base.specs.declared.ids.ObjectId.{ObjectId}
use Rattle.tp_base.specs.declared.ids.KernelId.{KernelId}
use Rattle.tp_base.specs.declared.answers.TakeResult.TheVariants.{Plain, WaitObject0, WaitTimeout}
use Rattle.tp_base.specs.declared.plans.KernelChange.{KernelChange}
use Rattle.tp_base.specs.declared.plans.KernelChange.TheVariants.{Set, Raise}
use Rattle.tp_base.specs.declared.plans.Trigger.{Trigger}
use Rattle.tp_base.specs.declared.plans.Trigger.TheVariants.{SetTimer, Advance, SetWait, SetEvent, ReleaseSemaphore}
use Rattle.tp_base.specs.declared.rows.ObjectRow.{ObjectRow}
use Rattle.tp_base.specs.declared.rows.CallbackRow.{CallbackRow}
use Rattle.tp_base.specs.declared.rows.TimerSetting.{TimerSetting}
use Rattle.tp_base.specs.declared.rows.Arming.{Arming}
use Rattle.tp_base.specs.Armings.{is_armed, is_arming_of, is_arming_on, is_set, armed_behind}
use Rattle.tp_base.specs.Kernels.{is_signalled, taken, state_after}
use Rattle.tp_base.specs.Timers.{set_timer, expires_at_once, expired, after_expiry, is_due}
use Rattle.tp_model.specs.Kernels.{is_one_that}
use Rattle.tp_model.specs.Sources.{Sources, Job, Firing, job, jobless, with_state, disarmed, release_to, release_first, release_times, signal, arm, expiry_job, firing, rows_of, new_callback, object_row}
use Rattle.tp_model.specs.Laws.Entries.{set_on}
use Rattle.tp_model.specs.Support.Sound.{count_armed, count_set, IsTimedOut}
use Rattle.tp_model.specs.Support.Moves.{count_rows, count_allowed}
use Rattle.tp_model.specs.Support.Told.{sets_of}
use Rattle.tp_model.proofs.Firing.{all_set_timer, all_expiry, with_arming}
use Rattle.tp_model.proofs.Lists.{any_filter, all_filter}
use Rattle.tp_model.proofs.Refusals.{false_true, or_true, or_false}
use Rattle.tp_model.proofs.Arming.{anew_same, armed_last, armed_most, count_last, count_one, Disarms, disarms, filter_parts, found_armed, one_if, Other, Own, timed_disarmed, timeout_own, timer_other}

abbrev pub count_jobs : ℕ → List Job → ℕ
count_jobs object jobs = length (filter (λ (j : Job). j.object.0 == object) jobs)

pub count_rows_of : (object : ℕ) (objects : List ObjectRow) (next_number : ℕ) (jobs : List Job) → count_rows object (rows_of objects next_number jobs) ≡ count_jobs object jobs
count_rows_of object objects next_number [] = refl
count_rows_of object objects next_number (j ∷ js) =
    omega (arith, count_one (λ (c : CallbackRow). c.object.0 == object) (new_callback next_number j.object (object_row objects j.object) j.result) (rows_of objects (next_number + 1) js), count_one (λ (i : Job). i.object.0 == object) j js, count_rows_of object objects (next_number + 1) js)

-- ---- one object

module _ (o : ℕ) where
  -- ---- what firings leave of it

  -- so many callbacks at most with its arming
  pub record IsCounted (most : ℕ) (f : Firing) : Type 0 where
    pub jobs : count_jobs o f.jobs + count_armed o f.sources.armings ≤ most
    pub timed : IsTimedOut o f.sources.settings f.sources.armings

  release_to_counted : (most kernel : ℕ) (f : Firing) (first : Option Arming) → ((a : Arming) → first ≡ Some a → (a.object.0 == o) ≡ true → is_armed o f.sources.armings ≡ true) → IsCounted most f → IsCounted most (release_to kernel f first)
  release_to_counted most kernel f None known h = h
  release_to_counted most kernel f (Some a) known h =
      let rest : IsTimedOut o (disarmed a.object f.sources).settings (disarmed a.object f.sources).armings = timed_disarmed o a.object f.sources h.timed in
      record { jobs = of_case (disarms o a.object f.sources); timed = record { few = rest.few; once = rest.once } }
    where
      more : count_jobs o (f.jobs ++ job a.object WaitObject0 ∷ []) ≡ count_jobs o f.jobs + one_if (a.object.0 == o)
      more = count_last (λ (j : Job). j.object.0 == o) f.jobs (job a.object WaitObject0)

      of_case : Disarms o a.object f.sources → count_jobs o (f.jobs ++ job a.object WaitObject0 ∷ []) + count_armed o (disarmed a.object f.sources).armings ≤ most
      of_case (Own is none unarmed) = omega (arith, more, ap one_if is, ap one_if unarmed, ap one_if (known a refl is), h.jobs)
      of_case (Other is same armed) = omega (arith, more, ap one_if is, ap one_if armed, h.jobs)

  release_times_counted : (most n kernel : ℕ) (f : Firing) → IsCounted most f → IsCounted most (release_times n kernel f)
  release_times_counted most zero kernel f h = h
  release_times_counted most (suc n) kernel f h =
      release_times_counted most n kernel (release_first kernel f)
      (elim (is_one_that is_signalled f.sources.kernels kernel) as (λ b. IsCounted most (cond b (release_to kernel f (find (is_arming_on kernel) f.sources.armings)) f)) [
        | true ↦ release_to_counted most kernel f (find (is_arming_on kernel) f.sources.armings) (λ a found own. found_armed o kernel f.sources.armings a found own) h
        | false ↦ h
      ])

  pub signal_counted : (most : ℕ) (how : KernelChange) (kernel : ℕ) (f : Firing) → IsCounted most f → IsCounted most (signal how kernel f)
  signal_counted most how kernel f h =
      release_times_counted most (length f.sources.armings) kernel (record f { sources = with_state (state_after how) kernel f.sources })
      (record { jobs = h.jobs; timed = record { few = h.timed.few; once = h.timed.once } })

  pub jobless_counted : (s : Sources) → IsTimedOut o s.settings s.armings → IsCounted (count_armed o s.armings) (jobless s)
  jobless_counted s timed = record { jobs = omega arith; timed = timed }

  -- a wait is armed that is not: this one, or another
  armed_more : (armings : List Arming) (a : Arming) → count_armed o (armings ++ a ∷ []) ≤ one_if (a.object.0 == o) + count_armed o armings
  armed_more armings a =
      subst (λ b. one_if b ≤ one_if (a.object.0 == o) + count_armed o armings) (sym (armed_last o armings a))
      (elim (is_armed o armings) as (λ b. one_if (b || (is_arming_of o a || false)) ≤ one_if (a.object.0 == o) + one_if b) [
        | true ↦ omega arith
        | false ↦ elim (a.object.0 == o) as (λ b. one_if (b || false) ≤ one_if b + 0) [ true ↦ omega arith | false ↦ omega arith ]
      ])

  arm_counted : (most : ℕ) (object : ObjectId) (kernel : KernelId) (timeout : Option ℤ) (s : Sources) → IsTimedOut o s.settings s.armings → one_if (object.0 == o) + count_armed o s.armings ≤ most → ((object.0 == o) ≡ true → count_set o s.settings ≡ 0)
      → IsCounted most (arm object kernel timeout s)
  arm_counted most object kernel timeout s timed few unset =
      elim (is_one_that is_signalled s.kernels kernel.0) as (λ b. IsCounted most (cond b (record { sources = with_state taken kernel.0 s; jobs = job object WaitObject0 ∷ [] })
      (cond (expires_at_once s.now timeout) (record { sources = s; jobs = job object WaitTimeout ∷ [] }) (jobless (with_arming object kernel timeout s))))) [
        | true ↦ record { jobs = omega (arith, one_job WaitObject0, few); timed = record { few = timed.few; once = timed.once } }
        | false ↦ elim (expires_at_once s.now timeout) as (λ b. IsCounted most (cond b (record { sources = s; jobs = job object WaitTimeout ∷ [] }) (jobless (with_arming object kernel timeout s)))) [
          | true ↦ record { jobs = omega (arith, one_job WaitTimeout, few); timed = timed }
          | false ↦ record {
            jobs = omega (arith, armed_more s.armings (record { object = object; kernel = kernel }), few);
            timed = record {
              few = of_object (object.0 == o) refl;
              once = all_set_timer (λ (x : TimerSetting). x.object.0 ≡ o → x.period ≡ 0) (λ x moment h. h) s.now object timeout 0 0 s.settings (λ moment _. refl) timed.once;
            };
          }
        ]
      ]
    where
      one_job : (result : _) → count_jobs o (job object result ∷ []) ≡ one_if (object.0 == o)
      one_job result = omega (arith, count_one (λ (j : Job). j.object.0 == o) (job object result) [])

      last : is_armed o (s.armings ++ record { object = object; kernel = kernel } ∷ []) ≡ (is_armed o s.armings || ((object.0 == o) || false))
      last = armed_last o s.armings (record { object = object; kernel = kernel })

      of_object : (b : Bool) → (object.0 == o) ≡ b → count_set o (set_timer s.now object timeout 0 0 s.settings) ≤ count_armed o (s.armings ++ record { object = object; kernel = kernel } ∷ [])
      of_object true is = omega (arith, timeout_own o s.now object timeout s.settings (unset is), ap one_if (last ∙ ap (λ b. is_armed o s.armings || (b || false)) is ∙ or_true (is_armed o s.armings)))
      of_object false is = omega (arith, timer_other o s.now object timeout 0 0 s.settings is, timed.few, ap one_if (last ∙ ap (λ b. is_armed o s.armings || (b || false)) is ∙ or_false (is_armed o s.armings)))

  abbrev allowed_by : Trigger → Sources → ℕ
  allowed_by trigger s = count_allowed (set_on o (sets_of trigger)) (count_armed o s.armings)

  wait_counted : (object : ObjectId) (kernel : Option KernelId) (timeout : Option ℤ) (s : Sources) → IsTimedOut o s.settings s.armings → IsCounted (allowed_by (SetWait object kernel timeout) s) (firing (SetWait object kernel timeout) s)
  wait_counted object kernel timeout s timed = of_kernel kernel (disarms o object s)
    where
      rest : IsTimedOut o (disarmed object s).settings (disarmed object s).armings
      rest = timed_disarmed o object s timed

      most_of : (k : Option KernelId) (b : Bool) → (object.0 == o) ≡ b → allowed_by (SetWait object k timeout) s ≡ count_allowed (cond b (Some (is_some k)) None) (count_armed o s.armings)
      most_of k b is = ap (λ t. count_allowed (cond t (Some (is_some k)) None) (count_armed o s.armings)) is

      of_kernel : (k : Option KernelId) → Disarms o object s → IsCounted (allowed_by (SetWait object k timeout) s) (firing (SetWait object k timeout) s)
      of_kernel None (Own is none unarmed) = record { jobs = omega (arith, ap one_if unarmed); timed = rest }
      of_kernel None (Other is same armed) = record { jobs = omega (arith, ap one_if armed, most_of None false is); timed = rest }
      of_kernel (Some k) (Own is none unarmed) =
          arm_counted (allowed_by (SetWait object (Some k) timeout) s) object k timeout (disarmed object s) rest (omega (arith, ap one_if is, ap one_if unarmed, most_of (Some k) true is)) (λ _. none)
      of_kernel (Some k) (Other is same armed) =
          arm_counted (allowed_by (SetWait object (Some k) timeout) s) object k timeout (disarmed object s) rest (omega (arith, ap one_if is, ap one_if armed, most_of (Some k) false is)) (λ own. absurd (false_true (sym is ∙ own)))

  -- ---- time passes

  set_none : (settings : List TimerSetting) → is_set o settings ≡ false → count_set o settings ≡ 0
  set_none [] e = refl
  set_none (s ∷ ss) e =
      elim (s.object.0 == o) as (λ b. (b || is_set o ss) ≡ false → length (cond b (s ∷ filter (λ (t : TimerSetting). t.object.0 == o) ss) (filter (λ (t : TimerSetting). t.object.0 == o) ss)) ≡ 0) [
        | true ↦ λ h. absurd (false_true (sym h))
        | false ↦ λ h. set_none ss h
      ] e

  pub set_some : (settings : List TimerSetting) → is_set o settings ≡ true → 1 ≤ count_set o settings
  set_some [] e = absurd (false_true e)
  set_some (s ∷ ss) e =
      elim (s.object.0 == o) as (λ b. (b || is_set o ss) ≡ true → 1 ≤ length (cond b (s ∷ filter (λ (t : TimerSetting). t.object.0 == o) ss) (filter (λ (t : TimerSetting). t.object.0 == o) ss))) [
        | true ↦ λ _. omega arith
        | false ↦ λ h. set_some ss h
      ] e

  -- an arming of a number that is set, or not, as this one
  is_other : (settings : List TimerSetting) (b : Bool) (n : ℕ) → is_set o settings ≡ b → is_set n settings ≡ not b → (n == o) ≡ false
  is_other settings b n here there = known (n == o) refl
    where
      differ : (t : Bool) → t ≡ not t → ⊥
      differ true e = false_true (sym e)
      differ false e = false_true e

      known : (t : Bool) → (n == o) ≡ t → (n == o) ≡ false
      known false is = is
      known true is = absurd (differ b (sym here ∙ ap (λ k. is_set k settings) (sym (eqb-true n o is)) ∙ there))

  armed_stays : (settings : List TimerSetting) (armings : List Arming) → is_set o settings ≡ false → is_armed o (armed_behind settings armings) ≡ is_armed o armings
  armed_stays settings armings unset = any_filter (is_arming_of o) (λ (a : Arming). not (is_set a.object.0 settings)) (λ a out. is_other settings false a.object.0 unset (not_not (is_set a.object.0 settings) out)) armings
    where
      not_not : (b : Bool) → not b ≡ false → b ≡ true
      not_not true e = refl
      not_not false e = absurd (false_true (sym e))

  armed_ends : (settings : List TimerSetting) (armings : List Arming) → is_set o settings ≡ true → is_armed o (armed_behind settings armings) ≡ false
  armed_ends settings [] set = refl
  armed_ends settings (a ∷ armings) set =
      elim (is_set a.object.0 settings) as (λ b. is_set a.object.0 settings ≡ b → is_armed o (cond (not b) (a ∷ armed_behind settings armings) (armed_behind settings armings)) ≡ false) [
        | true ↦ λ _. armed_ends settings armings set
        | false ↦ λ e. ap (λ b. b || is_armed o (armed_behind settings armings)) (is_other settings true a.object.0 set e) ∙ armed_ends settings armings set
      ] refl

  expiry_jobs : (armings : List Arming) (settings : List TimerSetting) → count_jobs o (map (expiry_job armings) settings) ≡ count_set o settings
  expiry_jobs armings [] = refl
  expiry_jobs armings (s ∷ ss) =
      omega (arith, count_one (λ (j : Job). j.object.0 == o) (expiry_job armings s) (map (expiry_job armings) ss), count_one (λ (t : TimerSetting). t.object.0 == o) s ss, expiry_jobs armings ss)

  advance_counted : (now : ℕ) (s : Sources) → IsTimedOut o s.settings s.armings → IsCounted (count_armed o s.armings) (firing (Advance now) s)
  advance_counted now s timed =
      let over : List TimerSetting = expired now s.settings in
      let parts : count_set o over + count_set o (filter (λ (t : TimerSetting). not (is_due now t)) s.settings) ≡ count_set o s.settings = filter_parts (λ (t : TimerSetting). t.object.0 == o) (is_due now) s.settings in
      let after : count_set o (after_expiry now s.settings) ≡ count_set o (filter (λ (t : TimerSetting). not (is_due now t)) s.settings)
      = anew_same o now over (filter (λ (t : TimerSetting). not (is_due now t)) s.settings) (all_filter (λ (t : TimerSetting). t.object.0 ≡ o → t.period ≡ 0) (is_due now) s.settings timed.once) in
      let once : AllByRecursion (λ (t : TimerSetting). t.object.0 ≡ o → t.period ≡ 0) (after_expiry now s.settings) = all_expiry (λ (t : TimerSetting). t.object.0 ≡ o → t.period ≡ 0) (λ t moment h. h) now s.settings timed.once in
      elim (is_set o over) as (λ b. is_set o over ≡ b → IsCounted (count_armed o s.armings) (firing (Advance now) s)) [
        | true ↦ λ set.
            let gone : count_armed o (armed_behind over s.armings) ≡ 0 = ap one_if (armed_ends over s.armings set) in
            record {
              jobs = omega (arith, expiry_jobs s.armings over, gone, parts, timed.few);
              timed = record { few = omega (arith, after, parts, set_some over set, timed.few, armed_most o s.armings, gone); once = once };
            }
        | false ↦ λ unset.
            let stays : count_armed o (armed_behind over s.armings) ≡ count_armed o s.armings = ap one_if (armed_stays over s.armings unset) in
            record {
              jobs = omega (arith, expiry_jobs s.armings over, set_none over unset, stays);
              timed = record { few = omega (arith, after, parts, stays, timed.few); once = once };
            }
      ] refl

  -- ---- each trigger

  -- a timer that is set is not this object
  abbrev pub IsApart : Trigger → Type 0
  IsApart (SetTimer object due period window) = (object.0 == o) ≡ false
  IsApart _ = Unit {0}

  pub firing_counted : (trigger : Trigger) (s : Sources) → IsApart trigger → IsTimedOut o s.settings s.armings → IsCounted (count_allowed (set_on o (sets_of trigger)) (count_armed o s.armings)) (firing trigger s)
  firing_counted (SetTimer object due period window) s apart timed =
      record {
        jobs = omega (arith, none (expires_at_once s.now due));
        timed = record {
          few = omega (arith, timer_other o s.now object due period window s.settings apart, timed.few);
          once = all_set_timer (λ (x : TimerSetting). x.object.0 ≡ o → x.period ≡ 0) (λ x moment h. h) s.now object due period window s.settings (λ moment is. absurd (false_true (sym apart ∙ eq-eqb object.0 o is))) timed.once;
        };
      }
    where
      none : (b : Bool) → count_jobs o (cond b (job object Plain ∷ []) []) ≡ 0
      none true = omega (arith, count_one (λ (j : Job). j.object.0 == o) (job object Plain) [], ap one_if apart)
      none false = refl
  firing_counted (Advance now) s apart timed = advance_counted now s timed
  firing_counted (SetWait object kernel timeout) s apart timed = wait_counted object kernel timeout s timed
  firing_counted (SetEvent kernel) s apart timed = signal_counted (count_armed o s.armings) Set kernel.0 (jobless s) (jobless_counted s timed)
  firing_counted (ReleaseSemaphore kernel count) s apart timed = signal_counted (count_armed o s.armings) (Raise count) kernel.0 (jobless s) (jobless_counted s timed)
