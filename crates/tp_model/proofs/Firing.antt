-- What triggers make and leave: the callbacks are numbered on, pending, and of objects that were made.
use Rattle.std.proofs.Common.{◌≡◌, ℕ, zero, suc, ◌+◌, ◌-◌, ◌≤◌, ◌==◌, Bool, true, false, cond, not, ◌&&◌, List, [], ◌∷◌, ◌++◌, length, map, slice_get, get_or, Option, Some, None, is_some, refl, sym, ap, ap₂, ◌∙◌, arith, filter, find, ne_eqb}
use Rattle.std.specs.Prelude.{ℤ}
use Rattle.std.specs.Option.{unwrap_or, option_map_or}
use Rattle.std.specs.List.{AllByRecursion, range_with_len}
use Rattle.std.proofs.lemmas.Option.{slice_get-get_or}
use Rattle.std.proofs.lemmas.List.Elements.{filter-append}
use Rattle.std.proofs.lemmas.List.{append-nil}
use Rattle.tp_base.specs.declared.ids.ObjectId.{ObjectId}
use Rattle.tp_base.specs.declared.ids.KernelId.{KernelId}
use Rattle.tp_base.specs.declared.answers.TakeResult.TheVariants.{Plain, WaitObject0, WaitTimeout}
use Rattle.tp_base.specs.declared.calls.Kind.TheVariants.{Wait}
use Rattle.tp_base.specs.declared.plans.KernelChange.{KernelChange}
use Rattle.tp_base.specs.declared.plans.KernelChange.TheVariants.{Set, Raise}
use Rattle.tp_base.specs.declared.plans.Trigger.{Trigger}
use Rattle.tp_base.specs.declared.plans.Trigger.TheVariants.{SetTimer, Advance, SetWait, SetEvent, ReleaseSemaphore}
use Rattle.tp_base.specs.declared.rows.ObjectRow.{ObjectRow}
use Rattle.tp_base.specs.declared.rows.CallbackRow.{CallbackRow}
use Rattle.tp_base.specs.declared.rows.TimerSetting.{TimerSetting}
use Rattle.tp_base.specs.declared.rows.Arming.{Arming}
use Rattle.tp_base.specs.Armings.{is_armed, is_arming_of, is_arming_on, is_set}
use Rattle.tp_base.specs.Kernels.{is_signalled, taken, state_after}
use Rattle.tp_base.specs.Timers.{with_setting, without_setting, set_again, set_all_again, setting_for, set_timer, expires_before, expires_at_once, expired, after_expiry, is_due, next_due, clock_end}
use Rattle.tp_model.specs.World.{World}
use Rattle.tp_model.specs.Counts.{numbered, is_running}
use Rattle.tp_model.specs.Conditions.{is_same_kind}
use Rattle.tp_model.specs.Kernels.{is_one_that}
use Rattle.tp_model.specs.Sources.{Sources, Job, Firing, job, jobless, with_state, disarmed, release_to, release_first, release_times, signal, arm, expiry_job, firing, sources_of, rows_of, object_row, no_object}
use Rattle.tp_model.specs.Laws.Entries.{is_completion}
use Rattle.tp_model.specs.Support.Allowed.{IsReady, IsTimer}
use Rattle.tp_model.specs.Support.Sound.{IsMade, is_wait_at, may_be_armed, is_standing}
use Rattle.tp_model.specs.Support.Moves.{AreNew, numbers_of, waiting_of, expecting_of}
use Rattle.tp_model.proofs.Lists.{all_filter, all_get, all_append, find_all}
use Rattle.tp_model.proofs.Refusals.{numbered_some, made, both, false_true}

-- ---- the rows of jobs

pub length_rows : (objects : List ObjectRow) (next_number : ℕ) (jobs : List Job) → length (rows_of objects next_number jobs) ≡ length jobs
length_rows objects next_number [] = refl
length_rows objects next_number (j ∷ js) = omega (arith, length_rows objects (next_number + 1) js)

pub numbers_rows : (objects : List ObjectRow) (next_number : ℕ) (jobs : List Job) → numbers_of (rows_of objects next_number jobs) ≡ range_with_len next_number (length jobs)
numbers_rows objects next_number [] = refl
numbers_rows objects next_number (j ∷ js) = ap (λ ns. next_number ∷ ns) (numbers_rows objects (next_number + 1) js)

pub waiting_rows : (objects : List ObjectRow) (next_number : ℕ) (jobs : List Job) → waiting_of (rows_of objects next_number jobs) ≡ range_with_len next_number (length jobs)
waiting_rows objects next_number [] = refl
waiting_rows objects next_number (j ∷ js) = ap (λ ns. next_number ∷ ns) (waiting_rows objects (next_number + 1) js)

pub expecting_rows : (objects : List ObjectRow) (next_number : ℕ) (jobs : List Job) → expecting_of (rows_of objects next_number jobs) ≡ []
expecting_rows objects next_number [] = refl
expecting_rows objects next_number (j ∷ js) = expecting_rows objects (next_number + 1) js

-- none of them runs
still_rows : (objects : List ObjectRow) (next_number : ℕ) (jobs : List Job) → filter (λ (c : CallbackRow). is_running c.status) (rows_of objects next_number jobs) ≡ []
still_rows objects next_number [] = refl
still_rows objects next_number (j ∷ js) = still_rows objects (next_number + 1) js

pub running_appended : (cs : List CallbackRow) (objects : List ObjectRow) (next_number : ℕ) (jobs : List Job)
    → filter (λ (c : CallbackRow). is_running c.status) (cs ++ rows_of objects next_number jobs) ≡ filter (λ (c : CallbackRow). is_running c.status) cs
running_appended cs objects next_number jobs =
    let runs : CallbackRow → Bool = λ (c : CallbackRow). is_running c.status in
    filter-append runs cs (rows_of objects next_number jobs) ∙ ap (λ rs. filter runs cs ++ rs) (still_rows objects next_number jobs) ∙ append-nil (filter runs cs)

-- ---- what is made of objects that were made

pub made_stands : (objects : List ObjectRow) (object : ObjectId) → IsMade (length objects) object.0 → numbered objects object.0 ≡ Some (object_row objects object)
made_stands objects object made =
    let at : slice_get objects (object.0 - 1) ≡ Some (get_or objects (object.0 - 1) no_object) = slice_get-get_or objects (object.0 - 1) no_object (omega (arith, made.0, made.1)) in
    let there : numbered objects object.0 ≡ slice_get objects (object.0 - 1) = ap (λ b. cond b None (slice_get objects (object.0 - 1))) (ne_eqb object.0 0 (λ e. omega (arith, e, made.0))) in
    there ∙ at ∙ ap (λ (o : Option ObjectRow). Some (unwrap_or o no_object)) (sym (there ∙ at))

pub row_of_made : (P : ObjectRow → Type 0) (objects : List ObjectRow) (object : ObjectId) → AllByRecursion P objects → IsMade (length objects) object.0 → P (object_row objects object)
row_of_made P objects object all made = all_get P objects (object.0 - 1) (object_row objects object) all (numbered_some objects object.0 (object_row objects object) (made_stands objects object made)).0

-- ---- settings, by what each of them has

pub all_with : (Q : TimerSetting → Type 0) (s : TimerSetting) (settings : List TimerSetting) → Q s → AllByRecursion Q settings → AllByRecursion Q (with_setting s settings)
all_with Q s [] here all = (here, tt)
all_with Q s (t ∷ ts) here all =
    elim (expires_before s t) as (λ b. AllByRecursion Q (cond b (s ∷ t ∷ ts) (t ∷ with_setting s ts))) [
      | true ↦ (here, all)
      | false ↦ (all.0, all_with Q s ts here all.1)
    ]

module _ (Q : TimerSetting → Type 0) (later : (s : TimerSetting) (due : ℕ) → Q s → Q (record s { due = due })) where
  pub all_again : (now : ℕ) (s : TimerSetting) (settings : List TimerSetting) → Q s → AllByRecursion Q settings → AllByRecursion Q (set_again now s settings)
  all_again now s settings here all =
      let anew : TimerSetting = record s { due = next_due s.due s.period now } in
      elim (s.period == 0) as (λ b. AllByRecursion Q (cond b settings (with_setting anew settings))) [ true ↦ all | false ↦ all_with Q anew settings (later s (next_due s.due s.period now) here) all ]

  all_anew : (now : ℕ) (ss settings : List TimerSetting) → AllByRecursion Q ss → AllByRecursion Q settings → AllByRecursion Q (set_all_again now ss settings)
  all_anew now [] settings here all = all
  all_anew now (s ∷ ss) settings here all = all_anew now ss (set_again now s settings) here.1 (all_again now s settings here.0 all)

  pub all_expiry : (now : ℕ) (settings : List TimerSetting) → AllByRecursion Q settings → AllByRecursion Q (after_expiry now settings)
  all_expiry now settings all =
      all_anew now (expired now settings) (filter (λ (s : TimerSetting). not (is_due now s)) settings)
      (all_filter Q (is_due now) settings all) (all_filter Q (λ (s : TimerSetting). not (is_due now s)) settings all)

  pub all_set_timer : (now : ℕ) (object : ObjectId) (due : Option ℤ) (period window : ℕ) (settings : List TimerSetting) → ((moment : ℕ) → Q (record { object = object; due = moment; period = period; window = window })) → AllByRecursion Q settings
      → AllByRecursion Q (set_timer now object due period window settings)
  all_set_timer now object None period window settings here all = all_filter Q (λ (s : TimerSetting). not (s.object.0 == object.0)) settings all
  all_set_timer now object (Some due) period window settings here all =
      let s : TimerSetting = setting_for now object due period window in
      let rest : AllByRecursion Q (without_setting object settings) = all_filter Q (λ (t : TimerSetting). not (t.object.0 == object.0)) settings all in
      elim (is_due now s) as (λ b. AllByRecursion Q (cond b (set_again now s (without_setting object settings)) (with_setting s (without_setting object settings)))) [
        | true ↦ all_again now s (without_setting object settings) (here s.due) rest
        | false ↦ all_with Q s (without_setting object settings) (here s.due) rest
      ]

abbrev pub AreOf : (ℕ → Type 0) → List TimerSetting → Type 0
AreOf P settings = AllByRecursion (λ (s : TimerSetting). P s.object.0) settings

-- by what their objects have
module _ (P : ℕ → Type 0) where
  pub of_again : (now : ℕ) (s : TimerSetting) (settings : List TimerSetting) → P s.object.0 → AreOf P settings → AreOf P (set_again now s settings)
  of_again now s settings here all = all_again (λ (x : TimerSetting). P x.object.0) (λ x due h. h) now s settings here all

  pub of_expiry : (now : ℕ) (settings : List TimerSetting) → AreOf P settings → AreOf P (after_expiry now settings)
  of_expiry now settings all = all_expiry (λ (x : TimerSetting). P x.object.0) (λ x due h. h) now settings all

  pub of_set : (now : ℕ) (object : ObjectId) (due : Option ℤ) (period window : ℕ) (settings : List TimerSetting) → P object.0 → AreOf P settings → AreOf P (set_timer now object due period window settings)
  of_set now object due period window settings here all = all_set_timer (λ (x : TimerSetting). P x.object.0) (λ x due h. h) now object due period window settings (λ moment. here) all

-- ---- a wait that is armed

-- the sources with its arming and its timeout
abbrev pub with_arming : ObjectId → KernelId → Option ℤ → Sources → Sources
with_arming object kernel timeout s =
    record s { settings = set_timer s.now object timeout 0 0 s.settings; armings = s.armings ++ record { object = object; kernel = kernel } ∷ [] }

-- ---- what objects firings are of

-- settings of the objects that have P, and armings of those that have R
pub record AreSourcesOf (P R : ℕ → Type 0) (s : Sources) : Type 0 where
  pub settings : AreOf P s.settings
  pub armings : AllByRecursion (λ (a : Arming). R a.object.0) s.armings

abbrev pub AreJobsOf : (ℕ → Type 0) → List Job → Type 0
AreJobsOf P jobs = AllByRecursion (λ (j : Job). P j.object.0 × (is_completion j.result ≡ false)) jobs

pub new_rows : (P : ℕ → Type 0) (objects : List ObjectRow) (next_number : ℕ) (jobs : List Job) → AreJobsOf P jobs → AreNew next_number (rows_of objects next_number jobs)
new_rows P objects next_number [] all = tt
new_rows P objects next_number (j ∷ js) all = (record { numbered = refl; unbegun = refl; plain = λ _. all.0.1 }, new_rows P objects (next_number + 1) js all.1)

pub record IsFiringOf (P R : ℕ → Type 0) (f : Firing) : Type 0 where
  pub sources : AreSourcesOf P R f.sources
  pub jobs : AreJobsOf P f.jobs

-- the object that a trigger names
abbrev pub IsTriggerOf : (ℕ → Type 0) → (ℕ → Type 0) → Trigger → Type 0
IsTriggerOf P R (SetTimer object due period window) = P object.0
IsTriggerOf P R (SetWait object kernel timeout) = R object.0
IsTriggerOf P R _ = Unit {0}

module _ (P R : ℕ → Type 0) (of : (n : ℕ) → R n → P n) where
  disarmed_of : (object : ObjectId) (s : Sources) → AreSourcesOf P R s → AreSourcesOf P R (disarmed object s)
  disarmed_of object s all =
      record {
        settings = all_filter (λ (x : TimerSetting). P x.object.0) (λ (x : TimerSetting). not (x.object.0 == object.0)) s.settings all.settings;
        armings = all_filter (λ (a : Arming). R a.object.0) (λ (a : Arming). not (is_arming_of object.0 a)) s.armings all.armings;
      }

  release_to_of : (kernel : ℕ) (f : Firing) (first : Option Arming) → ((a : Arming) → first ≡ Some a → R a.object.0) → IsFiringOf P R f → IsFiringOf P R (release_to kernel f first)
  release_to_of kernel f None known all = all
  release_to_of kernel f (Some a) known all =
      let rest : AreSourcesOf P R (disarmed a.object f.sources) = disarmed_of a.object f.sources all.sources in
      record {
        sources = record { settings = rest.settings; armings = rest.armings };
        jobs = all_append (λ (j : Job). P j.object.0 × (is_completion j.result ≡ false)) f.jobs (job a.object WaitObject0) all.jobs (of a.object.0 (known a refl), refl);
      }

  release_times_of : (n kernel : ℕ) (f : Firing) → IsFiringOf P R f → IsFiringOf P R (release_times n kernel f)
  release_times_of zero kernel f all = all
  release_times_of (suc n) kernel f all =
      release_times_of n kernel (release_first kernel f)
      (elim (is_one_that is_signalled f.sources.kernels kernel) as (λ b. IsFiringOf P R (cond b (release_to kernel f (find (is_arming_on kernel) f.sources.armings)) f)) [
        | true ↦ release_to_of kernel f (find (is_arming_on kernel) f.sources.armings) (λ a found. find_all (λ (x : Arming). R x.object.0) (is_arming_on kernel) a f.sources.armings all.sources.armings found) all
        | false ↦ all
      ])

  pub signal_of : (how : KernelChange) (kernel : ℕ) (f : Firing) → IsFiringOf P R f → IsFiringOf P R (signal how kernel f)
  signal_of how kernel f all =
      release_times_of (length f.sources.armings) kernel (record f { sources = with_state (state_after how) kernel f.sources })
      (record { sources = record { settings = all.sources.settings; armings = all.sources.armings }; jobs = all.jobs })

  arm_of : (object : ObjectId) (kernel : KernelId) (timeout : Option ℤ) (s : Sources) → R object.0 → AreSourcesOf P R s → IsFiringOf P R (arm object kernel timeout s)
  arm_of object kernel timeout s here all =
      elim (is_one_that is_signalled s.kernels kernel.0) as (λ b. IsFiringOf P R (cond b (record { sources = with_state taken kernel.0 s; jobs = job object WaitObject0 ∷ [] })
      (cond (expires_at_once s.now timeout) (record { sources = s; jobs = job object WaitTimeout ∷ [] }) (jobless (with_arming object kernel timeout s))))) [
        | true ↦ record { sources = record { settings = all.settings; armings = all.armings }; jobs = ((of object.0 here, refl), tt) }
        | false ↦ elim (expires_at_once s.now timeout) as (λ b. IsFiringOf P R (cond b (record { sources = s; jobs = job object WaitTimeout ∷ [] }) (jobless (with_arming object kernel timeout s)))) [
          | true ↦ record { sources = all; jobs = ((of object.0 here, refl), tt) }
          | false ↦ record {
            sources = record {
              settings = of_set P s.now object timeout 0 0 s.settings (of object.0 here) all.settings;
              armings = all_append (λ (a : Arming). R a.object.0) s.armings (record { object = object; kernel = kernel }) all.armings here;
            };
            jobs = tt;
          }
        ]
      ]

  expiry_of : (armings : List Arming) (settings : List TimerSetting) → AreOf P settings → AreJobsOf P (map (expiry_job armings) settings)
  expiry_of armings [] all = tt
  expiry_of armings (s ∷ ss) all = ((all.0, elim (is_armed s.object.0 armings) as (λ b. is_completion (cond b WaitTimeout Plain) ≡ false) [ true ↦ refl | false ↦ refl ]), expiry_of armings ss all.1)

  pub firing_of : (trigger : Trigger) (s : Sources) → IsTriggerOf P R trigger → AreSourcesOf P R s → IsFiringOf P R (firing trigger s)
  firing_of (SetTimer object due period window) s here all =
      record {
        sources = record { settings = of_set P s.now object due period window s.settings here all.settings; armings = all.armings };
        jobs = elim (expires_at_once s.now due) as (λ b. AreJobsOf P (cond b (job object Plain ∷ []) [])) [ true ↦ ((here, refl), tt) | false ↦ tt ];
      }
  firing_of (Advance now) s here all =
      record {
        sources = record {
          settings = of_expiry P now s.settings all.settings;
          armings = all_filter (λ (a : Arming). R a.object.0) (λ (a : Arming). not (is_set a.object.0 (expired now s.settings))) s.armings all.armings;
        };
        jobs = expiry_of s.armings (expired now s.settings) (all_filter (λ (x : TimerSetting). P x.object.0) (is_due now) s.settings all.settings);
      }
  firing_of (SetWait object None timeout) s here all = record { sources = disarmed_of object s all; jobs = tt }
  firing_of (SetWait object (Some kernel) timeout) s here all = arm_of object kernel timeout (disarmed object s) here (disarmed_of object s all)
  firing_of (SetEvent kernel) s here all = signal_of Set kernel.0 (jobless s) (record { sources = all; jobs = tt })
  firing_of (ReleaseSemaphore kernel count) s here all = signal_of (Raise count) kernel.0 (jobless s) (record { sources = all; jobs = tt })

-- ---- objects that were made, and those that may be armed

pub numbered_made : (objects : List ObjectRow) (n : ℕ) (row : ObjectRow) → numbered objects n ≡ Some row → IsMade (length objects) n
numbered_made objects n row is =
    let at = numbered_some objects n row is in
    (at.1, omega (arith, at.1, made objects (n - 1) (ap is_some at.0)))

pub timer_stands : (w : World) (object : ObjectId) → IsTimer w object → is_standing w.objects object.0 ≡ true
timer_stands w object ready = ap (λ (o : Option ObjectRow). option_map_or (λ (x : ObjectRow). not x.released) o false) ready.stands ∙ ap not ready.unreleased

pub armable_stands : (objects : List ObjectRow) (n : ℕ) → may_be_armed objects n ≡ true → is_standing objects n ≡ true
armable_stands objects n may = of_row (numbered objects n) may
  where
    of_row : (row : Option ObjectRow) → option_map_or (λ (o : ObjectRow). is_same_kind o.kind Wait && not o.released) row false ≡ true → option_map_or (λ (o : ObjectRow). not o.released) row false ≡ true
    of_row None h = h
    of_row (Some row) h = (both (is_same_kind row.kind Wait) (not row.released) h).1

pub standing_made : (objects : List ObjectRow) (n : ℕ) → is_standing objects n ≡ true → IsMade (length objects) n
standing_made objects n stands = of_row (numbered objects n) refl stands
  where
    of_row : (row : Option ObjectRow) → numbered objects n ≡ row → option_map_or (λ (o : ObjectRow). not o.released) row false ≡ true → IsMade (length objects) n
    of_row None is h = absurd (false_true h)
    of_row (Some row) is h = numbered_made objects n row is

pub jobs_made : (objects : List ObjectRow) (jobs : List Job) → AreJobsOf (λ n. is_standing objects n ≡ true) jobs → AreJobsOf (IsMade (length objects)) jobs
jobs_made objects [] all = tt
jobs_made objects (j ∷ js) all = ((standing_made objects j.object.0 all.0.0, all.0.1), jobs_made objects js all.1)

pub armable_wait : (objects : List ObjectRow) (n : ℕ) → may_be_armed objects n ≡ true → is_wait_at objects n ≡ true
armable_wait objects n may = of_row (numbered objects n) refl may
  where
    of_row : (row : Option ObjectRow) → numbered objects n ≡ row → option_map_or (λ (o : ObjectRow). is_same_kind o.kind Wait && not o.released) row false ≡ true → is_wait_at objects n ≡ true
    of_row None is h = absurd (false_true h)
    of_row (Some row) is h = ap (λ (o : Option ObjectRow). option_map_or (λ (x : ObjectRow). is_same_kind x.kind Wait) o false) is ∙ (both (is_same_kind row.kind Wait) (not row.released) h).0

-- the sources of a world
abbrev pub AreSourcesIn : List ObjectRow → Sources → Type 0
AreSourcesIn objects s = AreSourcesOf (λ n. is_standing objects n ≡ true) (λ n. may_be_armed objects n ≡ true) s

abbrev pub IsFiringIn : List ObjectRow → Firing → Type 0
IsFiringIn objects f = IsFiringOf (λ n. is_standing objects n ≡ true) (λ n. may_be_armed objects n ≡ true) f

pub ready_of : (w : World) (trigger : Trigger) → IsReady w trigger → IsTriggerOf (λ n. is_standing w.objects n ≡ true) (λ n. may_be_armed w.objects n ≡ true) trigger
ready_of w (SetTimer object due period window) ready = timer_stands w object ready
ready_of w (Advance now) ready = tt
ready_of w (SetWait object kernel timeout) ready =
    let o = ready.wait in
    ap (λ (row : Option ObjectRow). option_map_or (λ (x : ObjectRow). is_same_kind x.kind Wait && not x.released) row false) o.stands ∙ ap₂ (λ k b. is_same_kind k Wait && not b) o.kind o.unreleased
ready_of w (SetEvent kernel) ready = tt
ready_of w (ReleaseSemaphore kernel count) ready = tt

pub fired_in : (w : World) (trigger : Trigger) → IsReady w trigger → AreSourcesIn w.objects (sources_of w) → IsFiringIn w.objects (firing trigger (sources_of w))
fired_in w trigger ready all = firing_of (λ n. is_standing w.objects n ≡ true) (λ n. may_be_armed w.objects n ≡ true) (λ n may. armable_stands w.objects n may) trigger (sources_of w) (ready_of w trigger ready) all

release_now : (n kernel : ℕ) (f : Firing) → (release_times n kernel f).sources.now ≡ f.sources.now
release_now zero kernel f = refl
release_now (suc n) kernel f = release_now n kernel (release_first kernel f) ∙ elim (is_one_that is_signalled f.sources.kernels kernel) as (λ b. (cond b (release_to kernel f (find (is_arming_on kernel) f.sources.armings)) f).sources.now ≡ f.sources.now) [
  | true ↦ of_first (find (is_arming_on kernel) f.sources.armings)
  | false ↦ refl
]
  where
    of_first : (first : Option Arming) → (release_to kernel f first).sources.now ≡ f.sources.now
    of_first None = refl
    of_first (Some a) = refl

arm_now : (object : ObjectId) (kernel : KernelId) (timeout : Option ℤ) (s : Sources) → (arm object kernel timeout s).sources.now ≡ s.now
arm_now object kernel timeout s =
    elim (is_one_that is_signalled s.kernels kernel.0) as (λ b. (cond b (record { sources = with_state taken kernel.0 s; jobs = job object WaitObject0 ∷ [] })
    (cond (expires_at_once s.now timeout) (record { sources = s; jobs = job object WaitTimeout ∷ [] }) (jobless (with_arming object kernel timeout s)))).sources.now ≡ s.now) [
      | true ↦ refl
      | false ↦ elim (expires_at_once s.now timeout) as (λ b. (cond b (record { sources = s; jobs = job object WaitTimeout ∷ [] }) (jobless (with_arming object kernel timeout s))).sources.now ≡ s.now) [ true ↦ refl | false ↦ refl ]
    ]

pub signal_now : (how : KernelChange) (kernel : ℕ) (f : Firing) → (signal how kernel f).sources.now ≡ f.sources.now
signal_now how kernel f = release_now (length f.sources.armings) kernel (record f { sources = with_state (state_after how) kernel f.sources })

pub fired_clock : (w : World) (trigger : Trigger) → IsReady w trigger → w.now ≤ clock_end → (firing trigger (sources_of w)).sources.now ≤ clock_end
fired_clock w (SetTimer object due period window) ready clock = clock
fired_clock w (Advance now) ready clock = ready.within
fired_clock w (SetWait object None timeout) ready clock = clock
fired_clock w (SetWait object (Some kernel) timeout) ready clock = omega (arith, clock, arm_now object kernel timeout (disarmed object (sources_of w)))
fired_clock w (SetEvent kernel) ready clock = omega (arith, clock, release_now (length w.armings) kernel.0 (jobless (with_state (state_after Set) kernel.0 (sources_of w))))
fired_clock w (ReleaseSemaphore kernel count) ready clock = omega (arith, clock, release_now (length w.armings) kernel.0 (jobless (with_state (state_after (Raise count)) kernel.0 (sources_of w))))
