-- What is set and armed of an object, where settings and armings change; and what armed waits take of the slots.
use Rattle.std.proofs.Common.{◌≡◌, ℕ, zero, suc, ◌+◌, ◌≤◌, ◌==◌, Bool, true, false, cond, not, ◌||◌, List, [], ◌∷◌, ◌++◌, length, map, Option, Some, None, refl, sym, ap, ap₂, ◌∙◌, subst, arith, filter, find, eqb-true, eq-eqb, length-append}
use Rattle.std.specs.Prelude.{ℤ}
use Rattle.std.specs.List.{AllByRecursion}
use Rattle.std.proofs.lemmas.List.{length-map}
use Rattle.std.proofs.lemmas.List.Folds.{list_any-append}
use Rattle.tp_base.specs.declared.ids.ObjectId.{ObjectId}
use Rattle.tp_base.specs.declared.answers.TakeResult.TheVariants.{Plain, WaitObject0, WaitTimeout}
use Rattle.tp_base.specs.declared.plans.KernelChange.{KernelChange}
use Rattle.tp_base.specs.declared.plans.Trigger.TheVariants.{Advance}
use Rattle.tp_base.specs.declared.rows.TimerSetting.{TimerSetting}
use Rattle.tp_base.specs.declared.rows.Arming.{Arming}
use Rattle.tp_base.specs.Armings.{is_armed, is_arming_of, is_arming_on, without_arming, is_set, armed_behind}
use Rattle.tp_base.specs.Kernels.{is_signalled, state_after}
use Rattle.tp_base.specs.Timers.{with_setting, without_setting, set_again, set_all_again, setting_for, set_timer, expires_before, expired, is_due, next_due}
use Rattle.tp_model.specs.Kernels.{is_one_that}
use Rattle.tp_model.specs.Sources.{Sources, Firing, job, with_state, disarmed, release_to, release_first, release_times, release, signal, expiry_job, firing}
use Rattle.tp_model.specs.Support.Sound.{count_armed, count_set, IsTimedOut}
use Rattle.tp_model.proofs.Lists.{filter_filter, any_filter, any_filter_none, all_filter, length_filter_le}
use Rattle.tp_model.proofs.Refusals.{false_true, or_true, eqb_sym}

abbrev pub one_if : Bool → ℕ
one_if b = cond b 1 0

-- a number that is another one than this
other_than : (n p o : ℕ) → (p == o) ≡ false → not (n == p) ≡ false → (n == o) ≡ false
other_than n p o apart same = known (n == o) refl
  where
    same_then : (b : Bool) → (n == p) ≡ b → not b ≡ false → n ≡ p
    same_then true is _ = eqb-true n p is
    same_then false is h = absurd (false_true (sym h))

    known : (b : Bool) → (n == o) ≡ b → (n == o) ≡ false
    known false is = is
    known true is = absurd (false_true (sym apart ∙ eq-eqb p o (sym (same_then (n == p) refl same) ∙ eqb-true n o is)))

pub armed_most : (o : ℕ) (armings : List Arming) → count_armed o armings ≤ 1
armed_most o armings = elim (is_armed o armings) as (λ b. cond b 1 0 ≤ 1) [ true ↦ omega arith | false ↦ omega arith ]

-- what is filtered out and what is left
pub filter_parts : {X : Type 0} (p q : X → Bool) (xs : List X) → length (filter p (filter q xs)) + length (filter p (filter (λ x. not (q x)) xs)) ≡ length (filter p xs)
filter_parts p q [] = refl
filter_parts {X} p q (x ∷ xs) =
    elim (q x) as (λ b. length (filter p (cond b (x ∷ filter q xs) (filter q xs))) + length (filter p (cond (not b) (x ∷ filter (λ y. not (q y)) xs) (filter (λ y. not (q y)) xs))) ≡ length (filter p (x ∷ xs))) [
      | true ↦ elim (p x) as (λ b. length (cond b (x ∷ filter p (filter q xs)) (filter p (filter q xs))) + length (filter p (filter (λ y. not (q y)) xs)) ≡ length (cond b (x ∷ filter p xs) (filter p xs))) [
        | true ↦ omega (arith, filter_parts p q xs)
        | false ↦ filter_parts p q xs
      ]
      | false ↦ elim (p x) as (λ b. length (filter p (filter q xs)) + length (cond b (x ∷ filter p (filter (λ y. not (q y)) xs)) (filter p (filter (λ y. not (q y)) xs))) ≡ length (cond b (x ∷ filter p xs) (filter p xs))) [
        | true ↦ omega (arith, filter_parts p q xs)
        | false ↦ filter_parts p q xs
      ]
    ]

pub count_one : {X : Type 0} (p : X → Bool) (x : X) (xs : List X) → length (filter p (x ∷ xs)) ≡ one_if (p x) + length (filter p xs)
count_one {X} p x xs = elim (p x) as (λ b. length (cond b (x ∷ filter p xs) (filter p xs)) ≡ one_if b + length (filter p xs)) [ true ↦ omega arith | false ↦ omega arith ]

pub count_last : {X : Type 0} (p : X → Bool) (xs : List X) (x : X) → length (filter p (xs ++ x ∷ [])) ≡ length (filter p xs) + one_if (p x)
count_last p [] x = omega (arith, count_one p x [])
count_last p (y ∷ xs) x = omega (arith, count_one p y (xs ++ x ∷ []), count_one p y xs, count_last p xs x)

-- ---- one object

module _ (o : ℕ) where
  -- ---- its settings

  set_own : (settings : List TimerSetting) → count_set o (filter (λ (s : TimerSetting). not (s.object.0 == o)) settings) ≡ 0
  set_own [] = refl
  set_own (s ∷ ss) =
      elim (s.object.0 == o) as (λ b. (s.object.0 == o) ≡ b → count_set o (cond (not b) (s ∷ filter (λ (t : TimerSetting). not (t.object.0 == o)) ss) (filter (λ (t : TimerSetting). not (t.object.0 == o)) ss)) ≡ 0) [
        | true ↦ λ _. set_own ss
        | false ↦ λ e. omega (arith, count_one (λ (t : TimerSetting). t.object.0 == o) s (filter (λ (t : TimerSetting). not (t.object.0 == o)) ss), ap one_if e, set_own ss)
      ] refl

  set_other : (p : ObjectId) (settings : List TimerSetting) → (p.0 == o) ≡ false → count_set o (without_setting p settings) ≡ count_set o settings
  set_other p settings apart =
      ap length (filter_filter (λ (s : TimerSetting). s.object.0 == o) (λ (s : TimerSetting). not (s.object.0 == p.0)) (λ s out. other_than s.object.0 p.0 o apart out) settings)

  set_with : (s : TimerSetting) (settings : List TimerSetting) → count_set o (with_setting s settings) ≡ count_set o settings + one_if (s.object.0 == o)
  set_with s [] = omega (arith, count_one (λ (t : TimerSetting). t.object.0 == o) s [])
  set_with s (t ∷ ts) =
      elim (expires_before s t) as (λ b. count_set o (cond b (s ∷ t ∷ ts) (t ∷ with_setting s ts)) ≡ count_set o (t ∷ ts) + one_if (s.object.0 == o)) [
        | true ↦ omega (arith, count_one (λ (x : TimerSetting). x.object.0 == o) s (t ∷ ts))
        | false ↦ omega (arith, count_one (λ (x : TimerSetting). x.object.0 == o) t (with_setting s ts), count_one (λ (x : TimerSetting). x.object.0 == o) t ts, set_with s ts)
      ]

  -- one that is set again is of another object
  again_same : (now : ℕ) (s : TimerSetting) (settings : List TimerSetting) → (s.object.0 ≡ o → s.period ≡ 0) → count_set o (set_again now s settings) ≡ count_set o settings
  again_same now s settings once =
      let anew : TimerSetting = record s { due = next_due s.due s.period now } in
      elim (s.period == 0) as (λ b. (s.period == 0) ≡ b → count_set o (cond b settings (with_setting anew settings)) ≡ count_set o settings) [
        | true ↦ λ _. refl
        | false ↦ λ periodic. omega (arith, set_with anew settings, ap one_if (apart periodic (s.object.0 == o) refl))
      ] refl
    where
      apart : (s.period == 0) ≡ false → (b : Bool) → (s.object.0 == o) ≡ b → (s.object.0 == o) ≡ false
      apart periodic false is = is
      apart periodic true is = absurd (false_true (sym periodic ∙ eq-eqb s.period 0 (once (eqb-true s.object.0 o is))))

  pub anew_same : (now : ℕ) (ss settings : List TimerSetting) → AllByRecursion (λ (s : TimerSetting). s.object.0 ≡ o → s.period ≡ 0) ss → count_set o (set_all_again now ss settings) ≡ count_set o settings
  anew_same now [] settings once = refl
  anew_same now (s ∷ ss) settings once = anew_same now ss (set_again now s settings) once.1 ∙ again_same now s settings once.0

  -- a timer of another object is set
  pub timer_other : (now : ℕ) (object : ObjectId) (due : Option ℤ) (period window : ℕ) (settings : List TimerSetting) → (object.0 == o) ≡ false → count_set o (set_timer now object due period window settings) ≡ count_set o settings
  timer_other now object None period window settings apart = set_other object settings apart
  timer_other now object (Some due) period window settings apart =
      let s : TimerSetting = setting_for now object due period window in
      let rest : List TimerSetting = without_setting object settings in
      elim (is_due now s) as (λ b. count_set o (cond b (set_again now s rest) (with_setting s rest)) ≡ count_set o settings) [
        | true ↦ again_same now s rest (λ is. absurd (false_true (sym apart ∙ eq-eqb object.0 o is))) ∙ set_other object settings apart
        | false ↦ omega (arith, set_with s rest, ap one_if apart, set_other object settings apart)
      ]

  -- a timeout of this one is set
  pub timeout_own : (now : ℕ) (object : ObjectId) (due : Option ℤ) (settings : List TimerSetting) → count_set o settings ≡ 0 → count_set o (set_timer now object due 0 0 settings) ≤ 1
  timeout_own now object due settings none = of_due due
    where
      fewer : count_set o (without_setting object settings) ≡ 0
      fewer = omega (arith, none, filter_parts (λ (s : TimerSetting). s.object.0 == o) (λ (s : TimerSetting). not (s.object.0 == object.0)) settings)

      few_with : (s : TimerSetting) → count_set o (with_setting s (without_setting object settings)) ≤ 1
      few_with s = elim (s.object.0 == o) as (λ b. count_set o (with_setting s (without_setting object settings)) ≡ count_set o (without_setting object settings) + one_if b → count_set o (with_setting s (without_setting object settings)) ≤ 1) [
        | true ↦ λ e. omega (arith, e, fewer)
        | false ↦ λ e. omega (arith, e, fewer)
      ] (set_with s (without_setting object settings))

      of_due : (d : Option ℤ) → count_set o (set_timer now object d 0 0 settings) ≤ 1
      of_due None = omega (arith, fewer)
      of_due (Some d) =
          let s : TimerSetting = setting_for now object d 0 0 in
          elim (is_due now s) as (λ b. count_set o (cond b (set_again now s (without_setting object settings)) (with_setting s (without_setting object settings))) ≤ 1) [
            | true ↦ omega (arith, fewer)
            | false ↦ few_with s
          ]

  -- ---- its arming

  armed_own : (armings : List Arming) → is_armed o (without_arming o armings) ≡ false
  armed_own [] = refl
  armed_own (a ∷ armings) =
      elim (is_arming_of o a) as (λ b. is_arming_of o a ≡ b → is_armed o (cond (not b) (a ∷ without_arming o armings) (without_arming o armings)) ≡ false) [
        | true ↦ λ _. armed_own armings
        | false ↦ λ e. ap (λ b. b || is_armed o (without_arming o armings)) e ∙ armed_own armings
      ] refl

  armed_other : (p : ℕ) (armings : List Arming) → (p == o) ≡ false → is_armed o (without_arming p armings) ≡ is_armed o armings
  armed_other p armings apart = any_filter (is_arming_of o) (λ (a : Arming). not (is_arming_of p a)) (λ a out. other_than a.object.0 p o apart out) armings

  pub armed_last : (armings : List Arming) (a : Arming) → is_armed o (armings ++ a ∷ []) ≡ (is_armed o armings || (is_arming_of o a || false))
  armed_last armings a = list_any-append (is_arming_of o) armings (a ∷ [])

  -- what is released is armed
  pub found_armed : (kernel : ℕ) (armings : List Arming) (a : Arming) → find (is_arming_on kernel) armings ≡ Some a → (a.object.0 == o) ≡ true → is_armed o armings ≡ true
  found_armed kernel [] a found own = absurd cc
  found_armed kernel (x ∷ armings) a found own =
      elim (is_arming_on kernel x) as (λ b. cond b (Some x) (find (is_arming_on kernel) armings) ≡ Some a → is_armed o (x ∷ armings) ≡ true) [
        | true ↦ λ e. let same : x ≡ a = cc in ap (λ b. b || is_armed o armings) (ap (is_arming_of o) same ∙ own)
        | false ↦ λ e. ap (λ b. is_arming_of o x || b) (found_armed kernel armings a e own) ∙ or_true (is_arming_of o x)
      ] found

  -- ---- it is disarmed, or another one

  pub data Disarms (p : ObjectId) (s : Sources) : Type 0 where
    Own : (p.0 == o) ≡ true → count_set o (disarmed p s).settings ≡ 0 → is_armed o (disarmed p s).armings ≡ false → Disarms p s
    Other : (p.0 == o) ≡ false → count_set o (disarmed p s).settings ≡ count_set o s.settings → is_armed o (disarmed p s).armings ≡ is_armed o s.armings → Disarms p s

  pub disarms : (p : ObjectId) (s : Sources) → Disarms p s
  disarms p s = known (p.0 == o) refl
    where
      known : (b : Bool) → (p.0 == o) ≡ b → Disarms p s
      known true is =
          let same : o ≡ p.0 = sym (eqb-true p.0 o is) in
          Own is (subst (λ n. count_set o (filter (λ (t : TimerSetting). not (t.object.0 == n)) s.settings) ≡ 0) same (set_own s.settings)) (subst (λ n. is_armed o (without_arming n s.armings) ≡ false) same (armed_own s.armings))
      known false is = Other is (set_other p s.settings is) (armed_other p.0 s.armings is)

  once_disarmed : (p : ObjectId) (s : Sources) → AllByRecursion (λ (t : TimerSetting). t.object.0 ≡ o → t.period ≡ 0) s.settings → AllByRecursion (λ (t : TimerSetting). t.object.0 ≡ o → t.period ≡ 0) (disarmed p s).settings
  once_disarmed p s once = all_filter (λ (t : TimerSetting). t.object.0 ≡ o → t.period ≡ 0) (λ (t : TimerSetting). not (t.object.0 == p.0)) s.settings once

  pub timed_disarmed : (p : ObjectId) (s : Sources) → IsTimedOut o s.settings s.armings → IsTimedOut o (disarmed p s).settings (disarmed p s).armings
  timed_disarmed p s timed = of_case (disarms p s)
    where
      of_case : Disarms p s → IsTimedOut o (disarmed p s).settings (disarmed p s).armings
      of_case (Own is none unarmed) = record { few = omega (arith, none); once = once_disarmed p s timed.once }
      of_case (Other is same armed) = record { few = omega (arith, same, ap one_if armed, timed.few); once = once_disarmed p s timed.once }

  pub armed_fewer : (p : ObjectId) (s : Sources) → count_armed o (disarmed p s).armings ≤ count_armed o s.armings
  armed_fewer p s = of_case (disarms p s)
    where
      of_case : Disarms p s → count_armed o (disarmed p s).armings ≤ count_armed o s.armings
      of_case (Own is none unarmed) = omega (arith, ap one_if unarmed)
      of_case (Other is same armed) = omega (arith, ap one_if armed)

-- ---- slots

-- one fewer is armed
disarmed_length : (o : ℕ) (armings : List Arming) → is_armed o armings ≡ true → length (without_arming o armings) + 1 ≤ length armings
disarmed_length o [] e = absurd (false_true e)
disarmed_length o (a ∷ armings) e =
    elim (is_arming_of o a) as (λ b. (b || is_armed o armings) ≡ true → length (cond (not b) (a ∷ without_arming o armings) (without_arming o armings)) + 1 ≤ length (a ∷ armings)) [
      | true ↦ λ _. omega (arith, no_longer armings)
      | false ↦ λ h. omega (arith, disarmed_length o armings h)
    ] e
  where
    no_longer : (xs : List Arming) → length (without_arming o xs) ≤ length xs
    no_longer [] = omega arith
    no_longer (x ∷ xs) = elim (is_arming_of o x) as (λ b. length (cond (not b) (x ∷ without_arming o xs) (without_arming o xs)) ≤ length (x ∷ xs)) [ true ↦ omega (arith, no_longer xs) | false ↦ omega (arith, no_longer xs) ]

-- so many callbacks and armed waits at most
abbrev IsWithin : ℕ → Firing → Type 0
IsWithin most f = length f.jobs + length f.sources.armings ≤ most

release_to_within : (most kernel : ℕ) (f : Firing) (first : Option Arming) → ((a : Arming) → first ≡ Some a → is_armed a.object.0 f.sources.armings ≡ true) → IsWithin most f → IsWithin most (release_to kernel f first)
release_to_within most kernel f None known h = h
release_to_within most kernel f (Some a) known h = omega (arith, length-append f.jobs (job a.object WaitObject0 ∷ []), disarmed_length a.object.0 f.sources.armings (known a refl), h)

release_times_within : (most n kernel : ℕ) (f : Firing) → IsWithin most f → IsWithin most (release_times n kernel f)
release_times_within most zero kernel f h = h
release_times_within most (suc n) kernel f h =
    release_times_within most n kernel (release_first kernel f)
    (elim (is_one_that is_signalled f.sources.kernels kernel) as (λ b. IsWithin most (cond b (release_to kernel f (find (is_arming_on kernel) f.sources.armings)) f)) [
      | true ↦ release_to_within most kernel f (find (is_arming_on kernel) f.sources.armings) (λ a found. found_armed a.object.0 kernel f.sources.armings a found (eq-eqb a.object.0 a.object.0 refl)) h
      | false ↦ h
    ])

pub signal_within : (how : KernelChange) (kernel : ℕ) (f : Firing) → length (signal how kernel f).jobs + length (signal how kernel f).sources.armings ≤ length f.jobs + length f.sources.armings
signal_within how kernel f = release_times_within (length f.jobs + length f.sources.armings) (length f.sources.armings) kernel (record f { sources = with_state (state_after how) kernel f.sources }) (omega arith)

-- what all armings have, an object that is armed has
pub armed_has : (P : ℕ → Type 0) (o : ℕ) (armings : List Arming) → AllByRecursion (λ (a : Arming). P a.object.0) armings → is_armed o armings ≡ true → P o
armed_has P o [] all e = absurd (false_true e)
armed_has P o (a ∷ armings) all e =
    elim (is_arming_of o a) as (λ b. is_arming_of o a ≡ b → (b || is_armed o armings) ≡ true → P o) [
      | true ↦ λ is _. subst P (eqb-true a.object.0 o is) all.0
      | false ↦ λ _ h. armed_has P o armings all.1 h
    ] refl e

-- ---- settings expire one after another: the first is disarmed, and of the others none is of its object

pub behind_first : (s : TimerSetting) (ss : List TimerSetting) (armings : List Arming) → armed_behind (s ∷ ss) armings ≡ armed_behind ss (without_arming s.object.0 armings)
behind_first s ss [] = refl
behind_first s ss (a ∷ armings) =
    elim (s.object.0 == a.object.0) as (λ b. (s.object.0 == a.object.0) ≡ b
    → cond (not (b || is_set a.object.0 ss)) (a ∷ armed_behind (s ∷ ss) armings) (armed_behind (s ∷ ss) armings)
    ≡ armed_behind ss (cond (not (is_arming_of s.object.0 a)) (a ∷ without_arming s.object.0 armings) (without_arming s.object.0 armings))) [
      | true ↦ λ e.
          behind_first s ss armings ∙ ap (λ b. armed_behind ss (cond (not b) (a ∷ without_arming s.object.0 armings) (without_arming s.object.0 armings))) (sym (eqb_sym a.object.0 s.object.0 ∙ e))
      | false ↦ λ e.
          ap (λ l. cond (not (is_set a.object.0 ss)) (a ∷ l) l) (behind_first s ss armings)
          ∙ ap (λ b. armed_behind ss (cond (not b) (a ∷ without_arming s.object.0 armings) (without_arming s.object.0 armings))) (sym (eqb_sym a.object.0 s.object.0 ∙ e))
    ] refl

-- what is armed of the others is so before and after
pub armed_others : (o : ℕ) (settings : List TimerSetting) (armings : List Arming) → count_set o settings ≡ 0 → AllByRecursion (λ (t : TimerSetting). is_armed t.object.0 (without_arming o armings) ≡ is_armed t.object.0 armings) settings
armed_others o [] armings none = tt
armed_others o (t ∷ ts) armings none = (
  armed_other t.object.0 o armings (eqb_sym o t.object.0 ∙ not_one (t.object.0 == o) (omega (arith, none, count_one (λ (x : TimerSetting). x.object.0 == o) t ts))),
  armed_others o ts armings (omega (arith, none, count_one (λ (x : TimerSetting). x.object.0 == o) t ts)),
)
  where
    not_one : (b : Bool) → one_if b ≡ 0 → b ≡ false
    not_one true e = absurd (omega (arith, e))
    not_one false e = refl

pub jobs_others : (o : ℕ) (settings : List TimerSetting) (armings : List Arming) → count_set o settings ≡ 0 → map (expiry_job (without_arming o armings)) settings ≡ map (expiry_job armings) settings
jobs_others o settings armings none = each settings (armed_others o settings armings none)
  where
    each : (ts : List TimerSetting) → AllByRecursion (λ (t : TimerSetting). is_armed t.object.0 (without_arming o armings) ≡ is_armed t.object.0 armings) ts → map (expiry_job (without_arming o armings)) ts ≡ map (expiry_job armings) ts
    each [] same = refl
    each (t ∷ ts) same = ap₂ (λ b js. job t.object (cond b WaitTimeout Plain) ∷ js) same.0 (each ts same.1)

-- the timeouts that expire, of waits that each have one at most, and the waits that stay armed
timeouts_within : (settings : List TimerSetting) (armings : List Arming) → ((o : ℕ) → is_armed o armings ≡ true → count_set o settings ≤ 1)
    → length (filter (λ (s : TimerSetting). is_armed s.object.0 armings) settings) + length (armed_behind settings armings) ≤ length armings
timeouts_within [] armings once = omega (arith, length_filter_le (λ (a : Arming). not (is_set a.object.0 [])) (λ (a : Arming). true) (λ a e. absurd (false_true (sym e))) armings, whole armings)
  where
    whole : (xs : List Arming) → length (filter (λ (a : Arming). true) xs) ≡ length xs
    whole [] = refl
    whole (x ∷ xs) = ap suc (whole xs)
timeouts_within (s ∷ ss) armings once =
    elim (is_armed s.object.0 armings) as (λ b. is_armed s.object.0 armings ≡ b → length (cond b (s ∷ filter (λ (t : TimerSetting). is_armed t.object.0 armings) ss) (filter (λ (t : TimerSetting). is_armed t.object.0 armings) ss)) + length (armed_behind (s ∷ ss) armings) ≤ length armings) [
      | true ↦ λ armed.
          let none : count_set s.object.0 ss ≡ 0 = omega (arith, once s.object.0 armed, count_one (λ (t : TimerSetting). t.object.0 == s.object.0) s ss, ap one_if (eq-eqb s.object.0 s.object.0 refl)) in
          omega (
            arith,
            as_many ss (armed_others s.object.0 ss armings none),
            ap length (behind_first s ss armings),
            timeouts_within ss (without_arming s.object.0 armings) (λ o still. omega (arith, once o (was_armed o still), count_one (λ (t : TimerSetting). t.object.0 == o) s ss)),
            disarmed_length s.object.0 armings armed,
          )
      | false ↦ λ _.
          omega (
            arith,
            timeouts_within ss armings (λ o still. omega (arith, once o still, count_one (λ (t : TimerSetting). t.object.0 == o) s ss)),
            length_filter_le (λ (a : Arming). not (is_set a.object.0 (s ∷ ss))) (λ (a : Arming). not (is_set a.object.0 ss)) (λ a out. no_more (s.object.0 == a.object.0) (is_set a.object.0 ss) out) armings,
          )
    ] refl
  where
    no_more : (b c : Bool) → not c ≡ false → not (b || c) ≡ false
    no_more true c out = refl
    no_more false c out = out

    was_armed : (o : ℕ) → is_armed o (without_arming s.object.0 armings) ≡ true → is_armed o armings ≡ true
    was_armed o still = known (is_armed o armings) refl
      where
        known : (b : Bool) → is_armed o armings ≡ b → is_armed o armings ≡ true
        known true is = is
        known false is = absurd (false_true (sym (any_filter_none (is_arming_of o) (λ (a : Arming). not (is_arming_of s.object.0 a)) armings is) ∙ still))

    as_many : (ts : List TimerSetting) → AllByRecursion (λ (t : TimerSetting). is_armed t.object.0 (without_arming s.object.0 armings) ≡ is_armed t.object.0 armings) ts
        → length (filter (λ (t : TimerSetting). is_armed t.object.0 armings) ts) ≡ length (filter (λ (t : TimerSetting). is_armed t.object.0 (without_arming s.object.0 armings)) ts)
    as_many [] same = refl
    as_many (t ∷ ts) same = omega (arith, count_one (λ (x : TimerSetting). is_armed x.object.0 armings) t ts, count_one (λ (x : TimerSetting). is_armed x.object.0 (without_arming s.object.0 armings)) t ts, ap one_if same.0, as_many ts same.1)

-- what expires takes no more slots than the timers that do
pub expiry_within : (now : ℕ) (s : Sources) → ((o : ℕ) → is_armed o s.armings ≡ true → count_set o s.settings ≤ 1)
    → length (firing (Advance now) s).jobs + length (firing (Advance now) s).sources.armings ≤ length s.armings + length (filter (λ (t : TimerSetting). not (is_armed t.object.0 s.armings)) (expired now s.settings))
expiry_within now s once =
    let over : List TimerSetting = expired now s.settings in
    let few : (o : ℕ) → is_armed o s.armings ≡ true → count_set o over ≤ 1 = λ o armed. omega (arith, once o armed, filter_parts (λ (t : TimerSetting). t.object.0 == o) (is_due now) s.settings) in
    omega (arith, timeouts_within over s.armings few, whole over, length-map over (expiry_job s.armings))
  where
    whole : (xs : List TimerSetting) → length (filter (λ (t : TimerSetting). is_armed t.object.0 s.armings) xs) + length (filter (λ (t : TimerSetting). not (is_armed t.object.0 s.armings)) xs) ≡ length xs
    whole [] = refl
    whole (x ∷ xs) = omega (arith, whole xs, count_one (λ (t : TimerSetting). is_armed t.object.0 s.armings) x xs, count_one (λ (t : TimerSetting). not (is_armed t.object.0 s.armings)) x xs, one_of (is_armed x.object.0 s.armings))
      where
        one_of : (b : Bool) → one_if b + one_if (not b) ≡ 1
        one_of true = refl
        one_of false = refl

-- ---- a release ends where the object is no longer signalled, or no wait is armed on it

pub release_idle : (n kernel : ℕ) (f : Firing) → release_first kernel f ≡ f → release_times n kernel f ≡ f
release_idle zero kernel f idle = refl
release_idle (suc n) kernel f idle = ap (release_times n kernel) idle ∙ release_idle n kernel f idle

abbrev IsOver : ℕ → Sources → Type 0
IsOver kernel s = is_one_that is_signalled s.kernels kernel ≡ true → find (is_arming_on kernel) s.armings ≡ None

release_ends : (n kernel : ℕ) (f : Firing) → length f.sources.armings ≤ n → IsOver kernel (release_times n kernel f).sources
release_ends zero kernel f few = λ signalled. of_armings f.sources.armings few
  where
    of_armings : (armings : List Arming) → length armings ≤ 0 → find (is_arming_on kernel) armings ≡ None
    of_armings [] few = refl
    of_armings (a ∷ armings) few = absurd (omega (arith, few))
release_ends (suc n) kernel f few = of_signal (λ (g : Firing) (fits : length g.sources.armings ≤ n). release_ends n kernel g fits) (is_one_that is_signalled f.sources.kernels kernel) refl
  where
    stays : release_first kernel f ≡ f → IsOver kernel f.sources → IsOver kernel (release_times (suc n) kernel f).sources
    stays idle over = subst (λ (g : Firing). IsOver kernel g.sources) (sym (release_idle (suc n) kernel f idle)) over

    of_first : ((g : Firing) → length g.sources.armings ≤ n → IsOver kernel (release_times n kernel g).sources)
        → (first : Option Arming) → find (is_arming_on kernel) f.sources.armings ≡ first → is_one_that is_signalled f.sources.kernels kernel ≡ true → IsOver kernel (release_times (suc n) kernel f).sources
    of_first ends None none signalled = stays (ap (λ b. cond b (release_to kernel f (find (is_arming_on kernel) f.sources.armings)) f) signalled ∙ ap (release_to kernel f) none) (λ _. none)
    of_first ends (Some a) found signalled =
        let one : release_first kernel f ≡ release_to kernel f (Some a) = ap (λ b. cond b (release_to kernel f (find (is_arming_on kernel) f.sources.armings)) f) signalled ∙ ap (release_to kernel f) found in
        let fewer : length (without_arming a.object.0 f.sources.armings) + 1 ≤ length f.sources.armings = disarmed_length a.object.0 f.sources.armings (found_armed a.object.0 kernel f.sources.armings a found (eq-eqb a.object.0 a.object.0 refl)) in
        subst (λ (g : Firing). IsOver kernel (release_times n kernel g).sources) (sym one) (ends (release_to kernel f (Some a)) (omega (arith, few, fewer)))

    of_signal : ((g : Firing) → length g.sources.armings ≤ n → IsOver kernel (release_times n kernel g).sources) → (b : Bool) → is_one_that is_signalled f.sources.kernels kernel ≡ b → IsOver kernel (release_times (suc n) kernel f).sources
    of_signal ends true signalled = of_first ends (find (is_arming_on kernel) f.sources.armings) refl signalled
    of_signal ends false still = stays (ap (λ b. cond b (release_to kernel f (find (is_arming_on kernel) f.sources.armings)) f) still) (λ signalled. absurd (false_true (sym still ∙ signalled)))

-- no wait stays armed on an object that is signalled
pub released : (kernel : ℕ) (f : Firing) → is_one_that is_signalled (release kernel f).sources.kernels kernel ≡ true → find (is_arming_on kernel) (release kernel f).sources.armings ≡ None
released kernel f = release_ends (length f.sources.armings) kernel f (omega arith)
