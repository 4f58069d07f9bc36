-- The first timer or timeout that is due expires: what is left leads to where all of it led.
use Rattle.std.proofs.Common.{◌≡◌, ◌≢◌, ℕ, suc, ◌+◌, ◌<◌, ◌≤◌, ◌==◌, Bool, true, false, cond, not, ◌||◌, All, List, [], ◌∷◌, length, map, get_or, Some, None, refl, sym, ap, ap₂, ◌∙◌, subst, arith, filter, eq-eqb, eqb-true}
use Rattle.std.specs.List.{list_any}
use Rattle.std.proofs.lemmas.List.{length-map}
use Rattle.tp_base.specs.declared.ids.ObjectId.{ObjectId}
use Rattle.tp_base.specs.declared.answers.TakeResult.{TakeResult}
use Rattle.tp_base.specs.declared.answers.TakeResult.TheVariants.{Plain, WaitTimeout}
use Rattle.tp_base.specs.declared.rows.Arming.{Arming}
use Rattle.tp_base.specs.declared.rows.TimerSetting.{TimerSetting}
use Rattle.tp_base.specs.Armings.{is_armed, is_arming_of, is_set, without_arming, armed_behind}
use Rattle.tp_base.specs.Timers.{after_expiry, expired, is_due, set_again}
use Rattle.kernel_events.specs.Kernels.{Kernels}
use Rattle.timer_objects.specs.Settings.{Timers, HasDistinctObjects, after_first, first_expired, is_there, told}
use Rattle.tp_model.specs.Sources.{Sources, Job, expiry_job, job, jobless}
use Rattle.tp_model.specs.Support.Sound.{count_set}
use Rattle.tp_model.proofs.Arming.{behind_first, count_one, jobs_others, one_if}
use Rattle.sources.specs.declared.firing.Cause.TheVariants.{Clock}
use Rattle.sources.specs.declared.LiveSources.TheInside.{Inside}
use Rattle.sources.specs.Firing.{Fires, after_jobs, before, expire_first, rest_of}
use Rattle.sources.specs.Kept.{AreOnce, IsKept, shown}
use Rattle.sources.specs.Rows.{SourceRows}
use Rattle.sources.proofs.Armed.{behind_length, behind_none, once_filter}
use Rattle.sources.proofs.Keeping.{with_parts}

-- ---- none is set twice

set_none : (o : ℕ) (ss : List TimerSetting) → ((n : ℕ) (d : TimerSetting) → n < length ss → (get_or ss n d).object.0 ≢ o) → count_set o ss ≡ 0
set_none o [] others = refl
set_none o (s ∷ ss) others =
    elim (s.object.0 == o) as (λ b. (s.object.0 == o) ≡ b → count_set o (s ∷ ss) ≡ 0) [
      | true ↦ λ is. absurd (others 0 s (omega arith) (eqb-true s.object.0 o is))
      | false ↦ λ e. omega (arith, count_one (λ (t : TimerSetting). t.object.0 == o) s ss, ap one_if e, set_none o ss (λ n d le. others (suc n) d (omega (arith, le))))
    ] refl

set_once : (o : ℕ) (ss : List TimerSetting) → HasDistinctObjects ss → count_set o ss ≤ 1
set_once o [] distinct = omega arith
set_once o (s ∷ ss) distinct =
    elim (s.object.0 == o) as (λ b. (s.object.0 == o) ≡ b → count_set o (s ∷ ss) ≤ 1) [
      | true ↦ λ is.
          omega (arith, count_one (λ (t : TimerSetting). t.object.0 == o) s ss, ap one_if is, set_none o ss (λ n d le e. distinct 0 (suc n) d (omega arith) (omega (arith, le)) (eqb-true s.object.0 o is ∙ sym e)))
      | false ↦ λ e. omega (arith, count_one (λ (t : TimerSetting). t.object.0 == o) s ss, ap one_if e, set_once o ss (λ n m d less le. distinct (suc n) (suc m) d (omega (arith, less)) (omega (arith, le))))
    ] refl

set_within : (o : ℕ) (p : TimerSetting → Bool) (ss : List TimerSetting) → count_set o (filter p ss) ≤ count_set o ss
set_within o p [] = omega arith
set_within o p (t ∷ ts) =
    elim (p t) as (λ b. count_set o (cond b (t ∷ filter p ts) (filter p ts)) ≤ count_set o (t ∷ ts)) [
      | true ↦ omega (arith, set_within o p ts, count_one (λ (x : TimerSetting). x.object.0 == o) t ts, count_one (λ (x : TimerSetting). x.object.0 == o) t (filter p ts))
      | false ↦ omega (arith, set_within o p ts, count_one (λ (x : TimerSetting). x.object.0 == o) t ts)
    ]

-- ---- what expires, by what is told of it

abbrev is_told : ℕ → List (ℕ × ObjectId) → Bool
is_told o ps = list_any (λ (p : ℕ × ObjectId). p.1.0 == o) ps

set_told : (o : ℕ) (ss : List TimerSetting) → is_set o ss ≡ is_told o (map told ss)
set_told o [] = refl
set_told o (s ∷ ss) = ap (λ b. (s.object.0 == o) || b) (set_told o ss)

abbrev result_of : List Arming → ObjectId → TakeResult
result_of armings object = cond (is_armed object.0 armings) WaitTimeout Plain

jobs_told_of : (armings : List Arming) (ss : List TimerSetting) → map (expiry_job armings) ss ≡ map (λ (p : ℕ × ObjectId). job p.1 (result_of armings p.1)) (map told ss)
jobs_told_of armings [] = refl
jobs_told_of armings (s ∷ ss) = ap (λ js. expiry_job armings s ∷ js) (jobs_told_of armings ss)

behind_told : (ss : List TimerSetting) (armings : List Arming) → armed_behind ss armings ≡ filter (λ (a : Arming). not (is_told a.object.0 (map told ss))) armings
behind_told ss [] = refl
behind_told ss (a ∷ armings) = ap₂ (λ b rest. cond (not b) (a ∷ rest) rest) (set_told a.object.0 ss) (behind_told ss armings)

-- ---- the first setting, which is due

record IsFirst (now : ℕ) (settings left : List TimerSetting) (object : ObjectId) : Type 0 where
  first : TimerSetting
  others : List TimerSetting
  all : settings ≡ first ∷ others
  due : is_due now first ≡ true
  is : first.object ≡ object
  after : after_first now settings ≡ set_again now first others
  rest : map told (expired now others) ≡ map told (expired now left)

first_of : (now : ℕ) (settings left : List TimerSetting) (due : ℕ) (object : ObjectId) → first_expired now settings ≡ Some (due, object) → map told (expired now settings) ≡ (due, object) ∷ map told (expired now left) → IsFirst now settings left object
first_of now [] left due object first fired = absurd cc
first_of now (s ∷ ss) left due object first fired = known (is_due now s) refl first fired
  where
    known : (b : Bool) → is_due now s ≡ b → cond b (Some (told s)) None ≡ Some (due, object) → map told (cond b (s ∷ expired now ss) (expired now ss)) ≡ (due, object) ∷ map told (expired now left) → IsFirst now (s ∷ ss) left object
    known false is h e = absurd cc
    known true is h e =
        let pair : told s ≡ (due, object) = cc in
        record { first = s; others = ss; all = refl; due = is; is = ap (λ (p : ℕ × ObjectId). p.1) pair; after = ap (λ b. cond b (set_again now s ss) (s ∷ ss)) is; rest = cc }

module _ (s : Sources) (left : List TimerSetting) (due : ℕ) (object : ObjectId) (first : first_expired s.now s.settings ≡ Some (due, object)) (fired : map told (expired s.now s.settings) ≡ (due, object) ∷ map told (expired s.now left))
    (after : after_expiry s.now left ≡ after_expiry s.now s.settings) (settings : left ≡ after_first s.now s.settings) (distinct : HasDistinctObjects s.settings) where
  f : IsFirst s.now s.settings left object
  f = first_of s.now s.settings left due object first fired

  abbrev fewer : List Arming
  fewer = without_arming object.0 s.armings

  abbrev left_over : Sources
  left_over = record s { settings = left; armings = fewer }

  all_expired : expired s.now s.settings ≡ f.first ∷ expired s.now f.others
  all_expired = ap (expired s.now) f.all ∙ ap (λ b. cond b (f.first ∷ expired s.now f.others) (expired s.now f.others)) f.due

  -- the others are of other objects
  no_other : count_set object.0 (expired s.now f.others) ≡ 0
  no_other =
      omega (
        arith,
        set_within object.0 (is_due s.now) f.others,
        set_once object.0 (f.first ∷ f.others) (subst HasDistinctObjects f.all distinct),
        count_one (λ (t : TimerSetting). t.object.0 == object.0) f.first f.others,
        ap one_if (eq-eqb f.first.object.0 object.0 (ap (λ (o : ObjectId). o.0) f.is)),
      )

  jobs_now : map (expiry_job s.armings) (expired s.now s.settings) ≡ job object (result_of s.armings object) ∷ map (expiry_job fewer) (expired s.now left)
  jobs_now =
      ap (map (expiry_job s.armings)) all_expired
      ∙ ap₂ (λ (o : ObjectId) js. job o (result_of s.armings o) ∷ js) f.is
      (sym (jobs_others object.0 (expired s.now f.others) s.armings no_other) ∙ jobs_told_of fewer (expired s.now f.others)
      ∙ ap (map (λ (p : ℕ × ObjectId). job p.1 (result_of fewer p.1))) f.rest ∙ sym (jobs_told_of fewer (expired s.now left)))

  armed_now : armed_behind (expired s.now s.settings) s.armings ≡ armed_behind (expired s.now left) fewer
  armed_now =
      ap (λ ss. armed_behind ss s.armings) all_expired ∙ behind_first f.first (expired s.now f.others) s.armings ∙ ap (λ (o : ObjectId). armed_behind (expired s.now f.others) (without_arming o.0 s.armings)) f.is
      ∙ behind_told (expired s.now f.others) fewer ∙ ap (λ ps. filter (λ (a : Arming). not (is_told a.object.0 ps)) fewer) f.rest ∙ sym (behind_told (expired s.now left) fewer)

  -- what is left, behind the first job
  rest_first : rest_of Clock s ≡ before (job object (result_of s.armings object) ∷ []) (rest_of Clock left_over)
  rest_first =
      ap₂ (λ (x : List TimerSetting × List Arming) (js : List Job). record { sources = record s { settings = x.0; armings = x.1 }; jobs = js })
      (ap₂ (λ (ss : List TimerSetting) (rest : List Arming). (ss, rest)) (sym after) armed_now) jobs_now

  step_first : after_jobs left_over (job object (result_of s.armings object) ∷ []) ≡ expire_first s s.settings
  step_first =
      ap (λ ss. after_jobs (record s { settings = ss; armings = fewer }) (job object (result_of s.armings object) ∷ [])) (settings ∙ f.after)
      ∙ ap (λ (o : ObjectId). after_jobs (record s { settings = set_again s.now f.first f.others; armings = without_arming o.0 s.armings }) (job o (result_of s.armings o) ∷ [])) (sym f.is)
      ∙ sym (ap (λ b. cond b (after_jobs (record s { settings = set_again s.now f.first f.others; armings = without_arming f.first.object.0 s.armings }) (expiry_job s.armings f.first ∷ [])) (jobless s)) f.due)
      ∙ ap (expire_first s) (sym f.all)

  fits_first : AreOnce s.armings → length fewer + 1 ≤ length (rest_of Clock s).jobs + length (rest_of Clock s).sources.armings
  fits_first once =
      omega (
        arith,
        ap length jobs_now,
        length-map (expired s.now left) (expiry_job fewer),
        ap length armed_now,
        behind_length (expired s.now left) fewer (once_filter (λ (a : Arming). not (is_arming_of object.0 a)) s.armings once),
      )

  stands_first : (there : ℕ → Bool) → All (λ (x : TimerSetting). there x.object.0 ≡ true) s.settings → there object.0 ≡ true
  stands_first there alive =
      subst (λ (o : ObjectId). there o.0 ≡ true) f.is
      (at_first (subst (All (λ (x : TimerSetting). there x.object.0 ≡ true)) f.all alive))
    where
      at_first : All (λ (x : TimerSetting). there x.object.0 ≡ true) (f.first ∷ f.others) → there f.first.object.0 ≡ true
      at_first all = all 0 f.first (omega arith)

pub expired_fires : (i : Inside) (l : SourceRows) (timers : Timers) (kernels : Kernels) (armed due : ℕ) (object : ObjectId) (was : Bool) (result : TakeResult) → shown i ≡ l → IsKept i → first_expired i.clock i.timers.settings ≡ Some (due, object)
    → timers ≡ record i.timers { settings = after_first i.clock i.timers.settings } → map told (expired i.clock i.timers.settings) ≡ (due, object) ∷ map told (expired i.clock timers.settings) → after_expiry i.clock timers.settings ≡ after_expiry i.clock i.timers.settings
    → HasDistinctObjects i.timers.settings → All (λ (x : TimerSetting). is_there i.timers x.object.0 ≡ true) i.timers.settings → was ≡ is_armed object.0 i.kernels.armed
    → kernels ≡ record i.kernels { armed = without_arming object.0 i.kernels.armed } → result ≡ cond was WaitTimeout Plain
    → Fires Clock l (shown (with_parts i timers kernels armed)) (Some (object, result))
expired_fires i l timers kernels armed due object was result is k first now fired left distinct alive told_was kernels_now says =
    let s : Sources = (shown i).sources in
    let settings : timers.settings ≡ after_first i.clock i.timers.settings = ap (λ (t : Timers). t.settings) now in
    let timers_now : timers ≡ record i.timers { settings = timers.settings } = now ∙ ap (λ ss. record i.timers { settings = ss }) (sym settings) in
    let here : Fires Clock (shown i) (shown (with_parts i (record i.timers { settings = timers.settings }) (record i.kernels { armed = without_arming object.0 i.kernels.armed }) armed)) (Some (object, result_of i.kernels.armed object)) = record {
      after = step_first s timers.settings due object first fired left settings distinct;
      others = refl;
      idle = tt;
      rest = rest_first s timers.settings due object first fired left settings distinct;
      fits = fits_first s timers.settings due object first fired left settings distinct k.once;
      stands = stands_first s timers.settings due object first fired left settings distinct (is_there i.timers) alive;
    } in
    subst (λ (x : SourceRows). Fires Clock x (shown (with_parts i timers kernels armed)) (Some (object, result))) is
    (subst (λ (t : Timers). Fires Clock (shown i) (shown (with_parts i t kernels armed)) (Some (object, result))) (sym timers_now)
    (subst (λ (x : Kernels). Fires Clock (shown i) (shown (with_parts i (record i.timers { settings = timers.settings }) x armed)) (Some (object, result))) (sym kernels_now)
    (subst (λ (r : TakeResult). Fires Clock (shown i) (shown (with_parts i (record i.timers { settings = timers.settings }) (record i.kernels { armed = without_arming object.0 i.kernels.armed }) armed)) (Some (object, r)))
    (sym (says ∙ ap (λ b. cond b WaitTimeout Plain) told_was)) here)))

-- ---- nothing is due

idle_first : (s : Sources) → first_expired s.now s.settings ≡ None → (after_first s.now s.settings ≡ s.settings) × (expire_first s s.settings ≡ jobless s)
idle_first s none = of_settings s.settings none
  where
    of_settings : (ss : List TimerSetting) → first_expired s.now ss ≡ None → (after_first s.now ss ≡ ss) × (expire_first s ss ≡ jobless s)
    of_settings [] h = (refl, refl)
    of_settings (x ∷ ss) h = known (is_due s.now x) h
      where
        known : (b : Bool) → cond b (Some (told x)) None ≡ None → (cond b (set_again s.now x ss) (x ∷ ss) ≡ x ∷ ss)
            × (cond b (after_jobs (record s { settings = set_again s.now x ss; armings = without_arming x.object.0 s.armings }) (expiry_job s.armings x ∷ [])) (jobless s) ≡ jobless s)
        known true e = absurd cc
        known false e = (refl, refl)

pub nothing_fires : (i : Inside) (l : SourceRows) (timers : Timers) → shown i ≡ l → first_expired i.clock i.timers.settings ≡ None → timers ≡ record i.timers { settings = after_first i.clock i.timers.settings }
    → expired i.clock i.timers.settings ≡ [] → after_expiry i.clock timers.settings ≡ timers.settings → Fires Clock l (shown (record i { timers = timers })) None
nothing_fires i l timers is none now over left =
    let s : Sources = (shown i).sources in
    let idle = idle_first s none in
    let same : timers ≡ i.timers = now ∙ ap (λ ss. record i.timers { settings = ss }) idle.0 in
    let left_here : after_expiry i.clock i.timers.settings ≡ i.timers.settings = subst (λ (t : Timers). after_expiry i.clock t.settings ≡ t.settings) same left in
    let rest : rest_of Clock s ≡ jobless s =
    ap₂ (λ (ss : List TimerSetting) (gone : List TimerSetting). record { sources = record s { settings = ss; armings = armed_behind gone s.armings }; jobs = map (expiry_job s.armings) gone }) left_here over
    ∙ ap (λ (armings : List Arming). jobless (record s { armings = armings })) (behind_none s.armings) in
    let here : Fires Clock (shown i) (shown i) None = record {
      after = sym idle.1;
      others = refl;
      idle = refl;
      rest = rest;
      fits = omega (arith, ap (λ (g : _). length g.jobs + length g.sources.armings) rest);
      stands = tt;
    } in
    subst (λ (x : SourceRows). Fires Clock x (shown (record i { timers = timers })) None) is (subst (λ (t : Timers). Fires Clock (shown i) (shown (record i { timers = t })) None) (sym same) here)
