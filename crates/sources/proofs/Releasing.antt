-- A kernel object releases the wait that was armed earliest on it: what is left leads to where all of it led.
use Rattle.std.proofs.Common.{◌≡◌, ℕ, zero, suc, ◌+◌, ◌-◌, ◌≤◌, Bool, true, false, cond, not, List, [], ◌∷◌, length, slice_set, option_map, Option, Some, None, refl, sym, ap, ap₂, ◌∙◌, subst, arith, find, length-set, length-append}
use Rattle.std.specs.Option.{option_map_or}
use Rattle.std.proofs.lemmas.List.{append_assoc}
use Rattle.tp_base.specs.declared.ids.KernelId.{KernelId}
use Rattle.tp_base.specs.declared.ids.ObjectId.{ObjectId}
use Rattle.tp_base.specs.declared.answers.TakeResult.TheVariants.{WaitObject0}
use Rattle.tp_base.specs.declared.rows.Arming.{Arming}
use Rattle.tp_base.specs.declared.rows.KernelRow.{KernelRow}
use Rattle.tp_base.specs.declared.rows.KernelState.{KernelState}
use Rattle.tp_base.specs.Armings.{is_armed, is_arming_of, is_arming_on, without_arming}
use Rattle.tp_base.specs.Kernels.{is_signalled, taken}
use Rattle.tp_base.specs.Timers.{without_setting}
use Rattle.kernel_events.specs.Kernels.{Kernels, next_released, release_first as release_here, release_to as release_to_here, rows_with}
use Rattle.timer_objects.specs.Settings.{Timers, is_there}
use Rattle.tp_model.specs.Counts.{numbered}
use Rattle.tp_model.specs.Kernels.{is_one_that, kernel_changed, with_row}
use Rattle.tp_model.specs.Sources.{Sources, Firing, Job, disarmed, job, jobless, release, release_first, release_times, release_to, with_state}
use Rattle.tp_model.proofs.Arming.{one_if, release_idle}
use Rattle.tp_model.proofs.Lists.{find_all}
use Rattle.sources.specs.declared.firing.Cause.TheVariants.{Kernel}
use Rattle.sources.specs.declared.LiveSources.TheInside.{Inside}
use Rattle.sources.specs.Firing.{Fires, after_jobs, before}
use Rattle.sources.specs.Kept.{AreOnce, IsKept, shown}
use Rattle.sources.specs.Rows.{SourceRows}
use Rattle.sources.proofs.Armed.{found_is_armed, once_filter, one_most, without_length}
use Rattle.sources.proofs.Keeping.{disarmed_kept, one_less, with_parts}

-- ---- a changed row, as the table tells it and as the model does

same_rows : (f : KernelState → KernelState) (rows : List KernelRow) (kernel : ℕ) → rows_with f rows kernel ≡ kernel_changed f rows kernel
same_rows f rows kernel = known (numbered rows kernel)
  where
    known : (o : Option KernelRow) → option_map_or (λ (row : KernelRow). slice_set rows (kernel - 1) (record row { state = f row.state })) o rows ≡ with_row f rows kernel o
    known None = refl
    known (Some row) = refl

pub changed_length : (f : KernelState → KernelState) (rows : List KernelRow) (kernel : ℕ) → length (kernel_changed f rows kernel) ≡ length rows
changed_length f rows kernel = known (numbered rows kernel)
  where
    known : (o : Option KernelRow) → length (with_row f rows kernel o) ≡ length rows
    known None = refl
    known (Some row) = length-set rows (kernel - 1) (record row { state = f row.state })

-- ---- one after another

first_before : (jobs : List Job) (kernel : ℕ) (f : Firing) → release_first kernel (before jobs f) ≡ before jobs (release_first kernel f)
first_before jobs kernel f =
    elim (is_one_that is_signalled f.sources.kernels kernel) as (λ b. cond b (release_to kernel (before jobs f) (find (is_arming_on kernel) f.sources.armings)) (before jobs f) ≡ before jobs (cond b (release_to kernel f (find (is_arming_on kernel) f.sources.armings)) f)) [
      | true ↦ of_first (find (is_arming_on kernel) f.sources.armings)
      | false ↦ refl
    ]
  where
    of_first : (first : Option Arming) → release_to kernel (before jobs f) first ≡ before jobs (release_to kernel f first)
    of_first None = refl
    of_first (Some a) = ap (λ js. record { sources = (release_to kernel f (Some a)).sources; jobs = js }) (append_assoc jobs f.jobs (job a.object WaitObject0 ∷ []))

pub times_before : (jobs : List Job) (n kernel : ℕ) (f : Firing) → release_times n kernel (before jobs f) ≡ before jobs (release_times n kernel f)
times_before jobs zero kernel f = refl
times_before jobs (suc n) kernel f = ap (release_times n kernel) (first_before jobs kernel f) ∙ times_before jobs n kernel (release_first kernel f)

-- each callback takes the slot of one arming
times_fit : (n kernel : ℕ) (f : Firing) → AreOnce f.sources.armings → length f.jobs + length f.sources.armings ≤ length (release_times n kernel f).jobs + length (release_times n kernel f).sources.armings
times_fit zero kernel f once = omega arith
times_fit (suc n) kernel f once =
    elim (is_one_that is_signalled f.sources.kernels kernel) as (λ b. AreFitting (cond b (release_to kernel f (find (is_arming_on kernel) f.sources.armings)) f)) [
      | true ↦ of_first (times_fit n kernel) (find (is_arming_on kernel) f.sources.armings)
      | false ↦ times_fit n kernel f once
    ]
  where
    AreFitting : Firing → Type 0
    AreFitting g = length f.jobs + length f.sources.armings ≤ length (release_times n kernel g).jobs + length (release_times n kernel g).sources.armings

    of_first : ((g : Firing) → AreOnce g.sources.armings → length g.jobs + length g.sources.armings ≤ length (release_times n kernel g).jobs + length (release_times n kernel g).sources.armings) → (first : Option Arming) → AreFitting (release_to kernel f first)
    of_first fit None = fit f once
    of_first fit (Some a) =
        omega (
          arith,
          fit (release_to kernel f (Some a)) (once_filter (λ (b : Arming). not (is_arming_of a.object.0 b)) f.sources.armings once),
          length-append f.jobs (job a.object WaitObject0 ∷ []),
          without_length a.object.0 f.sources.armings once,
          one_most (is_armed a.object.0 f.sources.armings),
        )

-- ---- the earliest that is armed, of a kernel object that is signalled

record IsNext (kernel : ℕ) (kernels : Kernels) (object : ObjectId) : Type 0 where
  arming : Arming
  signalled : is_one_that is_signalled kernels.rows kernel ≡ true
  found : find (is_arming_on kernel) kernels.armed ≡ Some arming
  is : arming.object ≡ object

next_is : (kernel : ℕ) (kernels : Kernels) (object : ObjectId) → next_released kernel kernels ≡ Some object → IsNext kernel kernels object
next_is kernel kernels object e = of_signal (is_one_that is_signalled kernels.rows kernel) refl e
  where
    of_first : (first : Option Arming) → find (is_arming_on kernel) kernels.armed ≡ first → is_one_that is_signalled kernels.rows kernel ≡ true → option_map (λ (a : Arming). a.object) first ≡ Some object → IsNext kernel kernels object
    of_first None found is h = absurd cc
    of_first (Some a) found is h = record { arming = a; signalled = is; found = found; is = cc }

    of_signal : (b : Bool) → is_one_that is_signalled kernels.rows kernel ≡ b → cond b (option_map (λ (a : Arming). a.object) (find (is_arming_on kernel) kernels.armed)) None ≡ Some object → IsNext kernel kernels object
    of_signal true is h = of_first (find (is_arming_on kernel) kernels.armed) refl is h
    of_signal false is h = absurd cc

module _ (i : Inside) (kernel : ℕ) (object : ObjectId) (k : IsKept i) (next : next_released kernel i.kernels ≡ Some object) where
  n : IsNext kernel i.kernels object
  n = next_is kernel i.kernels object next

  abbrev s : Sources
  s = (shown i).sources

  pub armed_now : is_armed object.0 i.kernels.armed ≡ true
  armed_now = subst (λ (o : ObjectId). is_armed o.0 i.kernels.armed ≡ true) n.is (found_is_armed (is_arming_on kernel) i.kernels.armed n.arming n.found)

  pub released_there : is_there i.timers object.0 ≡ true
  released_there = subst (λ (o : ObjectId). is_there i.timers o.0 ≡ true) n.is (find_all (λ (a : Arming). is_there i.timers a.object.0 ≡ true) (is_arming_on kernel) n.arming i.kernels.armed k.armed n.found)

  abbrev left : Sources
  left = with_state taken kernel (disarmed object s)

  model_first : release_first kernel (jobless s) ≡ after_jobs left (job object WaitObject0 ∷ [])
  model_first =
      ap (λ b. cond b (release_to kernel (jobless s) (find (is_arming_on kernel) i.kernels.armed)) (jobless s)) n.signalled
      ∙ ap (release_to kernel (jobless s)) n.found ∙ ap (λ (o : ObjectId). after_jobs (with_state taken kernel (disarmed o s)) (job o WaitObject0 ∷ [])) n.is

  here_first : release_here kernel i.kernels ≡ record i.kernels { rows = kernel_changed taken i.kernels.rows kernel; armed = without_arming object.0 i.kernels.armed }
  here_first =
      ap (λ b. cond b (release_to_here kernel i.kernels (find (is_arming_on kernel) i.kernels.armed)) i.kernels) n.signalled
      ∙ ap (release_to_here kernel i.kernels) n.found ∙ ap₂ (λ rows (o : ObjectId). record i.kernels { rows = rows; armed = without_arming o.0 i.kernels.armed }) (same_rows taken i.kernels.rows kernel) n.is

  one_fewer : length left.armings + 1 ≡ length s.armings
  one_fewer = omega (arith, without_length object.0 i.kernels.armed k.once, ap one_if armed_now)

  -- what is left, behind the first job
  rest_first : release kernel (jobless s) ≡ before (job object WaitObject0 ∷ []) (release kernel (jobless left))
  rest_first =
      ap (λ m. release_times m kernel (jobless s)) (sym one_fewer ∙ more) ∙ ap (release_times (length left.armings) kernel) model_first
      ∙ times_before (job object WaitObject0 ∷ []) (length left.armings) kernel (jobless left)
    where
      more : length left.armings + 1 ≡ suc (length left.armings)
      more = omega arith

  fits_first : length left.armings + 1 ≤ length (release kernel (jobless s)).jobs + length (release kernel (jobless s)).sources.armings
  fits_first =
      omega (
        arith,
        ap (λ (g : Firing). length g.jobs + length g.sources.armings) rest_first,
        times_fit (length left.armings) kernel (jobless left) (once_filter (λ (a : Arming). not (is_arming_of object.0 a)) i.kernels.armed k.once),
      )

  pub released_kept : (timers : Timers) (kernels : Kernels) → kernels ≡ release_here kernel i.kernels → timers ≡ record i.timers { settings = without_setting object i.timers.settings } → IsKept (with_parts i timers kernels (i.armed - 1))
  released_kept timers kernels kernels_now timers_now =
      disarmed_kept i object true k (sym armed_now) timers kernels (without_setting object i.timers.settings) (kernel_changed taken i.kernels.rows kernel) (i.armed - 1) timers_now (kernels_now ∙ here_first)
      (changed_length taken i.kernels.rows kernel) (one_less i object true k (sym armed_now) refl)

pub released_fires : (i : Inside) (l : SourceRows) (on : KernelId) (object : ObjectId) (timers : Timers) (kernels : Kernels) (armed : ℕ) → shown i ≡ l → IsKept i → next_released on.0 i.kernels ≡ Some object → kernels ≡ release_here on.0 i.kernels
    → timers ≡ record i.timers { settings = without_setting object i.timers.settings } → Fires (Kernel on) l (shown (with_parts i timers kernels armed)) (Some (object, WaitObject0))
released_fires i l on object timers kernels armed is k next kernels_now timers_now =
    let timers_here : Timers = record i.timers { settings = without_setting object i.timers.settings } in
    let kernels_here : Kernels = record i.kernels { rows = kernel_changed taken i.kernels.rows on.0; armed = without_arming object.0 i.kernels.armed } in
    let here : Fires (Kernel on) (shown i) (shown (with_parts i timers_here kernels_here armed)) (Some (object, WaitObject0)) = record {
      after = sym (model_first i on.0 object k next);
      others = refl;
      idle = tt;
      rest = rest_first i on.0 object k next;
      fits = fits_first i on.0 object k next;
      stands = released_there i on.0 object k next;
    } in
    subst (λ (x : SourceRows). Fires (Kernel on) x (shown (with_parts i timers kernels armed)) (Some (object, WaitObject0))) is
    (subst (λ (t : Timers). Fires (Kernel on) (shown i) (shown (with_parts i t kernels armed)) (Some (object, WaitObject0))) (sym timers_now)
    (subst (λ (x : Kernels). Fires (Kernel on) (shown i) (shown (with_parts i timers_here x armed)) (Some (object, WaitObject0))) (sym (kernels_now ∙ here_first i on.0 object k next)) here))

-- ---- there is none

none_is : (kernel : ℕ) (i : Inside) → next_released kernel i.kernels ≡ None → (release_here kernel i.kernels ≡ i.kernels) × (release_first kernel (jobless (shown i).sources) ≡ jobless (shown i).sources)
none_is kernel i e = of_signal (is_one_that is_signalled i.kernels.rows kernel) refl e
  where
    f : Firing
    f = jobless (shown i).sources

    AreIdle : Type 0
    AreIdle = (release_here kernel i.kernels ≡ i.kernels) × (release_first kernel f ≡ f)

    of_first : (first : Option Arming) → find (is_arming_on kernel) i.kernels.armed ≡ first → is_one_that is_signalled i.kernels.rows kernel ≡ true → option_map (λ (a : Arming). a.object) first ≡ None → AreIdle
    of_first None found is h = (
      ap (λ b. cond b (release_to_here kernel i.kernels (find (is_arming_on kernel) i.kernels.armed)) i.kernels) is ∙ ap (release_to_here kernel i.kernels) found,
      ap (λ b. cond b (release_to kernel f (find (is_arming_on kernel) i.kernels.armed)) f) is ∙ ap (release_to kernel f) found,
    )
    of_first (Some a) found is h = absurd cc

    of_signal : (b : Bool) → is_one_that is_signalled i.kernels.rows kernel ≡ b → cond b (option_map (λ (a : Arming). a.object) (find (is_arming_on kernel) i.kernels.armed)) None ≡ None → AreIdle
    of_signal true is h = of_first (find (is_arming_on kernel) i.kernels.armed) refl is h
    of_signal false is h = (
      ap (λ b. cond b (release_to_here kernel i.kernels (find (is_arming_on kernel) i.kernels.armed)) i.kernels) is,
      ap (λ b. cond b (release_to kernel f (find (is_arming_on kernel) i.kernels.armed)) f) is,
    )

pub none_kept : (i : Inside) (kernel : ℕ) (kernels : Kernels) → IsKept i → next_released kernel i.kernels ≡ None → kernels ≡ release_here kernel i.kernels → IsKept (record i { kernels = kernels })
none_kept i kernel kernels k none now = subst (λ (x : Kernels). IsKept (record i { kernels = x })) (sym (now ∙ (none_is kernel i none).0)) k

pub none_fires : (i : Inside) (l : SourceRows) (on : KernelId) (kernels : Kernels) → shown i ≡ l → next_released on.0 i.kernels ≡ None → kernels ≡ release_here on.0 i.kernels → Fires (Kernel on) l (shown (record i { kernels = kernels })) None
none_fires i l on kernels is none now =
    let s : Sources = (shown i).sources in
    let idle = none_is on.0 i none in
    let rest : release on.0 (jobless s) ≡ jobless s = release_idle (length s.armings) on.0 (jobless s) idle.1 in
    let here : Fires (Kernel on) (shown i) (shown i) None = record {
      after = sym idle.1;
      others = refl;
      idle = refl;
      rest = rest;
      fits = omega (arith, ap (λ (g : Firing). length g.jobs + length g.sources.armings) rest);
      stands = tt;
    } in
    subst (λ (x : SourceRows). Fires (Kernel on) x (shown (record i { kernels = kernels })) None) is (subst (λ (x : Kernels). Fires (Kernel on) (shown i) (shown (record i { kernels = x })) None) (sym (now ∙ idle.0)) here)
