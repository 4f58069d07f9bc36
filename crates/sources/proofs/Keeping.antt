-- What the parts keep as objects come and go and waits are disarmed.
use Rattle.std.proofs.Common.{◌≡◌, ℕ, zero, suc, ◌+◌, ◌-◌, ◌<◌, ◌≤◌, ◌^◌, ◌==◌, Bool, true, false, cond, not, List, [], ◌∷◌, ◌++◌, length, get_or, set, slice_set, refl, sym, ap, ◌∙◌, subst, arith, eq-eqb, length-append, length-set}
use Rattle.std.proofs.lemmas.List.{get_or-set_other}
use Rattle.tp_base.specs.declared.ids.KernelId.{KernelId}
use Rattle.tp_base.specs.declared.ids.ObjectId.{ObjectId}
use Rattle.tp_base.specs.declared.rows.Arming.{Arming}
use Rattle.tp_base.specs.declared.rows.KernelRow.{KernelRow}
use Rattle.tp_base.specs.declared.rows.TimerSetting.{TimerSetting}
use Rattle.tp_base.specs.Armings.{is_armed, is_arming_of, without_arming}
use Rattle.tp_base.specs.Timers.{without_setting}
use Rattle.kernel_events.specs.Kernels.{Kernels}
use Rattle.timer_objects.specs.Settings.{Timers, is_there}
use Rattle.tp_model.proofs.Arming.{one_if}
use Rattle.tp_model.proofs.Lists.{all_along, all_append, all_filter}
use Rattle.tp_model.proofs.Refusals.{false_true}
use Rattle.sources.specs.declared.LiveSources.TheInside.{Inside}
use Rattle.sources.specs.Kept.{AreThere, IsKept}
use Rattle.sources.proofs.Armed.{once_few, once_filter, once_more, without_length}

-- ---- the number of an object that is there

get_within : (there : List Bool) (i : ℕ) → get_or there i false ≡ true → i < length there
get_within [] i e = absurd (false_true e)
get_within (b ∷ there) zero e = omega arith
get_within (b ∷ there) (suc i) e = omega (arith, get_within there i e)

module _ (i : Inside) (k : IsKept i) where
  pub there_least : (object : ℕ) → is_there i.timers object ≡ true → 1 ≤ object
  there_least zero e = absurd (false_true (sym k.none_0 ∙ e))
  there_least (suc object) e = omega arith

  pub there_most : (object : ℕ) → is_there i.timers object ≡ true → object ≤ i.timers.limit
  there_most object e = omega (arith, get_within i.timers.there object e, k.places)

  pub armed_few : length i.kernels.armed ≤ i.timers.limit
  armed_few =
      once_few i.kernels.armed i.timers.limit k.once
      (all_along (λ (a : Arming). is_there i.timers a.object.0 ≡ true) (λ (a : Arming). (1 ≤ a.object.0) × (a.object.0 ≤ i.timers.limit)) (λ a e. (there_least a.object.0 e, there_most a.object.0 e)) i.kernels.armed k.armed)

-- ---- a wait is disarmed, and perhaps struck out

abbrev pub with_parts : Inside → Timers → Kernels → ℕ → Inside
with_parts i timers kernels armed = record i { timers = timers; kernels = kernels; armed = armed }

module _ (i : Inside) (object : ObjectId) (was : Bool) (k : IsKept i) (told : was ≡ is_armed object.0 i.kernels.armed) where
  pub some_armed : was ≡ true → 1 ≤ i.armed
  some_armed e = omega (arith, without_length object.0 i.kernels.armed k.once, ap one_if (sym told ∙ e), k.counted)

  pub one_less : was ≡ true → i.armed - 1 + one_if was ≡ i.armed
  one_less e = omega (arith, some_armed e, ap one_if e)

  pub none_less : was ≡ false → i.armed + one_if was ≡ i.armed
  none_less e = omega (arith, ap one_if e)

  -- others stay armed, which are there
  less_kept : (there : List Bool) (settings : List TimerSetting) (rows : List KernelRow) (armed : ℕ) → length there ≡ length i.timers.there → get_or there 0 false ≡ false → AreThere (record i.timers { there = there }) (without_arming object.0 i.kernels.armed)
      → length rows ≡ length i.kernels.rows → armed + one_if was ≡ i.armed → IsKept (with_parts i (record i.timers { there = there; settings = settings }) (record i.kernels { rows = rows; armed = without_arming object.0 i.kernels.armed }) armed)
  less_kept there settings rows armed long none left wide fewer =
      record {
        objects = k.objects;
        fits = k.fits;
        few = omega (arith, wide, k.few);
        places = long ∙ k.places;
        none_0 = none;
        once = once_filter (λ (a : Arming). not (is_arming_of object.0 a)) i.kernels.armed k.once;
        counted = omega (arith, fewer, ap one_if told, without_length object.0 i.kernels.armed k.once, k.counted);
        armed = left;
        clock = k.clock;
      }

  pub disarmed_kept : (timers : Timers) (kernels : Kernels) (settings : List TimerSetting) (rows : List KernelRow) (armed : ℕ) → timers ≡ record i.timers { settings = settings } → kernels ≡ record i.kernels { rows = rows; armed = without_arming object.0 i.kernels.armed }
      → length rows ≡ length i.kernels.rows → armed + one_if was ≡ i.armed → IsKept (with_parts i timers kernels armed)
  disarmed_kept timers kernels settings rows armed timers_now kernels_now wide fewer =
      subst (λ (t : Timers). IsKept (with_parts i t kernels armed)) (sym timers_now)
      (subst (λ (x : Kernels). IsKept (with_parts i (record i.timers { settings = settings }) x armed)) (sym kernels_now)
      (less_kept i.timers.there settings rows armed refl k.none_0 (all_filter (λ (a : Arming). is_there i.timers a.object.0 ≡ true) (λ (a : Arming). not (is_arming_of object.0 a)) i.kernels.armed k.armed) wide fewer))

  -- the others are there still
  struck_there : (armings : List Arming) → AreThere i.timers armings → AreThere (record i.timers { there = slice_set i.timers.there object.0 false }) (without_arming object.0 armings)
  struck_there [] h = tt
  struck_there (a ∷ armings) h =
      elim (a.object.0 == object.0) as (λ b. (a.object.0 == object.0) ≡ b → AreThere (record i.timers { there = slice_set i.timers.there object.0 false }) (cond (not b) (a ∷ without_arming object.0 armings) (without_arming object.0 armings))) [
        | true ↦ λ _. struck_there armings h.1
        | false ↦ λ e. (get_or-set_other i.timers.there object.0 a.object.0 false false (λ same. false_true (sym e ∙ eq-eqb a.object.0 object.0 same)) ∙ h.0, struck_there armings h.1)
      ] refl

  struck_none : (there : List Bool) (n : ℕ) → get_or there 0 false ≡ false → get_or (set there n false) 0 false ≡ false
  struck_none [] n e = e
  struck_none (b ∷ there) zero e = refl
  struck_none (b ∷ there) (suc n) e = e

  pub struck_kept : (timers : Timers) (kernels : Kernels) (armed : ℕ) → timers ≡ record i.timers { there = slice_set i.timers.there object.0 false; settings = without_setting object i.timers.settings }
      → kernels ≡ record i.kernels { armed = without_arming object.0 i.kernels.armed } → armed + one_if was ≡ i.armed → IsKept (with_parts i timers kernels armed)
  struck_kept timers kernels armed timers_now kernels_now fewer =
      subst (λ (t : Timers). IsKept (with_parts i t kernels armed)) (sym timers_now)
      (subst (λ (x : Kernels). IsKept (with_parts i (record i.timers { there = slice_set i.timers.there object.0 false; settings = without_setting object i.timers.settings }) x armed)) (sym kernels_now)
      (less_kept (slice_set i.timers.there object.0 false) (without_setting object i.timers.settings) i.kernels.rows armed (length-set i.timers.there object.0 false) (struck_none i.timers.there object.0 k.none_0) (struck_there i.kernels.armed k.armed) refl fewer))

-- ---- a wait is armed

module _ (i : Inside) (object : ObjectId) (kernel : KernelId) (k : IsKept i) (there : is_there i.timers object.0 ≡ true) (unarmed : is_armed object.0 i.kernels.armed ≡ false) where
  abbrev more : List Arming
  more = i.kernels.armed ++ record { object = object; kernel = kernel } ∷ []

  more_kept : (settings : List TimerSetting) → IsKept (with_parts i (record i.timers { settings = settings }) (record i.kernels { armed = more }) (i.armed + 1))
  more_kept settings =
      record {
        objects = k.objects;
        fits = k.fits;
        few = k.few;
        places = k.places;
        none_0 = k.none_0;
        once = once_more i.kernels.armed (record { object = object; kernel = kernel }) unarmed k.once;
        counted = omega (arith, k.counted, length-append i.kernels.armed (record { object = object; kernel = kernel } ∷ []));
        armed = all_append (λ (a : Arming). is_there i.timers a.object.0 ≡ true) i.kernels.armed (record { object = object; kernel = kernel }) k.armed there;
        clock = k.clock;
      }

  pub one_more : i.armed + 1 < 2 ^ 32
  one_more = let m = more_kept i.timers.settings in omega (arith, m.counted, m.fits, armed_few (with_parts i i.timers (record i.kernels { armed = more }) (i.armed + 1)) m)

  -- the kernel object wasn't signalled, and isn't taken
  pub armed_kept : (timers : Timers) (kernels taken between : Kernels) (settings : List TimerSetting) (signalled : Bool) → signalled ≡ false → between ≡ cond signalled taken i.kernels
      → kernels ≡ record between { armed = between.armed ++ record { object = object; kernel = kernel } ∷ [] } → timers ≡ record i.timers { settings = settings } → IsKept (with_parts i timers kernels (i.armed + 1))
  armed_kept timers kernels taken between settings signalled e between_now kernels_now timers_now =
      let same : between ≡ i.kernels = between_now ∙ ap (λ b. cond b taken i.kernels) e in
      subst (λ (t : Timers). IsKept (with_parts i t kernels (i.armed + 1))) (sym timers_now)
      (subst (λ (x : Kernels). IsKept (with_parts i (record i.timers { settings = settings }) x (i.armed + 1))) (sym (kernels_now ∙ ap (λ (x : Kernels). record x { armed = x.armed ++ record { object = object; kernel = kernel } ∷ [] }) same)) (more_kept settings))

-- ---- an object is entered

entered_there : (there : List Bool) (n m : ℕ) → get_or there m false ≡ true → get_or (set there n true) m false ≡ true
entered_there [] n m e = e
entered_there (b ∷ there) zero zero e = refl
entered_there (b ∷ there) zero (suc m) e = e
entered_there (b ∷ there) (suc n) zero e = e
entered_there (b ∷ there) (suc n) (suc m) e = entered_there there n m e

entered_none : (there : List Bool) (n : ℕ) → 1 ≤ n → get_or there 0 false ≡ false → get_or (set there n true) 0 false ≡ false
entered_none [] n le e = e
entered_none (b ∷ there) zero le e = absurd (omega (arith, le))
entered_none (b ∷ there) (suc n) le e = e

pub entered_kept : (i : Inside) (object : ObjectId) (timers : Timers) → IsKept i → 1 ≤ object.0 → timers ≡ record i.timers { there = slice_set i.timers.there object.0 true } → IsKept (record i { timers = timers })
entered_kept i object timers k least now =
    subst (λ (t : Timers). IsKept (record i { timers = t })) (sym now)
    (record {
      objects = k.objects;
      fits = k.fits;
      few = k.few;
      places = length-set i.timers.there object.0 true ∙ k.places;
      none_0 = entered_none i.timers.there object.0 least k.none_0;
      once = k.once;
      counted = k.counted;
      armed = all_along (λ (a : Arming). is_there i.timers a.object.0 ≡ true) (λ (a : Arming). get_or (set i.timers.there object.0 true) a.object.0 false ≡ true) (λ a e. entered_there i.timers.there object.0 a.object.0 e) i.kernels.armed k.armed;
      clock = k.clock;
    })
