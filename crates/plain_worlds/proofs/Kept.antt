-- No change arms an object twice or sets one twice. So no more are set than there are objects.
use Rattle.std.proofs.Common.{◌≡◌, ℕ, zero, suc, ◌+◌, ◌-◌, ◌<◌, ◌≤◌, ◌==◌, ◌||◌, Bool, true, false, cond, not, List, [], ◌∷◌, ◌++◌, length, map, slice_get, is_some, Option, Some, None, refl, ap, ap₂, ◌∙◌, arith, filter, find, eqb-true, ne_eqb}
use Rattle.std.specs.Prelude.{ℤ, nat_eq}
use Rattle.std.specs.List.{AllByRecursion, IsDistinct, list_any}
use Rattle.std.specs.Option.{option_map_or}
use Rattle.std.proofs.lemmas.List.{length-map}
use Rattle.std.proofs.lemmas.Map.Keys.{IsDistinct-cons}
use Rattle.std.proofs.lemmas.Map.Steps.{length-le_from_distinct_below}
use Rattle.tp_base.specs.declared.ids.KernelId.{KernelId}
use Rattle.tp_base.specs.declared.ids.ObjectId.{ObjectId}
use Rattle.tp_base.specs.declared.limits.Limits.{Limits}
use Rattle.tp_base.specs.declared.plans.ActionWords.{ActionWords}
use Rattle.tp_base.specs.declared.plans.Change.{Change}
use Rattle.tp_base.specs.declared.plans.Change.TheVariants as change
use Rattle.tp_base.specs.declared.plans.KernelChange.{KernelChange}
use Rattle.tp_base.specs.declared.plans.KernelChange.TheVariants.{Set, Raise}
use Rattle.tp_base.specs.declared.plans.Trigger.{Trigger}
use Rattle.tp_base.specs.declared.plans.Trigger.TheVariants.{SetTimer, Advance, SetWait, SetEvent, ReleaseSemaphore}
use Rattle.tp_base.specs.declared.rows.Arming.{Arming}
use Rattle.tp_base.specs.declared.rows.ObjectRow.{ObjectRow}
use Rattle.tp_base.specs.declared.rows.PoolRow.{PoolRow}
use Rattle.tp_base.specs.declared.rows.Slots.{Slots}
use Rattle.tp_base.specs.declared.rows.TimerSetting.{TimerSetting}
use Rattle.tp_base.specs.declared.answers.TakeResult.TheVariants.{WaitObject0, WaitTimeout}
use Rattle.tp_base.specs.Armings.{is_arming_of, is_arming_on, is_set}
use Rattle.tp_base.specs.Kernels.{is_signalled, state_after, taken}
use Rattle.tp_base.specs.Timers.{after_expiry, expired, expires_at_once, expires_before, is_due, next_due, set_again, set_all_again, set_timer, setting_for, with_setting, without_setting}
use Rattle.tp_model.specs.World.{World, opening}
use Rattle.tp_model.specs.Actions.{returning, slots_of}
use Rattle.tp_model.specs.Changes.{change_pool, changed, release_object}
use Rattle.tp_model.specs.Counts.{numbered}
use Rattle.tp_model.specs.Groups.{is_object_that}
use Rattle.tp_model.specs.Kernels.{is_one_that}
use Rattle.tp_model.specs.Sources.{Firing, Sources, arm, disarmed, firing, job, jobless, release_first, release_times, release_to, signal, sources_of, with_state}
use Rattle.tp_model.specs.Support.Remembered.{forget}
use Rattle.tp_model.specs.Support.Sound.{IsSound, is_standing}
use Rattle.tp_model.proofs.Lists.{all_along, any_filter_none}
use Rattle.tp_model.proofs.Performing.{performed_keeps}
use Rattle.tp_model.proofs.Refusals.{eqb_sym, false_true, made, neither, numbered_some}
use Rattle.plain_worlds.specs.Once.{AreArmedOnce, AreOnce, AreSetOnce, IsOnce}
use Rattle.plain_worlds.proofs.Once.{once_filter}

-- ---- lists

-- what has a number is left out
none_left : {X : Type 0} (number : X → ℕ) (n : ℕ) (xs : List X) → list_any (λ y. number y == n) (filter (λ y. not (number y == n)) xs) ≡ false
none_left number n [] = refl
none_left {X} number n (x ∷ xs) =
    elim (number x == n) as (λ b. (number x == n) ≡ b → list_any (λ (y : X). number y == n) (cond (not b) (x ∷ filter (λ (y : X). not (number y == n)) xs) (filter (λ (y : X). not (number y == n)) xs)) ≡ false) [
      | true ↦ λ _. none_left number n xs
      | false ↦ λ e. ap (λ b. b || list_any (λ (y : X). number y == n) (filter (λ (y : X). not (number y == n)) xs)) e ∙ none_left number n xs
    ] refl

once_last : {X : Type 0} (number : X → ℕ) (xs : List X) (x : X) → AreOnce number xs → list_any (λ y. number y == number x) xs ≡ false → AreOnce number (xs ++ x ∷ [])
once_last number [] x h none = (refl, tt)
once_last {X} number (y ∷ xs) x h none =
    let two = neither (number y == number x) (list_any (λ (z : X). number z == number x) xs) none in
    (any_last (λ (z : X). number z == number y) xs x h.0 (eqb_sym (number x) (number y) ∙ two.0), once_last number xs x h.1 two.1)
  where
    any_last : {Y : Type 0} (p : Y → Bool) (ys : List Y) (y : Y) → list_any p ys ≡ false → p y ≡ false → list_any p (ys ++ y ∷ []) ≡ false
    any_last p [] y h e = ap (λ b. b || false) e
    any_last p (z ∷ ys) y h e = let two = neither (p z) (list_any p ys) h in ap₂ (λ a b. a || b) two.0 (any_last p ys y two.1 e)

-- ---- settings

none_with : (p : TimerSetting → Bool) (s : TimerSetting) (ts : List TimerSetting) → list_any p ts ≡ false → p s ≡ false → list_any p (with_setting s ts) ≡ false
none_with p s [] h e = ap (λ b. b || false) e
none_with p s (t ∷ ts) h e =
    let two = neither (p t) (list_any p ts) h in
    elim (expires_before s t) as (λ b. list_any p (cond b (s ∷ t ∷ ts) (t ∷ with_setting s ts)) ≡ false) [
      | true ↦ ap₂ (λ a b. a || b) e h
      | false ↦ ap₂ (λ a b. a || b) two.0 (none_with p s ts two.1 e)
    ]

once_with : (s : TimerSetting) (ts : List TimerSetting) → AreSetOnce ts → is_set s.object.0 ts ≡ false → AreSetOnce (with_setting s ts)
once_with s [] h none = (refl, tt)
once_with s (t ∷ ts) h none =
    let two = neither (t.object.0 == s.object.0) (is_set s.object.0 ts) none in
    elim (expires_before s t) as (λ b. AreSetOnce (cond b (s ∷ t ∷ ts) (t ∷ with_setting s ts))) [
      | true ↦ (none, h)
      | false ↦ (none_with (λ (y : TimerSetting). y.object.0 == t.object.0) s ts h.0 (eqb_sym s.object.0 t.object.0 ∙ two.0), once_with s ts h.1 two.1)
    ]

-- a timer that expired is set anew
abbrev anew : ℕ → TimerSetting → TimerSetting
anew now s = record s { due = next_due s.due s.period now }

once_again : (now : ℕ) (s : TimerSetting) (ts : List TimerSetting) → AreSetOnce ts → is_set s.object.0 ts ≡ false → AreSetOnce (set_again now s ts)
once_again now s ts h none = elim (s.period == 0) as (λ b. AreSetOnce (cond b ts (with_setting (anew now s) ts))) [ true ↦ h | false ↦ once_with (anew now s) ts h none ]

none_again : (now : ℕ) (s : TimerSetting) (ts : List TimerSetting) (o : ℕ) → is_set o ts ≡ false → (s.object.0 == o) ≡ false → is_set o (set_again now s ts) ≡ false
none_again now s ts o none other =
    elim (s.period == 0) as (λ b. is_set o (cond b ts (with_setting (anew now s) ts)) ≡ false) [ true ↦ none | false ↦ none_with (λ (y : TimerSetting). y.object.0 == o) (anew now s) ts none other ]

-- none of these is set
abbrev AreUnset : List TimerSetting → List TimerSetting → Type 0
AreUnset es ts = AllByRecursion (λ (e : TimerSetting). is_set e.object.0 ts ≡ false) es

still_unset : (now : ℕ) (s : TimerSetting) (ts es : List TimerSetting) → is_set s.object.0 es ≡ false → AreUnset es ts → AreUnset es (set_again now s ts)
still_unset now s ts [] none unset = tt
still_unset now s ts (e ∷ es) none unset =
    let two = neither (e.object.0 == s.object.0) (is_set s.object.0 es) none in
    (none_again now s ts e.object.0 unset.0 (eqb_sym s.object.0 e.object.0 ∙ two.0), still_unset now s ts es two.1 unset.1)

once_all_again : (now : ℕ) (es ts : List TimerSetting) → AreSetOnce es → AreSetOnce ts → AreUnset es ts → AreSetOnce (set_all_again now es ts)
once_all_again now [] ts once h unset = h
once_all_again now (s ∷ es) ts once h unset = once_all_again now es (set_again now s ts) once.1 (once_again now s ts h unset.0) (still_unset now s ts es once.0 unset.1)

-- what passes a test isn't set by what doesn't
more_unset : (x : TimerSetting) (es ts : List TimerSetting) → is_set x.object.0 es ≡ false → AreUnset es ts → AreUnset es (x ∷ ts)
more_unset x [] ts none unset = tt
more_unset x (e ∷ es) ts none unset =
    let two = neither (e.object.0 == x.object.0) (is_set x.object.0 es) none in
    (ap₂ (λ a b. a || b) (eqb_sym x.object.0 e.object.0 ∙ two.0) unset.0, more_unset x es ts two.1 unset.1)

parts_unset : (p : TimerSetting → Bool) (xs : List TimerSetting) → AreSetOnce xs → AreUnset (filter p xs) (filter (λ s. not (p s)) xs)
parts_unset p [] h = tt
parts_unset p (x ∷ xs) h =
    let rest : List TimerSetting = filter (λ s. not (p s)) xs in
    elim (p x) as (λ b. AreUnset (cond b (x ∷ filter p xs) (filter p xs)) (cond (not b) (x ∷ rest) rest)) [
      | true ↦ (any_filter_none (λ (y : TimerSetting). y.object.0 == x.object.0) (λ s. not (p s)) xs h.0, parts_unset p xs h.1)
      | false ↦ more_unset x (filter p xs) rest (any_filter_none (λ (y : TimerSetting). y.object.0 == x.object.0) p xs h.0) (parts_unset p xs h.1)
    ]

once_expired : (now : ℕ) (ts : List TimerSetting) → AreSetOnce ts → AreSetOnce (after_expiry now ts)
once_expired now ts h =
    once_all_again now (expired now ts) (filter (λ (s : TimerSetting). not (is_due now s)) ts) (once_filter (λ (s : TimerSetting). s.object.0) (is_due now) ts h)
    (once_filter (λ (s : TimerSetting). s.object.0) (λ (s : TimerSetting). not (is_due now s)) ts h) (parts_unset (is_due now) ts h)

once_unset : (object : ObjectId) (ts : List TimerSetting) → AreSetOnce ts → AreSetOnce (without_setting object ts)
once_unset object ts h = once_filter (λ (s : TimerSetting). s.object.0) (λ (s : TimerSetting). not (s.object.0 == object.0)) ts h

once_timer : (now : ℕ) (object : ObjectId) (due : Option ℤ) (period window : ℕ) (ts : List TimerSetting) → AreSetOnce ts → AreSetOnce (set_timer now object due period window ts)
once_timer now object None period window ts h = once_unset object ts h
once_timer now object (Some due) period window ts h =
    let s : TimerSetting = setting_for now object due period window in
    let rest : List TimerSetting = without_setting object ts in
    let none : is_set object.0 rest ≡ false = none_left (λ (t : TimerSetting). t.object.0) object.0 ts in
    elim (is_due now s) as (λ b. AreSetOnce (cond b (set_again now s rest) (with_setting s rest))) [ true ↦ once_again now s rest (once_unset object ts h) none | false ↦ once_with s rest (once_unset object ts h) none ]

-- ---- what triggers do

record IsOnceIn (s : Sources) : Type 0 where
  armed : AreArmedOnce s.armings
  set : AreSetOnce s.settings

once_disarmed : (object : ObjectId) (s : Sources) → IsOnceIn s → IsOnceIn (disarmed object s)
once_disarmed object s h = record { armed = once_filter (λ (a : Arming). a.object.0) (λ (a : Arming). not (is_arming_of object.0 a)) s.armings h.armed; set = once_unset object s.settings h.set }

once_first : (kernel : ℕ) (f : Firing) → IsOnceIn f.sources → IsOnceIn (release_first kernel f).sources
once_first kernel f h =
    elim (is_one_that is_signalled f.sources.kernels kernel) as (λ b. IsOnceIn (cond b (release_to kernel f (find (is_arming_on kernel) f.sources.armings)) f).sources) [
      | true ↦ of_first (find (is_arming_on kernel) f.sources.armings)
      | false ↦ h
    ]
  where
    of_first : (first : Option Arming) → IsOnceIn (release_to kernel f first).sources
    of_first None = h
    of_first (Some a) = let left = once_disarmed a.object f.sources h in record { armed = left.armed; set = left.set }

once_times : (n kernel : ℕ) (f : Firing) → IsOnceIn f.sources → IsOnceIn (release_times n kernel f).sources
once_times zero kernel f h = h
once_times (suc n) kernel f h = once_times n kernel (release_first kernel f) (once_first kernel f h)

once_signal : (how : KernelChange) (kernel : ℕ) (f : Firing) → IsOnceIn f.sources → IsOnceIn (signal how kernel f).sources
once_signal how kernel f h = once_times (length f.sources.armings) kernel (record f { sources = with_state (state_after how) kernel f.sources }) (record { armed = h.armed; set = h.set })

once_arm : (object : ObjectId) (kernel : KernelId) (timeout : Option ℤ) (s : Sources) → IsOnceIn s → list_any (λ (a : Arming). a.object.0 == object.0) s.armings ≡ false → IsOnceIn (arm object kernel timeout s).sources
once_arm object kernel timeout s h none =
    let a : Arming = record { object = object; kernel = kernel } in
    let armed : Firing = jobless (record s { settings = set_timer s.now object timeout 0 0 s.settings; armings = s.armings ++ a ∷ [] }) in
    let late : Firing = record { sources = s; jobs = job object WaitTimeout ∷ [] } in
    elim (is_one_that is_signalled s.kernels kernel.0) as (λ b. IsOnceIn (cond b (record { sources = with_state taken kernel.0 s; jobs = job object WaitObject0 ∷ [] }) (cond (expires_at_once s.now timeout) late armed)).sources) [
      | true ↦ record { armed = h.armed; set = h.set }
      | false ↦ elim (expires_at_once s.now timeout) as (λ b. IsOnceIn (cond b late armed).sources) [
        | true ↦ h
        | false ↦ record { armed = once_last (λ (x : Arming). x.object.0) s.armings a h.armed none; set = once_timer s.now object timeout 0 0 s.settings h.set }
      ]
    ]

once_fired : (trigger : Trigger) (s : Sources) → IsOnceIn s → IsOnceIn (firing trigger s).sources
once_fired (SetTimer object due period window) s h = record { armed = h.armed; set = once_timer s.now object due period window s.settings h.set }
once_fired (Advance now) s h =
    record {
      armed = once_filter (λ (a : Arming). a.object.0) (λ (a : Arming). not (is_set a.object.0 (expired now s.settings))) s.armings h.armed;
      set = once_expired now s.settings h.set;
    }
once_fired (SetWait object None timeout) s h = once_disarmed object s h
once_fired (SetWait object (Some kernel) timeout) s h =
    once_arm object kernel timeout (disarmed object s) (once_disarmed object s h) (none_left (λ (a : Arming). a.object.0) object.0 s.armings)
once_fired (SetEvent kernel) s h = once_signal Set kernel.0 (jobless s) h
once_fired (ReleaseSemaphore kernel count) s h = once_signal (Raise count) kernel.0 (jobless s) h

once_returned : (w : World) (words : ActionWords) (slots : Slots) → IsOnceIn (sources_of w) → IsOnceIn (returning w words slots).sources
once_returned w words slots h =
    performed_keeps (λ f. IsOnceIn f.sources) (λ how _ kernel f h. once_signal how kernel f h) (λ kernel f h. record { armed = h.armed; set = h.set }) words slots (jobless (sources_of w)) h

-- ---- each change

once_released : (w : World) (object : ObjectId) (row : Option ObjectRow) → IsOnce w → IsOnce (release_object w object row)
once_released w object None h = h
once_released w object (Some row) h = let left = once_disarmed object (sources_of w) (record { armed = h.armed; set = h.set }) in record { armed = left.armed; set = left.set }

once_pool : (w : World) (pool : ℕ) (how : _) (row : Option PoolRow) → IsOnce w → IsOnce (change_pool w pool how row)
once_pool w pool how None h = h
once_pool w pool how (Some row) h = record { armed = h.armed; set = h.set }

pub once_changed : (w : World) (c : Change) → IsOnce w → IsOnce (changed w c)
once_changed w change.Keep h = h
once_changed w change.CreatePool h = record { armed = h.armed; set = h.set }
once_changed w (change.ChangePool pool how) h = once_pool w pool.0 how (slice_get w.pools pool.0) h
once_changed w change.CreateGroup h = record { armed = h.armed; set = h.set }
once_changed w (change.CloseGroup group) h = record { armed = h.armed; set = h.set }
once_changed w (change.CreateObject row) h = record { armed = h.armed; set = h.set }
once_changed w (change.ReleaseObject object) h = once_released w object (numbered w.objects object.0) h
once_changed w (change.QueueCallback callback) h = record { armed = h.armed; set = h.set }
once_changed w (change.ExpectCallback callback) h = record { armed = h.armed; set = h.set }
once_changed w (change.Operate callback how) h = record { armed = h.armed; set = h.set }
once_changed w (change.Fire trigger first count) h = let after = once_fired trigger (sources_of w) (record { armed = h.armed; set = h.set }) in record { armed = after.armed; set = after.set }
once_changed w (change.CreateKernel state) h = record { armed = h.armed; set = h.set }
once_changed w (change.ChangeKernel kernel how) h = record { armed = h.armed; set = h.set }
once_changed w (change.Attach worker pool) h = record { armed = h.armed; set = h.set }
once_changed w (change.Detach by) h = record { armed = h.armed; set = h.set }
once_changed w (change.Take by callback) h = record { armed = h.armed; set = h.set }
once_changed w (change.Mark by mark) h = record { armed = h.armed; set = h.set }
once_changed w (change.Return by words first count) h =
    let after = once_returned w words (slots_of by.callback.status) (record { armed = h.armed; set = h.set }) in record { armed = after.armed; set = after.set }
once_changed w (change.BeginWait who awaited cancel) h = record { armed = h.armed; set = h.set }
once_changed w (change.BeginClose who group cancel context notices) h =
    record {
      armed = once_filter (λ (a : Arming). a.object.0) _ w.armings h.armed;
      set = once_filter (λ (s : TimerSetting). s.object.0) _ w.settings h.set;
    }
once_changed w (change.GiveNotice who) h = record { armed = h.armed; set = h.set }
once_changed w (change.EndWait who how) h = record { armed = h.armed; set = h.set }
once_changed w (change.Finish client) h = record { armed = h.armed; set = h.set }

pub once_opening : (limits : Limits) → IsOnce (opening limits)
once_opening limits = record { armed = tt; set = tt }

-- nor does what is dropped of what is over
pub once_moved : (w : World) (c : Change) → IsOnce w → IsOnce (forget (changed w c))
once_moved w c h = let after = once_changed w c h in record { armed = after.armed; set = after.set }

-- ---- how many there are

-- each has a number from 1 on that is at most this
abbrev AreWithin : {X : Type 0} → (X → ℕ) → ℕ → List X → Type 0
AreWithin number most xs = AllByRecursion (λ x. (1 ≤ number x) × (number x ≤ most)) xs

others_apart : {X : Type 0} (number : X → ℕ) (n : ℕ) (xs : List X) → list_any (λ y. number y == n) xs ≡ false → AllByRecursion (λ m. nat_eq n m ≡ false) (map number xs)
others_apart number n [] none = tt
others_apart {X} number n (x ∷ xs) none = let two = neither (number x == n) (list_any (λ (y : X). number y == n) xs) none in (eqb_sym n (number x) ∙ two.0, others_apart number n xs two.1)

numbers_apart : {X : Type 0} (number : X → ℕ) (xs : List X) → AreOnce number xs → IsDistinct nat_eq (map number xs)
unfolding IsDistinct
numbers_apart number [] h = tt
numbers_apart number (x ∷ xs) h = (others_apart number (number x) xs h.0, numbers_apart number xs h.1)

none_0 : {X : Type 0} (number : X → ℕ) (most : ℕ) (xs : List X) → AreWithin number most xs → AllByRecursion (λ n. nat_eq 0 n ≡ false) (map number xs)
none_0 number most [] h = tt
none_0 number most (x ∷ xs) h = (ne_eqb 0 (number x) (λ e. omega (arith, e, h.0.0)), none_0 number most xs h.1)

all_within : {X : Type 0} (number : X → ℕ) (most n : ℕ) (xs : List X) → AreWithin number most xs → list_any (nat_eq n) (map number xs) ≡ true → n ≤ most
all_within number most n [] h e = absurd cc
all_within number most n (x ∷ xs) h e =
    elim (nat_eq n (number x)) as (λ b. nat_eq n (number x) ≡ b → (b || list_any (nat_eq n) (map number xs)) ≡ true → n ≤ most) [
      | true ↦ λ is _. omega (arith, eqb-true n (number x) is, h.0.1)
      | false ↦ λ _ rest. all_within number most n xs h.1 rest
    ] refl e

once_few : {X : Type 0} (number : X → ℕ) (most : ℕ) (xs : List X) → AreOnce number xs → AreWithin number most xs → length xs ≤ most
once_few {X} number most xs once within =
    omega (
      arith,
      length-map xs number,
      length-le_from_distinct_below (0 ∷ map number xs) (most + 1) (IsDistinct-cons nat_eq 0 (map number xs) (none_0 number most xs within) (numbers_apart number xs once)) below,
    )
  where
    below : (n : ℕ) → list_any (nat_eq n) (0 ∷ map number xs) ≡ true → n < most + 1
    below n e =
        elim (nat_eq n 0) as (λ b. nat_eq n 0 ≡ b → (b || list_any (nat_eq n) (map number xs)) ≡ true → n < most + 1) [
          | true ↦ λ is _. omega (arith, eqb-true n 0 is)
          | false ↦ λ _ rest. omega (arith, all_within number most n xs within rest)
        ] refl e

-- an object that passes a test is one of those that were made
is_made : (test : ObjectRow → Bool) (objects : List ObjectRow) (n : ℕ) → is_object_that test objects n ≡ true → (1 ≤ n) × (n ≤ length objects)
is_made test objects n passes = of_row (numbered objects n) refl passes
  where
    of_row : (o : Option ObjectRow) → numbered objects n ≡ o → option_map_or test o false ≡ true → (1 ≤ n) × (n ≤ length objects)
    of_row None is e = absurd (false_true e)
    of_row (Some row) is e =
        let at = numbered_some objects n row is in
        let within : n - 1 < length objects = made objects (n - 1) (ap is_some at.0) in
        (at.1, omega (arith, within, at.1))

-- what is set isn't released
pub set_few : (next_number : ℕ) (w : World) → IsSound next_number w → IsOnce w → length w.settings ≤ length w.objects
set_few next_number w s h =
    once_few (λ (s : TimerSetting). s.object.0) (length w.objects) w.settings h.set
    (all_along (λ (s : TimerSetting). is_standing w.objects s.object.0 ≡ true) (λ (s : TimerSetting). (1 ≤ s.object.0) × (s.object.0 ≤ length w.objects)) (λ s e. is_made (λ (o : ObjectRow). not o.released) w.objects s.object.0 e) w.settings s.timers)
