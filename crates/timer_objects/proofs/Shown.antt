-- The settings that entries and paces show.
use Rattle.std.proofs.Common.{◌≡◌, ◌≢◌, ◌==◌, ◌+◌, ◌<◌, ◌≤◌, ◌&&◌, ℕ, suc, Bool, true, false, not, List, [], ◌∷◌, Option, None, Some, filter, length, set, get_or, leb-true, nat_lt, refl, sym, ap, ◌∙◌, arith, ⊎_elim, eqb-true}
use Rattle.std.specs.Prelude.{is_some}
use Rattle.std.specs.List.{All, AllPairs}
use Rattle.std.proofs.lemmas.Bool.{le-leb}
use Rattle.std.proofs.lemmas.Bool.Decides.{nat_tests}
use Rattle.std.proofs.lemmas.List.{get_or-map, length-map, get_or-set_same, get_or-set_other}
use Rattle.std.proofs.lemmas.List.Elements.{All-tail}
use Rattle.std.proofs.lemmas.Map.Views.{any-filter_same}
use Rattle.tp_base.specs.declared.ids.ObjectId.{ObjectId}
use Rattle.tp_base.specs.declared.rows.TimerSetting.{TimerSetting}
use Rattle.tp_base.specs.Timers as timers
use Rattle.tp_base.specs.Timers.{expires_before, next_due, set_or_expire, with_setting, without_setting}
use Rattle.timer_heap.specs.Dues.{Entry}
use Rattle.timer_heap.specs.Dues as dues
use Rattle.timer_heap.specs.Dues.{entry, comes_before, with_entry, without_key, due_of}
use Rattle.timer_heap.proofs.Told.{IsFree, true_or_false, untold_free, without_free}
use Rattle.timer_objects.specs.declared.Pace.{Pace}
use Rattle.timer_objects.specs.Settings.{IsInOrder, HasDistinctObjects, told, first_expired, after_first, is_set}
use Rattle.timer_objects.specs.Kept.{pace_of, setting_of, settings_of}

next_test : (m n : ℕ) → nat_lt (m + 1) (n + 1) ≡ nat_lt m n
next_test m n = grind (arith, nat_tests)

same_test : (m n object : ℕ) → object ≡ n + 1 → ((m + 1) == object) ≡ (m == n)
same_test m n object is = grind (arith, nat_tests)

module _ (paces : List Pace) where
  pairs_of : (R : TimerSetting → TimerSetting → Type 0) (es : List Entry) → AllPairs (λ a b. R (setting_of paces a) (setting_of paces b)) es → AllPairs R (settings_of paces es)
  pairs_of R [] pairs i j d lt within = absurd (omega arith)
  pairs_of R (x ∷ xs) pairs i j d lt within =
      let inside : j < length (x ∷ xs) = rw length-map at within in
      let first = get_or-map (setting_of paces) (x ∷ xs) i x d (omega arith) in
      let second = get_or-map (setting_of paces) (x ∷ xs) j x d inside in
      rw (first, second) (pairs i j x lt inside)

  same_order : (a b : Entry) → expires_before (setting_of paces a) (setting_of paces b) ≡ comes_before a b
  same_order a b = rw next_test refl

  -- settings are in order as their entries are, and of distinct objects where these have distinct keys
  pub shown_in_order : (es : List Entry) → dues.IsInOrder es → IsInOrder (settings_of paces es)
  shown_in_order es order = pairs_of (λ s t. expires_before s t ≡ true) es (λ i j d lt within. same_order (get_or es i d) (get_or es j d) ∙ order i j d lt within)

  pub shown_distinct : (es : List Entry) → dues.HasDistinctKeys es → HasDistinctObjects (settings_of paces es)
  shown_distinct es distinct = pairs_of (λ s t. s.object.0 ≢ t.object.0) es (λ i j d lt within same. distinct i j d lt within (omega arith))

  pub shown_with : (e : Entry) (es : List Entry) → settings_of paces (with_entry e es) ≡ with_setting (setting_of paces e) (settings_of paces es)
  shown_with e [] = refl
  shown_with e (x ∷ xs) =
      ⊎_elim
      (λ (first : comes_before e x ≡ true). rw (same_order e x, first) refl)
      (λ (later : comes_before e x ≡ false). rw (same_order e x, later) (ap (λ ss. setting_of paces x ∷ ss) (shown_with e xs)))
      (true_or_false (comes_before e x))

  pub shown_without : (key : ℕ) (object : ObjectId) (es : List Entry) → object.0 ≡ key + 1 → settings_of paces (without_key key es) ≡ without_setting object (settings_of paces es)
  shown_without key object [] is = refl
  shown_without key object (x ∷ xs) is =
      ⊎_elim
      (λ (here : (x.key == key) ≡ true). rw (same_test x.key key object.0 is, here) (shown_without key object xs is))
      (λ (other : (x.key == key) ≡ false). rw (same_test x.key key object.0 is, other) (ap (λ ss. setting_of paces x ∷ ss) (shown_without key object xs is)))
      (true_or_false (x.key == key))

  -- an object that isn't there isn't set
  pub absent_without : (there : List Bool) (object : ObjectId) (es : List Entry) → get_or there object.0 false ≡ false → All (λ e. get_or there (e.key + 1) false ≡ true) es → without_setting object (settings_of paces es) ≡ settings_of paces es
  absent_without there object [] absent alive = refl
  absent_without there object (x ∷ xs) absent alive =
      ⊎_elim
      (λ (here : ((x.key + 1) == object.0) ≡ true). let both : false ≡ true = sym absent ∙ ap (λ n. get_or there n false) (sym (eqb-true (x.key + 1) object.0 here)) ∙ alive 0 x (omega arith) in absurd cc)
      (λ (other : ((x.key + 1) == object.0) ≡ false). rw other (ap (λ ss. setting_of paces x ∷ ss) (absent_without there object xs absent (All-tail (λ e. get_or there (e.key + 1) false ≡ true) x xs alive))))
      (true_or_false ((x.key + 1) == object.0))

  pub shown_due : (now : ℕ) (es : List Entry) → length (timers.expired now (settings_of paces es)) ≡ length (filter (dues.is_due now) es)
  shown_due now [] = refl
  shown_due now (x ∷ xs) =
      ⊎_elim
      (λ (due : dues.is_due now x ≡ true). rw due (ap suc (shown_due now xs)))
      (λ (other : dues.is_due now x ≡ false). rw other (shown_due now xs))
      (true_or_false (dues.is_due now x))

  pub shown_where : (now : ℕ) (passes : ℕ → Bool) (es : List Entry) → length (filter (λ s. passes s.object.0) (timers.expired now (settings_of paces es))) ≡ length (filter (λ e. passes (e.key + 1) && dues.is_due now e) es)
  shown_where now passes [] = refl
  shown_where now passes (x ∷ xs) =
      ⊎_elim
      (λ (due : dues.is_due now x ≡ true).
      ⊎_elim
      (λ (good : passes (x.key + 1) ≡ true). rw (due, good) (ap suc (shown_where now passes xs)))
      (λ (bad : passes (x.key + 1) ≡ false). rw (due, bad) (shown_where now passes xs))
      (true_or_false (passes (x.key + 1))))
      (λ (other : dues.is_due now x ≡ false).
      ⊎_elim
      (λ (good : passes (x.key + 1) ≡ true). rw (other, good) (shown_where now passes xs))
      (λ (bad : passes (x.key + 1) ≡ false). rw (other, bad) (shown_where now passes xs))
      (true_or_false (passes (x.key + 1))))
      (true_or_false (dues.is_due now x))

  pub shown_set : (key : ℕ) (object : ℕ) (es : List Entry) → object ≡ key + 1 → is_some (due_of key es) ≡ is_set object (settings_of paces es)
  shown_set key object [] is = refl
  shown_set key object (x ∷ xs) is =
      ⊎_elim
      (λ (here : (x.key == key) ≡ true). rw (same_test x.key key object is, here) refl)
      (λ (other : (x.key == key) ≡ false). rw (same_test x.key key object is, other) (shown_set key object xs is))
      (true_or_false (x.key == key))

  pub none_set : (es : List Entry) → is_set 0 (settings_of paces es) ≡ false
  none_set [] = refl
  none_set (x ∷ xs) = let apart : ((x.key + 1) == 0) ≡ false = grind (arith, nat_tests) in rw apart (none_set xs)

  -- the pace of a key that has no entry isn't seen
  pub shown_apart : (key : ℕ) (pace : Pace) (es : List Entry) → IsFree key es → settings_of (set paces key pace) es ≡ settings_of paces es
  shown_apart key pace [] free = refl
  shown_apart key pace (x ∷ xs) free =
      let same : pace_of (set paces key pace) x.key ≡ pace_of paces x.key = get_or-set_other paces key x.key pace _ (free 0 x (omega arith)) in
      rw same (ap (λ ss. setting_of paces x ∷ ss) (shown_apart key pace xs (All-tail (λ y. y.key ≢ key) x xs free)))

none_of : (o : Option ℕ) → is_some o ≡ false → o ≡ None
none_of None none = refl
none_of (Some n) none = cc

-- the settings are told by the paces that are found
pub shown_filled : (paces new : List Pace) → ((key : ℕ) → pace_of new key ≡ pace_of paces key) → (es : List Entry) → settings_of new es ≡ settings_of paces es
shown_filled paces new same [] = refl
shown_filled paces new same (x ∷ xs) = rw (same x.key, shown_filled paces new same xs) refl

-- a timer that isn't set has no entry
pub unset_free : (paces : List Pace) (key object : ℕ) (es : List Entry) → object ≡ key + 1 → is_set object (settings_of paces es) ≡ false → IsFree key es
unset_free paces key object es is unset = untold_free key es (none_of _ (shown_set paces key object es is ∙ unset))

-- a timer can be set that isn't: with its key, and among the entries
pub record IsUnset (paces : List Pace) (key : ℕ) (setting : TimerSetting) (es : List Entry) : Type 0 where
  pub named : setting.object.0 ≡ key + 1
  pub within : key < length paces
  pub free : IsFree key es

module _ (paces : List Pace) (key : ℕ) (setting : TimerSetting) (es : List Entry) (unset : IsUnset paces key setting es) where
  abbrev pace : Pace
  pace = record { period = setting.period; window = setting.window }

  own : (due : ℕ) → setting_of (set paces key pace) (entry key due) ≡ record setting { due = due }
  own due =
      let here : pace_of (set paces key pace) key ≡ pace = get_or-set_same paces key pace _ unset.within in
      rw (here, ← unset.named) refl

  shown_due_at : (due : ℕ) → settings_of (set paces key pace) (with_entry (entry key due) (without_key key es)) ≡ with_setting (record setting { due = due }) (settings_of paces es)
  shown_due_at due =
      ap (λ xs. settings_of (set paces key pace) (with_entry (entry key due) xs)) (without_free key es unset.free)
      ∙ shown_with (set paces key pace) (entry key due) es
      ∙ rw (own due, shown_apart paces key pace es unset.free) refl

  -- it is due later, or it expires and is set again, or it expires once
  pub shown_later : (now : ℕ) → now < setting.due → settings_of (set paces key pace) (with_entry (entry key setting.due) (without_key key es)) ≡ set_or_expire now setting (settings_of paces es)
  shown_later now later =
      let test : timers.is_due now setting ≡ false = grind (arith, nat_tests) in
      rw test (shown_due_at setting.due)

  pub shown_again : (now next : ℕ) → setting.due ≤ now → 0 < setting.period → next ≡ next_due setting.due setting.period now → settings_of (set paces key pace) (with_entry (entry key next) (without_key key es)) ≡ set_or_expire now setting (settings_of paces es)
  shown_again now next due repeats is =
      let test : timers.is_due now setting ≡ true = grind (arith, nat_tests) in
      let periodic : (setting.period == 0) ≡ false = grind (arith, nat_tests) in
      rw (test, periodic, is) (shown_due_at (next_due setting.due setting.period now))

  pub shown_once : (now : ℕ) → setting.due ≤ now → setting.period ≤ 0 → settings_of (set paces key pace) es ≡ set_or_expire now setting (settings_of paces es)
  shown_once now due ends =
      let test : timers.is_due now setting ≡ true = grind (arith, nat_tests) in
      let once : (setting.period == 0) ≡ true = grind (arith, nat_tests) in
      rw (test, once) (shown_apart paces key pace es unset.free)

-- the first entry, if it is due, shows the first setting that expires
pub shown_none : (paces : List Pace) (now : ℕ) (es : List Entry) → dues.first_due now es ≡ None → (first_expired now (settings_of paces es) ≡ None) × (dues.after_first now es ≡ es)
shown_none paces now [] none = (refl, refl)
shown_none paces now (x ∷ xs) none =
    ⊎_elim
    (λ (due : dues.is_due now x ≡ true). let found : Some (x.due, x.key) ≡ None = rw due at none in absurd cc)
    (λ (later : dues.is_due now x ≡ false). (rw later refl, rw later refl))
    (true_or_false (dues.is_due now x))

pub record IsPopped (now key due : ℕ) (es : List Entry) : Type 0 where
  pub first : es ≡ entry key due ∷ dues.after_first now es
  pub past : due ≤ now
  pub free : IsFree key (dues.after_first now es)

pub popped : (now key due : ℕ) (es : List Entry) → dues.HasDistinctKeys es → dues.first_due now es ≡ Some (due, key) → IsPopped now key due es
popped now key due [] distinct found = absurd cc
popped now key due (x ∷ xs) distinct found =
    ⊎_elim
    (λ (is_due : dues.is_due now x ≡ true).
    let pair : Some (x.due, x.key) ≡ Some (due, key) = rw is_due at found in
    let both : ◌≡◌ {A = ℕ × ℕ} (x.due, x.key) (due, key) = cc in
    let same_due : x.due ≡ due = ap (λ (p : ℕ × ℕ). p.0) both in
    let same_key : x.key ≡ key = ap (λ (p : ℕ × ℕ). p.1) both in
    let same : x ≡ entry key due = ap (λ (p : ℕ × ℕ). entry p.1 p.0) both in
    let past : x.due ≤ now = leb-true x.due now is_due in
    record {
      first = rw is_due (ap (λ e. e ∷ xs) same);
      past = omega arith;
      free = rw (is_due, ← same_key) (λ k d lt same. distinct 0 (suc k) d (omega arith) (omega arith) (sym same));
    })
    (λ (later : dues.is_due now x ≡ false). let none : None ≡ Some (due, key) = rw later at found in absurd cc)
    (true_or_false (dues.is_due now x))

module _ (paces : List Pace) (now key due : ℕ) (es : List Entry) (is : IsPopped now key due es) where
  abbrev rest : List Entry
  rest = dues.after_first now es

  abbrev first : TimerSetting
  first = setting_of paces (entry key due)

  first_is_due : timers.is_due now first ≡ true
  first_is_due = le-leb due now is.past

  shown_as : settings_of paces es ≡ first ∷ settings_of paces rest
  shown_as = ap (settings_of paces) is.first

  pub shown_first : first_expired now (settings_of paces es) ≡ Some (told first)
  shown_first = ap (first_expired now) shown_as ∙ rw first_is_due refl

  -- it expires once, or it is set again
  pub shown_gone : (pace_of paces key).period ≤ 0 → settings_of paces rest ≡ after_first now (settings_of paces es)
  shown_gone ends =
      let once : ((pace_of paces key).period == 0) ≡ true = grind (arith, nat_tests) in
      sym (ap (after_first now) shown_as ∙ rw (first_is_due, once) refl)

  pub shown_back : (next : ℕ) → 0 < (pace_of paces key).period → next ≡ next_due due (pace_of paces key).period now → settings_of paces (with_entry (entry key next) (without_key key rest)) ≡ after_first now (settings_of paces es)
  shown_back next repeats same =
      let periodic : ((pace_of paces key).period == 0) ≡ false = grind (arith, nat_tests) in
      ap (λ xs. settings_of paces (with_entry (entry key next) xs)) (without_free key rest is.free)
      ∙ shown_with paces (entry key next) rest
      ∙ sym (ap (after_first now) shown_as ∙ rw (first_is_due, periodic, ← same) refl)

-- a timer whose setting ended isn't set
pub ended_unset : (object : ObjectId) (ss : List TimerSetting) → is_set object.0 (without_setting object ss) ≡ false
ended_unset object ss =
    any-filter_same (λ (s : TimerSetting). s.object.0 == object.0) (λ (s : TimerSetting). not (s.object.0 == object.0)) false (λ s there. ap not there) ss
