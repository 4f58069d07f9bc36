-- What stays true of timer objects as a setting begins or ends, and as an object goes.
use Rattle.std.proofs.Common.{◌≡◌, ◌==◌, ◌+◌, ◌<◌, ◌≤◌, ◌≢◌, ℕ, zero, suc, Bool, true, false, not, List, [], ◌∷◌, Some, length, set, get_or, sym, ◌∙◌, arith, ⊎_elim}
use Rattle.std.specs.List.{All}
use Rattle.std.proofs.lemmas.Bool.{cases_eq, cases_lt}
use Rattle.std.proofs.lemmas.List.{length-set, get_or-set_same, get_or-set_other, get_or_past, get_or_default}
use Rattle.std.proofs.lemmas.List.Elements.{All-filter, All-head, All-tail, All-same}
use Rattle.tp_base.specs.declared.rows.TimerSetting.{TimerSetting}
use Rattle.timer_heap.specs.Dues.{Entry, Dues, entry, with_entry, without_key, HasDistinctKeys, is_due, first_due, after_first}
use Rattle.timer_heap.proofs.Entries.{all_with}
use Rattle.timer_heap.proofs.Told.{true_or_false, free_without}
use Rattle.timer_objects.specs.declared.Pace.{Pace}
use Rattle.timer_objects.specs.Settings.{Timers, is_set}
use Rattle.timer_objects.specs.Kept.{IsKept, pace_of, settings_of}
use Rattle.timer_objects.proofs.Shown.{IsUnset, popped, unset_free}

module _ (room capacity : ℕ) (there : List Bool) (dues : Dues) (paces : List Pace) (kept : IsKept room capacity there dues paces) (key : ℕ) where
  left_alive : All (λ e. get_or there (e.key + 1) false ≡ true) (without_key key dues.entries)
  left_alive = All-filter (λ e. not (e.key == key)) (λ e. get_or there (e.key + 1) false ≡ true) dues.entries kept.alive

  left_paced : All (λ e. e.key < length paces) (without_key key dues.entries)
  left_paced = All-filter (λ e. not (e.key == key)) (λ e. e.key < length paces) dues.entries kept.paced

  -- a timer isn't set any more
  pub kept_unset : (new : Dues) → new ≡ record dues { entries = without_key key dues.entries } → IsKept room capacity there new paces
  kept_unset new is =
      rw is (record {
        places = kept.places;
        numbered = kept.numbered;
        paced = left_paced;
        many = kept.many;
        reserved = kept.reserved;
        none_0 = kept.none_0;
        alive = left_alive;
        fits = kept.fits;
      })

  -- there are more paces
  pub kept_paced : (now : List Pace) → length paces ≤ length now → length now ≤ dues.keys → IsKept room capacity there dues now
  kept_paced now more few = record {
    places = kept.places;
    numbered = kept.numbered;
    paced = λ k d lt. omega (arith, more, kept.paced k d lt);
    many = few;
    reserved = kept.reserved;
    none_0 = kept.none_0;
    alive = kept.alive;
    fits = kept.fits;
  }

  -- the timer of an object that is there is set
  pub kept_set : (due : ℕ) (new : Dues) (now : List Pace) → get_or there (key + 1) false ≡ true → new ≡ record dues { entries = with_entry (entry key due) (without_key key dues.entries) } → length now ≡ length paces → key < length paces → IsKept room capacity there new now
  kept_set due new now alive is same within =
      rw is (record {
        places = kept.places;
        numbered = kept.numbered;
        paced = all_with (λ e. e.key < length now) (entry key due) (without_key key dues.entries) (omega (arith, same, within)) (λ k d lt. omega (arith, same, left_paced k d lt));
        many = omega (arith, same, kept.many);
        reserved = kept.reserved;
        none_0 = kept.none_0;
        alive = all_with (λ e. get_or there (e.key + 1) false ≡ true) (entry key due) (without_key key dues.entries) alive left_alive;
        fits = kept.fits;
      })

  -- an object goes, and isn't set any more
  pub kept_closed : (object : ℕ) (new : Dues) → object ≡ key + 1 → new ≡ record dues { entries = without_key key dues.entries } → IsKept room capacity (set there object false) new paces
  kept_closed object new is without =
      rw without (record {
        places = omega (arith, length-set there object false, kept.places);
        numbered = kept.numbered;
        paced = left_paced;
        many = kept.many;
        reserved = kept.reserved;
        none_0 = get_or-set_other there object 0 false false (omega arith) ∙ kept.none_0;
        alive = λ k d lt.
            let apart = free_without key dues.entries k d lt in
            get_or-set_other there object _ false false (λ same. apart (omega (arith, is))) ∙ left_alive k d lt;
        fits = kept.fits;
      })

-- an object is entered, once its place is filled
pub kept_created : (room capacity : ℕ) (there : List Bool) (dues : Dues) (paces : List Pace) (object : ℕ) (now : List Bool) → IsKept room capacity there dues paces → 1 ≤ object → object < length now → length now ≤ dues.keys + 1
    → ((k : ℕ) → get_or now k false ≡ get_or there k false) → IsKept room capacity (set now object true) dues paces
kept_created room capacity there dues paces object now kept least filled few same = record {
  places = omega (arith, length-set now object true, few);
  numbered = kept.numbered;
  paced = kept.paced;
  many = kept.many;
  reserved = kept.reserved;
  none_0 = get_or-set_other now object 0 true false (omega arith) ∙ same 0 ∙ kept.none_0;
  alive = λ k d lt.
      let at = (get_or dues.entries k d).key + 1 in
      ⊎_elim
      (λ (here : at ≡ object). rw here (get_or-set_same now object true false filled))
      (λ (apart : at ≢ object). get_or-set_other now object at true false apart ∙ same at ∙ kept.alive k d lt)
      (cases_eq at object);
  fits = kept.fits;
}

-- there is no object 0
pub from_1 : (room capacity : ℕ) (there : List Bool) (dues : Dues) (paces : List Pace) (object : ℕ) → IsKept room capacity there dues paces → get_or there object false ≡ true → 1 ≤ object
from_1 room capacity there dues paces zero kept alive = let both : false ≡ true = sym kept.none_0 ∙ alive in absurd cc
from_1 room capacity there dues paces (suc n) kept alive = omega arith

-- the key of an object that is there
pub key_within : (room capacity : ℕ) (there : List Bool) (dues : Dues) (paces : List Pace) (key : ℕ) → IsKept room capacity there dues paces → get_or there (key + 1) false ≡ true → key < dues.keys
key_within room capacity there dues paces key kept alive =
    ⊎_elim
    (λ (within : key < dues.keys). within)
    (λ (past : dues.keys ≤ key).
    let places = kept.places in
    let none : get_or there (key + 1) false ≡ false = get_or_past there (key + 1) false (omega arith) in
    absurd cc)
    (cases_lt key dues.keys)

-- what is so of each entry is so of those behind the first
left_first : (P : Entry → Type 0) (now : ℕ) (es : List Entry) → All P es → All P (after_first now es)
left_first P now [] all = all
left_first P now (x ∷ xs) all =
    ⊎_elim
    (λ (due : is_due now x ≡ true). rw due (All-tail P x xs all))
    (λ (later : is_due now x ≡ false). rw later all)
    (true_or_false (is_due now x))

-- the first entry goes
pub kept_popped : (room capacity : ℕ) (there : List Bool) (dues : Dues) (paces : List Pace) (now : ℕ) (new : Dues) → IsKept room capacity there dues paces → new ≡ record dues { entries = after_first now dues.entries } → IsKept room capacity there new paces
kept_popped room capacity there dues paces now new kept is =
    rw is (record {
      places = kept.places;
      numbered = kept.numbered;
      paced = left_first (λ e. e.key < length paces) now dues.entries kept.paced;
      many = kept.many;
      reserved = kept.reserved;
      none_0 = kept.none_0;
      alive = left_first (λ e. get_or there (e.key + 1) false ≡ true) now dues.entries kept.alive;
      fits = kept.fits;
    })

-- the first timer, where it is due, has an object that is there
module _ (room capacity : ℕ) (there : List Bool) (dues : Dues) (paces : List Pace) (now key due : ℕ) (kept : IsKept room capacity there dues paces) (distinct : HasDistinctKeys dues.entries) (found : first_due now dues.entries ≡ Some (due, key)) where
  first_is : (P : Entry → Type 0) → All P dues.entries → P (entry key due)
  first_is P all =
      let is = popped now key due dues.entries distinct found in
      All-head P (entry key due) (after_first now dues.entries) (All-same P (entry key due ∷ after_first now dues.entries) dues.entries (sym is.first) all)

  pub first_alive : get_or there (key + 1) false ≡ true
  first_alive = first_is (λ e. get_or there (e.key + 1) false ≡ true) kept.alive

  pub first_paced : key < length paces
  first_paced = first_is (λ e. e.key < length paces) kept.paced

  pub first_within : key < dues.keys
  first_within = key_within room capacity there dues paces key kept first_alive

  pub first_pace : (pace : Pace) → pace ≡ get_or paces key pace → pace_of paces key ≡ pace
  first_pace pace here = get_or_default paces key _ pace first_paced ∙ sym here

-- a timer whose object is there, and which isn't set, can be set once there is a pace for it
pub can_begin : (there : List Bool) (dues : Dues) (paces : List Pace) (old : Timers) (key : ℕ) (setting : TimerSetting) → key < length paces
    → ◌≡◌ {A = Timers} (record { limit = dues.keys; there = there; settings = settings_of paces dues.entries }) old → setting.object.0 ≡ key + 1
    → is_set setting.object.0 old.settings ≡ false → IsUnset paces key setting dues.entries
can_begin there dues paces old key setting within shown named unset = record {
  named = named;
  within = within;
  free = unset_free paces key setting.object.0 dues.entries named (rw (← shown) at unset);
}
