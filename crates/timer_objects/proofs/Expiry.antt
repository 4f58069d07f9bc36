-- What expires, and what is set after that, setting by setting.
use Rattle.std.proofs.Common.{◌≡◌, ◌==◌, ◌<◌, ℕ, zero, suc, Bool, true, false, not, List, [], ◌∷◌, None, Some, map, filter, get_or, refl, sym, ap, ◌∙◌, arith, ⊎_elim}
use Rattle.std.specs.List.{All}
use Rattle.std.proofs.lemmas.Bool.Decides.{nat_tests}
use Rattle.std.proofs.lemmas.List.Elements.{All-tail}
use Rattle.tp_base.specs.declared.ids.ObjectId.{ObjectId}
use Rattle.tp_base.specs.declared.rows.TimerSetting.{TimerSetting}
use Rattle.tp_base.specs.Timers.{next_due, is_due, expires_before, with_setting, set_again, expired, set_all_again, after_expiry}
use Rattle.timer_heap.proofs.Told.{true_or_false}
use Rattle.timer_objects.specs.Settings.{IsInOrder, told, first_expired, after_first}
use Rattle.timer_objects.proofs.NextDue.{next_above}

abbrev not_due : ℕ → TimerSetting → Bool
not_due now s = not (is_due now s)

-- what isn't due comes behind all that is due
behind : (now : ℕ) (s x : TimerSetting) → is_due now s ≡ false → is_due now x ≡ true → expires_before s x ≡ false
behind now s x later due = grind (arith, nat_tests)

-- a setting that isn't due changes nothing of those that are, and goes to its place among those that aren't
pub expired_with : (now : ℕ) (s : TimerSetting) (ss : List TimerSetting) → is_due now s ≡ false → expired now (with_setting s ss) ≡ expired now ss
expired_with now s [] later = rw later refl
expired_with now s (x ∷ xs) later =
    ⊎_elim
    (λ (first : expires_before s x ≡ true). rw (first, later) refl)
    (λ (second : expires_before s x ≡ false).
    ⊎_elim
    (λ (due : is_due now x ≡ true). rw (second, due) (ap (λ ys. x ∷ ys) (expired_with now s xs later)))
    (λ (not_due : is_due now x ≡ false). rw (second, not_due) (expired_with now s xs later))
    (true_or_false (is_due now x)))
    (true_or_false (expires_before s x))

pub left_with : (now : ℕ) (s : TimerSetting) (ss : List TimerSetting) → is_due now s ≡ false → filter (not_due now) (with_setting s ss) ≡ with_setting s (filter (not_due now) ss)
left_with now s [] later = rw later refl
left_with now s (x ∷ xs) later =
    ⊎_elim
    (λ (due : is_due now x ≡ true). rw (behind now s x later due, due) (left_with now s xs later))
    (λ (not_due : is_due now x ≡ false).
    ⊎_elim
    (λ (first : expires_before s x ≡ true). rw (first, later, not_due) (rw first refl))
    (λ (second : expires_before s x ≡ false). rw (second, not_due) (rw second (ap (λ ys. x ∷ ys) (left_with now s xs later))))
    (true_or_false (expires_before s x)))
    (true_or_false (is_due now x))

-- when it is set again, a timer isn't due
again_later : (now : ℕ) (s : TimerSetting) → (s.period == 0) ≡ false → is_due now (record s { due = next_due s.due s.period now }) ≡ false
again_later now s periodic =
    let repeats : 0 < s.period = grind (arith, nat_tests) in
    let above = next_above s.due s.period now repeats in
    grind (arith, nat_tests)

pub expired_again : (now : ℕ) (s : TimerSetting) (ss : List TimerSetting) → expired now (set_again now s ss) ≡ expired now ss
expired_again now s ss =
    ⊎_elim
    (λ (once : (s.period == 0) ≡ true). rw once refl)
    (λ (periodic : (s.period == 0) ≡ false). rw periodic (expired_with now (record s { due = next_due s.due s.period now }) ss (again_later now s periodic)))
    (true_or_false (s.period == 0))

pub left_again : (now : ℕ) (s : TimerSetting) (ss : List TimerSetting) → filter (not_due now) (set_again now s ss) ≡ set_again now s (filter (not_due now) ss)
left_again now s ss =
    ⊎_elim
    (λ (once : (s.period == 0) ≡ true). rw once refl)
    (λ (periodic : (s.period == 0) ≡ false). rw periodic (left_with now (record s { due = next_due s.due s.period now }) ss (again_later now s periodic)))
    (true_or_false (s.period == 0))

-- one setting that is due expires, and is set again among the others
pub expired_first : (now : ℕ) (s : TimerSetting) (ss : List TimerSetting) → is_due now s ≡ true → expired now (s ∷ ss) ≡ s ∷ expired now (set_again now s ss)
expired_first now s ss due = rw due (ap (λ ys. s ∷ ys) (sym (expired_again now s ss)))

pub after_expiry_first : (now : ℕ) (s : TimerSetting) (ss : List TimerSetting) → is_due now s ≡ true → after_expiry now (s ∷ ss) ≡ after_expiry now (set_again now s ss)
after_expiry_first now s ss due = rw due (rw (expired_again now s ss, left_again now s ss) refl)

-- where nothing is due, nothing expires, and all is set as before
pub nothing_expires : (now : ℕ) (ss : List TimerSetting) → All (λ s. is_due now s ≡ false) ss → (expired now ss ≡ []) × (filter (not_due now) ss ≡ ss)
nothing_expires now [] later = (refl, refl)
nothing_expires now (s ∷ ss) later =
    let here : is_due now s ≡ false = later 0 s (omega arith) in
    let rest = nothing_expires now ss (All-tail (λ t. is_due now t ≡ false) s ss later) in
    (rw here rest.0, rw here (ap (λ ys. s ∷ ys) rest.1))

all_later : (now : ℕ) (s : TimerSetting) (ss : List TimerSetting) → IsInOrder (s ∷ ss) → is_due now s ≡ false → All (λ t. is_due now t ≡ false) (s ∷ ss)
all_later now s ss order later zero d lt = later
all_later now s ss order later (suc k) d lt =
    let before = order 0 (suc k) d (omega arith) lt in
    along now s (get_or ss k d) before later
  where
    along : (now : ℕ) (s t : TimerSetting) → expires_before s t ≡ true → is_due now s ≡ false → is_due now t ≡ false
    along now s t before later = grind (arith, nat_tests)

-- where the first of settings in order isn't due, none is
pub none_expired : (now : ℕ) (ss : List TimerSetting) → IsInOrder ss → first_expired now ss ≡ None → expired now ss ≡ []
none_expired now [] order none = refl
none_expired now (s ∷ ss) order none =
    ⊎_elim
    (λ (due : is_due now s ≡ true). let found : Some (told s) ≡ None = rw due at none in absurd cc)
    (λ (later : is_due now s ≡ false). (nothing_expires now (s ∷ ss) (all_later now s ss order later)).0)
    (true_or_false (is_due now s))

pub none_changed : (now : ℕ) (ss : List TimerSetting) → IsInOrder ss → first_expired now ss ≡ None → after_expiry now ss ≡ ss
none_changed now [] order none = refl
none_changed now (s ∷ ss) order none =
    ⊎_elim
    (λ (due : is_due now s ≡ true). let found : Some (told s) ≡ None = rw due at none in absurd cc)
    (λ (later : is_due now s ≡ false).
    let both = nothing_expires now (s ∷ ss) (all_later now s ss order later) in
    ap (λ due. set_all_again now due (filter (not_due now) (s ∷ ss))) both.0 ∙ both.1)
    (true_or_false (is_due now s))

-- ---- the same, of the first setting if it is due

pub fired_first : (now : ℕ) (ss : List TimerSetting) (first : ℕ × ObjectId) → first_expired now ss ≡ Some first → map told (expired now ss) ≡ first ∷ map told (expired now (after_first now ss))
fired_first now [] first found = absurd cc
fired_first now (s ∷ ss) first found =
    ⊎_elim
    (λ (due : is_due now s ≡ true).
    let is : Some (told s) ≡ Some first = rw due at found in
    let same : ◌≡◌ {A = ℕ × ObjectId} (told s) first = cc in
    ap (map told) (expired_first now s ss due) ∙ rw (same, due) refl)
    (λ (later : is_due now s ≡ false). let none : None ≡ Some first = rw later at found in absurd cc)
    (true_or_false (is_due now s))

pub left_first : (now : ℕ) (ss : List TimerSetting) → after_expiry now (after_first now ss) ≡ after_expiry now ss
left_first now [] = refl
left_first now (s ∷ ss) =
    ⊎_elim
    (λ (due : is_due now s ≡ true). ap (after_expiry now) (first_gone due) ∙ sym (after_expiry_first now s ss due))
    (λ (later : is_due now s ≡ false). ap (after_expiry now) (first_stays later))
    (true_or_false (is_due now s))
  where
    first_gone : is_due now s ≡ true → after_first now (s ∷ ss) ≡ set_again now s ss
    first_gone due = rw due refl

    first_stays : is_due now s ≡ false → after_first now (s ∷ ss) ≡ s ∷ ss
    first_stays later = rw later refl
