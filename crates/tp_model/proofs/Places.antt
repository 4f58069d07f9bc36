-- Places in a history that is one entry longer, and what is found in longer lists.
use Rattle.std.proofs.Common.{◌≡◌, ℕ, ◌+◌, ◌≤◌, Bool, true, false, cond, ◌||◌, ◌==◌, List, [], ◌∷◌, ◌++◌, Option, Some, None, refl, sym, ap, ◌∙◌, find, ◌⊎◌, inl, inr, arith, eqb-true, filter, ap₂}
use Rattle.std.specs.List.{list_any}
use Rattle.std.proofs.lemmas.List.Folds.{list_any-append}
use Rattle.tp_base.specs.declared.rows.CallbackRow.{CallbackRow}
use Rattle.tp_model.specs.Counts.{has_number, is_pending}
use Rattle.tp_model.specs.Support.Moves.{AreNew, waiting_of, numbers_of}
use Rattle.tp_model.specs.Laws.Entries.{is_among}
use Rattle.tp_model.proofs.Refusals.{neither, false_true}

-- a place in a list and one element more: the last, or an earlier one
pub data LastPlace {X : Type 0} (before : List X) (x : X) (earlier : List X) (e : X) (later : List X) : Type 0 where
  Here : earlier ≡ before → e ≡ x → later ≡ [] → LastPlace before x earlier e later
  Earlier : (rest : List X) → later ≡ rest ++ x ∷ [] → earlier ++ e ∷ rest ≡ before → LastPlace before x earlier e later

pub last_place : {X : Type 0} (before : List X) (x : X) (earlier : List X) (e : X) (later : List X) → earlier ++ e ∷ later ≡ before ++ x ∷ [] → LastPlace before x earlier e later
last_place [] x [] e later is =
    let same : e ≡ x = cc in
    let none : later ≡ [] = cc in
    Here refl same none
last_place {X} (b ∷ before) x [] e later is =
    let head : e ≡ b = cc in
    let back : later ≡ before ++ x ∷ [] = cc in
    Earlier before back (ap (λ y. y ∷ before) head)
last_place {X} [] x (a ∷ earlier) e later is =
    let left : earlier ++ e ∷ later ≡ [] = cc in
    absurd (nothing_left earlier left)
  where
    nothing_left : (xs : List X) → xs ++ e ∷ later ≡ [] → ⊥
    nothing_left [] h = cc
    nothing_left (y ∷ ys) h = cc
last_place {X} (b ∷ before) x (a ∷ earlier) e later is =
    let head : a ≡ b = cc in
    let rest : earlier ++ e ∷ later ≡ before ++ x ∷ [] = cc in
    one_longer head (last_place before x earlier e later rest)
  where
    one_longer : a ≡ b → LastPlace before x earlier e later → LastPlace (b ∷ before) x (a ∷ earlier) e later
    one_longer head (Here front same none) = Here (ap (λ l. a ∷ l) front ∙ ap (λ y. y ∷ before) head) same none
    one_longer head (Earlier rest back front) = Earlier rest back (ap (λ l. a ∷ l) front ∙ ap (λ y. y ∷ before) head)

-- the first that passes among one more
pub data FoundLast {X : Type 0} (p : X → Bool) (xs : List X) (x found : X) : Type 0 where
  Before : find p xs ≡ Some found → FoundLast p xs x found
  Now : find p xs ≡ None → p x ≡ true → x ≡ found → FoundLast p xs x found

pub found_last : {X : Type 0} (p : X → Bool) (xs : List X) (x found : X) → find p (xs ++ x ∷ []) ≡ Some found → FoundLast p xs x found
found_last p [] x found e =
    elim (p x) as (λ b. p x ≡ b → cond b (Some x) None ≡ Some found → FoundLast p [] x found) [
      | true ↦ λ is h. Now refl is cc
      | false ↦ λ _ h. absurd cc
    ] refl e
found_last p (y ∷ xs) x found e =
    elim (p y) as (λ b. p y ≡ b → cond b (Some y) (find p (xs ++ x ∷ [])) ≡ Some found → FoundLast p (y ∷ xs) x found) [
      | true ↦ λ is h. Before (ap (λ b. cond b (Some y) (find p xs)) is ∙ h)
      | false ↦ λ is h. of_rest is (found_last p xs x found h)
    ] refl e
  where
    of_rest : p y ≡ false → FoundLast p xs x found → FoundLast p (y ∷ xs) x found
    of_rest is (Before h) = Before (ap (λ b. cond b (Some y) (find p xs)) is ∙ h)
    of_rest is (Now none passes same) = Now (ap (λ b. cond b (Some y) (find p xs)) is ∙ none) passes same

-- none is found among one more: none before, and it is none
pub none_last : {X : Type 0} (p : X → Bool) (xs : List X) (x : X) → find p (xs ++ x ∷ []) ≡ None → (find p xs ≡ None) × (p x ≡ false)
none_last {X} p [] x e =
    elim (p x) as (λ b. p x ≡ b → cond b (Some x) None ≡ None → (◌≡◌ {A = Option X} None None) × (p x ≡ false)) [
      | true ↦ λ _ h. absurd cc
      | false ↦ λ is _. (refl, is)
    ] refl e
none_last p (y ∷ xs) x e =
    elim (p y) as (λ b. cond b (Some y) (find p (xs ++ x ∷ [])) ≡ None → (cond b (Some y) (find p xs) ≡ None) × (p x ≡ false)) [
      | true ↦ λ h. absurd cc
      | false ↦ λ h. none_last p xs x h
    ] e

pub any_last : {X : Type 0} (p : X → Bool) (xs : List X) (x : X) → list_any p (xs ++ x ∷ []) ≡ false → (list_any p xs ≡ false) × (p x ≡ false)
any_last p xs x e =
    let apart = neither (list_any p xs) (p x || false) (sym (list_any-append p xs (x ∷ [])) ∙ e) in
    (apart.0, (neither (p x) false apart.1).0)

-- ---- rows in a longer list

pub find_front : (n : ℕ) (cs ds : List CallbackRow) (c : CallbackRow) → find (has_number n) cs ≡ Some c → find (has_number n) (cs ++ ds) ≡ Some c
find_front n [] ds c e = absurd cc
find_front n (d ∷ cs) ds c e =
    elim (has_number n d) as (λ b. cond b (Some d) (find (has_number n) cs) ≡ Some c → cond b (Some d) (find (has_number n) (cs ++ ds)) ≡ Some c) [
      | true ↦ λ h. h
      | false ↦ λ h. find_front n cs ds c h
    ] e

pub find_either : (n : ℕ) (cs ds : List CallbackRow) (c : CallbackRow) → find (has_number n) (cs ++ ds) ≡ Some c → (find (has_number n) cs ≡ Some c) ⊎ (find (has_number n) ds ≡ Some c)
find_either n [] ds c e = inr e
find_either n (d ∷ cs) ds c e =
    elim (has_number n d) as (λ b. cond b (Some d) (find (has_number n) (cs ++ ds)) ≡ Some c → (cond b (Some d) (find (has_number n) cs) ≡ Some c) ⊎ (find (has_number n) ds ≡ Some c)) [
      | true ↦ λ h. inl h
      | false ↦ λ h. find_either n cs ds c h
    ] e

pub new_above : (next_number n : ℕ) (cs : List CallbackRow) (c : CallbackRow) → AreNew next_number cs → find (has_number n) cs ≡ Some c → next_number ≤ n
new_above next_number n [] c rows e = absurd cc
new_above next_number n (d ∷ cs) c rows e =
    elim (has_number n d) as (λ b. has_number n d ≡ b → cond b (Some d) (find (has_number n) cs) ≡ Some c → next_number ≤ n) [
      | true ↦ λ is _. let same : d.number ≡ n = eqb-true d.number n is in omega (arith, same, rows.0.numbered)
      | false ↦ λ _ h. omega (arith, new_above (next_number + 1) n cs c rows.1 h)
    ] refl e

pub waiting_above : (next_number n : ℕ) (cs : List CallbackRow) → AreNew next_number cs → is_among n (waiting_of cs) ≡ true → next_number ≤ n
waiting_above next_number n [] rows e = absurd (false_true e)
waiting_above next_number n (d ∷ cs) rows e =
    let later : is_among n (waiting_of cs) ≡ true → next_number ≤ n = λ (h : is_among n (waiting_of cs) ≡ true). omega (arith, waiting_above (next_number + 1) n cs rows.1 h) in
    elim (is_pending d.status) as (λ b. is_among n (numbers_of (cond b (d ∷ filter (λ (x : CallbackRow). is_pending x.status) cs) (filter (λ (x : CallbackRow). is_pending x.status) cs))) ≡ true → next_number ≤ n) [
      | true ↦ λ h. first_or later (d.number == n) refl h
      | false ↦ later
    ] e
  where
    first_or : (is_among n (waiting_of cs) ≡ true → next_number ≤ n) → (b : Bool) → (d.number == n) ≡ b → ((d.number == n) || is_among n (waiting_of cs)) ≡ true → next_number ≤ n
    first_or later true is h = let same : d.number ≡ n = eqb-true d.number n is in omega (arith, same, rows.0.numbered)
    first_or later false is h = later (sym (ap (λ b. b || is_among n (waiting_of cs)) is) ∙ h)

-- of what is made, what is told to be pending is
pub waiting_pends : (next_number n : ℕ) (cs : List CallbackRow) (c : CallbackRow) → AreNew next_number cs → find (has_number n) cs ≡ Some c → is_among n (waiting_of cs) ≡ true → is_pending c.status ≡ true
waiting_pends next_number n [] c rows e among = absurd cc
waiting_pends next_number n (d ∷ cs) c rows e among =
    elim (has_number n d) as (λ b. has_number n d ≡ b → cond b (Some d) (find (has_number n) cs) ≡ Some c → is_pending c.status ≡ true) [
      | true ↦ λ is h.
          let same : d ≡ c = cc in
          ap (λ (x : CallbackRow). is_pending x.status) (sym same) ∙ here (eqb-true d.number n is) (is_pending d.status) refl
      | false ↦ λ is h. waiting_pends (next_number + 1) n cs c rows.1 h (behind is (is_pending d.status) refl)
    ] refl e
  where
    among_by : (b : Bool) → is_pending d.status ≡ b → is_among n (numbers_of (cond b (d ∷ filter (λ (x : CallbackRow). is_pending x.status) cs) (filter (λ (x : CallbackRow). is_pending x.status) cs))) ≡ true
    among_by b is = ap (λ t. is_among n (numbers_of (cond t (d ∷ filter (λ (x : CallbackRow). is_pending x.status) cs) (filter (λ (x : CallbackRow). is_pending x.status) cs)))) (sym is) ∙ among

    here : d.number ≡ n → (b : Bool) → is_pending d.status ≡ b → is_pending d.status ≡ true
    here same true is = is
    here same false is = let above : next_number + 1 ≤ n = waiting_above (next_number + 1) n cs rows.1 (among_by false is) in absurd (omega (arith, same, above, rows.0.numbered))

    behind : has_number n d ≡ false → (b : Bool) → is_pending d.status ≡ b → is_among n (waiting_of cs) ≡ true
    behind other true is = sym (ap (λ b. b || is_among n (waiting_of cs)) other) ∙ among_by true is
    behind other false is = among_by false is

-- ---- places of a whole list

pub find_behind : {X : Type 0} (p : X → Bool) (xs : List X) (x : X) (ys : List X) → find p xs ≡ None → p x ≡ true → find p (xs ++ x ∷ ys) ≡ Some x
find_behind p [] x ys none passes = ap (λ b. cond b (Some x) (find p ys)) passes
find_behind {X} p (y ∷ xs) x ys none passes =
    elim (p y) as (λ b. cond b (Some y) (find p xs) ≡ None → cond b (Some y) (find p (xs ++ x ∷ ys)) ≡ Some x) [
      | true ↦ λ h. absurd cc
      | false ↦ λ h. find_behind p xs x ys h passes
    ] none

pub any_either : {X : Type 0} (p q : X → Bool) (xs : List X) → list_any (λ x. p x || q x) xs ≡ false → (list_any p xs ≡ false) × (list_any q xs ≡ false)
any_either p q [] e = (refl, refl)
any_either p q (x ∷ xs) e =
    let front = neither (p x || q x) (list_any (λ y. p y || q y) xs) e in
    let here = neither (p x) (q x) front.0 in
    let rest = any_either p q xs front.1 in
    (ap₂ (λ a b. a || b) here.0 rest.0, ap₂ (λ a b. a || b) here.1 rest.1)

pub no_place : {X : Type 0} (xs : List X) (x : X) (ys : List X) → xs ++ x ∷ ys ≡ [] → ⊥
no_place [] x ys e = cc
no_place (y ∷ xs) x ys e = cc
