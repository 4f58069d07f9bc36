-- The due time of a key among entries.
use Rattle.std.proofs.Common.{◌≡◌, ◌≢◌, ◌==◌, ◌⊎◌, ℕ, Bool, true, false, List, [], ◌∷◌, None, Some, refl, sym, ap, inl, inr, ◌∙◌, arith, ⊎_elim}
use Rattle.std.specs.List.{All}
use Rattle.std.proofs.lemmas.Bool.{eq-eqb, eqb-true, ne_eqb}
use Rattle.std.proofs.lemmas.List.Elements.{All-head, All-tail, All-cons}
use Rattle.timer_heap.specs.Dues.{Entry, entry, comes_before, due_of, with_entry, without_key}

pub true_or_false : (b : Bool) → (b ≡ true) ⊎ (b ≡ false)
true_or_false true = inl refl
true_or_false false = inr refl

-- no entry has this key
abbrev pub IsFree : ℕ → List Entry → Type 0
IsFree key entries = All (λ x. x.key ≢ key) entries

-- what is true of each entry is true of that of a key
pub told_is : (P : Entry → Type 0) (key due : ℕ) (xs : List Entry) → All P xs → due_of key xs ≡ Some due → P (entry key due)
told_is P key due [] all told = cc
told_is P key due (x ∷ xs) all told =
    ⊎_elim
    (λ (here : (x.key == key) ≡ true).
    let its : Some x.due ≡ Some due = rw here at told in
    let same_due : x.due ≡ due = cc in
    let same_key : x.key ≡ key = eqb-true x.key key here in
    rw (← same_due, ← same_key) (All-head P x xs all))
    (λ (other : (x.key == key) ≡ false). told_is P key due xs (All-tail P x xs all) (rw other at told))
    (true_or_false (x.key == key))

-- a key without a due time has no entry
pub untold_free : (key : ℕ) (xs : List Entry) → due_of key xs ≡ None → IsFree key xs
untold_free key [] none = λ k d lt. absurd (omega arith)
untold_free key (x ∷ xs) none =
    ⊎_elim
    (λ (here : (x.key == key) ≡ true). let its : Some x.due ≡ None = rw here at none in absurd cc)
    (λ (other : (x.key == key) ≡ false).
    All-cons (λ y. y.key ≢ key) x xs (λ same. let is = eq-eqb x.key key same in cc) (untold_free key xs (rw other at none)))
    (true_or_false (x.key == key))

pub free_untold : (key : ℕ) (xs : List Entry) → IsFree key xs → due_of key xs ≡ None
free_untold key [] free = refl
free_untold key (x ∷ xs) free = rw (ne_eqb x.key key (free 0 x (omega arith))) (free_untold key xs (All-tail (λ y. y.key ≢ key) x xs free))

pub without_free : (key : ℕ) (xs : List Entry) → IsFree key xs → without_key key xs ≡ xs
without_free key [] free = refl
without_free key (x ∷ xs) free =
    let apart : x.key ≢ key = free 0 x (omega arith) in
    rw (ne_eqb x.key key apart) (ap (λ ys. x ∷ ys) (without_free key xs (All-tail (λ y. y.key ≢ key) x xs free)))

pub free_without : (key : ℕ) (xs : List Entry) → IsFree key (without_key key xs)
free_without key [] = λ k d lt. absurd (omega arith)
free_without key (x ∷ xs) =
    ⊎_elim
    (λ (here : (x.key == key) ≡ true). rw here (free_without key xs))
    (λ (other : (x.key == key) ≡ false).
    rw other (All-cons (λ y. y.key ≢ key) x (without_key key xs) (λ same. let is = eq-eqb x.key key same in cc) (free_without key xs)))
    (true_or_false (x.key == key))

pub told_without : (key : ℕ) (xs : List Entry) → due_of key (without_key key xs) ≡ None
told_without key [] = refl
told_without key (x ∷ xs) =
    ⊎_elim
    (λ (here : (x.key == key) ≡ true). rw here (told_without key xs))
    (λ (other : (x.key == key) ≡ false). rw (other, other) (told_without key xs))
    (true_or_false (x.key == key))

pub told_without_other : (key k : ℕ) (xs : List Entry) → k ≢ key → due_of k (without_key key xs) ≡ due_of k xs
told_without_other key k [] apart = refl
told_without_other key k (x ∷ xs) apart =
    ⊎_elim
    (λ (here : (x.key == key) ≡ true).
    let other : (x.key == k) ≡ false = ne_eqb x.key k (λ same. apart (sym same ∙ eqb-true x.key key here)) in
    rw (here, other) (told_without_other key k xs apart))
    (λ (other : (x.key == key) ≡ false).
    ⊎_elim
    (λ (mine : (x.key == k) ≡ true). rw (other, mine) refl)
    (λ (not_mine : (x.key == k) ≡ false). rw (other, not_mine) (told_without_other key k xs apart))
    (true_or_false (x.key == k)))
    (true_or_false (x.key == key))

pub told_with : (e : Entry) (xs : List Entry) → IsFree e.key xs → due_of e.key (with_entry e xs) ≡ Some e.due
told_with e [] free = rw (eq-eqb e.key e.key refl) refl
told_with e (x ∷ xs) free =
    ⊎_elim
    (λ (first : comes_before e x ≡ true). rw (first, eq-eqb e.key e.key refl) refl)
    (λ (later : comes_before e x ≡ false).
    let apart : (x.key == e.key) ≡ false = ne_eqb x.key e.key (free 0 x (omega arith)) in
    rw later (rw apart (told_with e xs (All-tail (λ y. y.key ≢ e.key) x xs free))))
    (true_or_false (comes_before e x))

pub told_with_other : (e : Entry) (k : ℕ) (xs : List Entry) → k ≢ e.key → due_of k (with_entry e xs) ≡ due_of k xs
told_with_other e k [] apart = rw (ne_eqb e.key k (λ same. apart (sym same))) refl
told_with_other e k (x ∷ xs) apart =
    ⊎_elim
    (λ (first : comes_before e x ≡ true). rw (first, ne_eqb e.key k (λ same. apart (sym same))) refl)
    (λ (later : comes_before e x ≡ false).
    ⊎_elim
    (λ (mine : (x.key == k) ≡ true). rw (later, mine) refl)
    (λ (not_mine : (x.key == k) ≡ false). rw (later, not_mine) (told_with_other e k xs apart))
    (true_or_false (x.key == k)))
    (true_or_false (comes_before e x))
