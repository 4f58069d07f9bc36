-- What is read of linked lists, by what they keep.
use Rattle.std.proofs.Common.{◌≡◌, ◌≢◌, ◌==◌, ◌+◌, inl, inr, ℕ, ◌≤◌, ◌<◌, true, false, List, ◌∷◌, Option, None, Some, IfNone, IfSome, length, get_or, refl, sym, ap, ◌∙◌, arith, ⊎_elim}
use Rattle.std.specs.List.{slice_get}
use Rattle.std.proofs.lemmas.Bool.{cases_eq, cases_lt, le-ltb, lt-ltb}
use Rattle.std.proofs.lemmas.List.{get_or_past}
use Rattle.linked_lists.specs.Kept.{AreKept, IsPlaceOf, after_in, before_in, linked_in, lists_in}
use Rattle.linked_lists.specs.Linked.{AreOwned, Linked, IsOf, end_at, is_below, list_of, owner_of, place_after, times}
use Rattle.linked_lists.specs.Nodes.{Arena, IsPlace}
use Rattle.linked_lists.proofs.Ends.{first_none, first_some, next_none, next_some}
use Rattle.linked_lists.proofs.Rings.{after_of, before_of}
use Rattle.linked_lists.proofs.Runs.{tally_most, tally_other, tally_same}
use Rattle.linked_lists.proofs.Walks.{length-lists_from}

module _ (all : Linked) (are : AreOwned all) (s : ℕ) (within : s < length all.lists) where
  abbrev end : ℕ
  end = end_at all s

  -- a list's end isn't in it
  pub own_out : times end (list_of all s) ≡ 0
  own_out =
      let apart : owner_of all end ≢ s = λ e. absurd (omega (arith, within, e, are.own s within)) in
      are.once s end within ∙ tally_other (owner_of all end) s apart

  -- a ring has none twice
  pub ring_once : (q : ℕ) → times q (end ∷ list_of all s) ≤ 1
  ring_once q =
      ⊎_elim
      (λ (same : end ≡ q). omega (arith, ap (λ x. times x (list_of all s)) (sym same) ∙ own_out, tally_same end q same))
      (λ (apart : end ≢ q). omega (arith, are.once s q within, tally_other end q apart, tally_most (owner_of all q == s)))
      (cases_eq end q)

  -- a key of it
  pub in_list : (q : ℕ) → 1 ≤ times q (list_of all s) → owner_of all q ≡ s
  in_list q there =
      ⊎_elim
      (λ (is : owner_of all q ≡ s). is)
      (λ (apart : owner_of all q ≢ s). absurd (omega (arith, there, are.once s q within, tally_other (owner_of all q) s apart)))
      (cases_eq (owner_of all q) s)

  pub once_in : (q : ℕ) → owner_of all q ≡ s → 1 ≤ times q (list_of all s)
  once_in q is = omega (arith, are.once s q within, tally_same (owner_of all q) s is)

  pub there_in : (q : ℕ) → IsOf all s q → q ≢ end → 1 ≤ times q (list_of all s)
  there_in q of apart = ⊎_elim (λ (same : q ≡ end). absurd (apart same)) (λ (is : owner_of all q ≡ s). once_in q is) of

module _ (none : ℕ) (arena : Arena) (owners lens : List ℕ) (kept : AreKept none arena owners lens) where
  abbrev all : Linked
  all = linked_in arena owners lens

  abbrev lists : List (List ℕ)
  lists = lists_in arena lens

  abbrev keys : ℕ
  keys = length arena.numbers

  pub lists_many : length lists ≡ length lens
  lists_many = length-lists_from (after_in arena) keys lens

  pub owned : AreOwned all
  owned = record { once = kept.rings.once; own = kept.rings.ends }

  pub owned_in : (key : ℕ) → owner_of all key < length lists → key < keys
  owned_in key some =
      ⊎_elim
      (λ (within : key < length owners). omega (arith, within, kept.sized))
      (λ (past : length owners ≤ key). absurd (omega (arith, some, get_or_past owners key (length lists) past)))
      (cases_lt key (length owners))

  pub of_in : (s a : ℕ) → s < length lists → IsOf all s a → a < length arena.after
  of_in s a within of =
      ⊎_elim
      (λ (same : a ≡ keys + s). omega (arith, within, same, lists_many, kept.on_many))
      (λ (is : owner_of all a ≡ s). omega (arith, owned_in a (omega (arith, is, within)), kept.on_many))
      of

  pub end_in : (s : ℕ) → s < length lists → keys + s < length arena.after
  end_in s within = omega (arith, within, lists_many, kept.on_many)

  pub place_in : (p : ℕ) → IsPlaceOf all p → IsPlace arena p
  place_in p is = let total : keys + length lists ≡ length arena.after = omega (arith, lists_many, kept.on_many) in rw total at is

  pub place_of : (p : ℕ) → IsPlace arena p → IsPlaceOf all p
  place_of p is = let total : keys + length lists ≡ length arena.after = omega (arith, lists_many, kept.on_many) in rw total is

  pub after_of_list : (s a : ℕ) → s < length lists → IsOf all s a → IsOf all s (after_in arena a)
  after_of_list = after_of keys (after_in arena) (before_in arena) (owner_of all) lists kept.rings

  pub before_of_list : (s b : ℕ) → s < length lists → IsOf all s b → IsOf all s (before_in arena b)
  before_of_list = before_of keys (after_in arena) (before_in arena) (owner_of all) lists kept.rings

  -- of a list, and behind the keys
  pub of_end : (s a : ℕ) → s < length lists → IsOf all s a → keys ≤ a → a ≡ keys + s
  of_end s a within of far =
      ⊎_elim
      (λ (same : a ≡ keys + s). same)
      (λ (is : owner_of all a ≡ s). absurd (omega (arith, far, owned_in a (omega (arith, is, within)))))
      of

  pub none_first : (s : ℕ) → s < length lists → keys ≤ after_in arena (keys + s) → None ≡ slice_get (list_of all s) 0
  none_first s within far =
      let is = of_end s (after_in arena (keys + s)) within (after_of_list s (keys + s) within (inl refl)) far in
      sym (first_none (after_in arena) (before_in arena) (keys + s) (keys + s) (list_of all s) (kept.rings.ring s within) (own_out all owned s within) is)

  pub some_first : (s : ℕ) → s < length lists → after_in arena (keys + s) < keys → Some (after_in arena (keys + s)) ≡ slice_get (list_of all s) 0
  some_first s within is = sym (first_some (after_in arena) (before_in arena) (keys + s) (keys + s) (list_of all s) (kept.rings.ring s within) (λ e. absurd (omega (arith, is, e))))

  pub there : (p : ℕ) → owner_of all p < length lists → 0 < times p (list_of all (owner_of all p))
  there p some = omega (arith, kept.rings.once (owner_of all p) p some, tally_same (owner_of all p) (owner_of all p) refl)

  pub none_after : (p : ℕ) → owner_of all p < length lists → keys ≤ after_in arena p → None ≡ place_after p (list_of all (owner_of all p))
  none_after p some far =
      let s = owner_of all p in
      let is = of_end s (after_in arena p) some (after_of_list s p some (inr refl)) far in
      sym (next_none (after_in arena) (before_in arena) (keys + s) (keys + s) p (list_of all s) (kept.rings.ring s some) (there p some) (own_out all owned s some) is)

  pub some_after : (p : ℕ) → owner_of all p < length lists → after_in arena p < keys → Some (after_in arena p) ≡ place_after p (list_of all (owner_of all p))
  some_after p some near =
      let s = owner_of all p in
      let apart : after_in arena p ≢ keys + s = λ e. absurd (omega (arith, near, e)) in
      sym (next_some (after_in arena) (before_in arena) (keys + s) (keys + s) p (list_of all s) (kept.rings.ring s some) (there p some) apart)

-- the key at a place, if it is a key's
pub key_or_end : (r : Option ℕ) (keys c : ℕ) (x : Option ℕ) → IfSome r (λ key. key ≡ c) → IfSome r (λ key. key < keys) → IfNone r (keys ≤ c) → (c < keys → Some c ≡ x) → (keys ≤ c → None ≡ x) → r ≡ x
key_or_end None keys c x is within far some none = none far
key_or_end (Some key) keys c x is within far some none = ap Some is ∙ some (omega (arith, is, within))

-- a number that was read tells whether it is below another
module _ (numbers : List ℕ) (number at n : ℕ) (read : n ≡ get_or numbers at 0) where
  pub below_read : n < number → is_below numbers number at ≡ true
  below_read lt = lt-ltb _ _ (omega (arith, lt, read))

  pub not_below_read : number ≤ n → is_below numbers number at ≡ false
  not_below_read le = le-ltb _ _ (omega (arith, le, read))
