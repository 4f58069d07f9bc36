-- The least member that operates, as the callbacks are gone along.
use Rattle.std.proofs.Common.{◌≡◌, ℕ, zero, suc, ◌+◌, ◌<◌, ◌≤◌, Bool, true, false, cond, ◌&&◌, ◌||◌, ◌==◌, List, [], ◌∷◌, length, nat_lt, Option, None, Some, refl, sym, ap, ◌∙◌, arith, find, eqb-true, lt-ltb, le-ltb}
use Rattle.std.specs.List.{list_any, range_with_len}
use Rattle.std.proofs.lemmas.Bool.{eqb-false, ltb-true, ltb-false}
use Rattle.tp_base.specs.declared.rows.CallbackRow.{CallbackRow}
use Rattle.tp_model.specs.World.{World}
use Rattle.tp_model.specs.Counts.{is_operating}
use Rattle.tp_model.specs.Conditions.{is_operation_of}
use Rattle.tp_model.specs.Groups.{first_operating, is_member, is_member_at, numbers_in}
use Rattle.tp_model.specs.Support.Sound.{IsRising}
use Rattle.tp_model.proofs.Lists.{find_agree}
use Rattle.tp_model.proofs.Refusals.{and_false, false_true}
use Rattle.tp_model.proofs.Releasing.{that_made}
use Rattle.live_world.specs.Closing.{lesser, operates}
use Rattle.live_world.proofs.Along.{after_of, number_of, row_at, first_row_is}
use Rattle.live_world.proofs.GroupWalks.{at_first}
use Rattle.live_world.proofs.Walks.{rest, IsAmong}

or_false : (b : Bool) → (b || false) ≡ b
or_false true = refl
or_false false = refl

strictly : (a b : ℕ) → a ≤ b → (a ≡ b → ⊥) → a < b
strictly a b le other = known (nat_lt a b) refl
  where
    known : (l : Bool) → nat_lt a b ≡ l → a < b
    known true e = ltb-true a b e
    known false e = absurd (other (omega (arith, le, ltb-false a b e)))

or_assoc : (a b c : Bool) → ((a || b) || c) ≡ (a || (b || c))
or_assoc true b c = refl
or_assoc false b c = refl

found_above : (q : ℕ → Bool) (low count n : ℕ) → find q (range_with_len low count) ≡ Some n → low ≤ n
found_above q low zero n e = absurd cc
found_above q low (suc count) n e =
    elim (q low) as (λ b. cond b (Some low) (find q (range_with_len (low + 1) count)) ≡ Some n → low ≤ n) [
      | true ↦ λ here. (let same : low ≡ n = cc in omega (arith, same))
      | false ↦ λ later. omega (arith, found_above q (low + 1) count n later)
    ] e

lesser_above : (least : Option ℕ) (n : ℕ) → ((m : ℕ) → least ≡ Some m → n < m) → lesser least n ≡ Some n
lesser_above None n above = refl
lesser_above (Some m) n above = ap (λ b. cond b (Some n) (Some m)) (lt-ltb n m (above m refl))

lesser_below : (m n : ℕ) → m ≤ n → lesser (Some m) n ≡ Some m
lesser_below m n le = ap (λ b. cond b (Some n) (Some m)) (le-ltb n m le)

module _ (w : World) (group : ℕ) where
  -- the least of those that operate by what is known, and by these callbacks
  abbrev pub least_after : Option ℕ → List CallbackRow → Option ℕ
  least_after least [] = least
  least_after least (c ∷ cs) = least_after (cond (operates w.objects group c) (lesser least c.object.0) least) cs

  -- one member more, which was made
  one_more : (t : ℕ → Bool) (k : ℕ) → is_member_at w group k ≡ true → (low count : ℕ) → low ≤ k → k < low + count
      → lesser (find (λ n. is_member_at w group n && t n) (range_with_len low count)) k ≡ find (λ n. is_member_at w group n && (t n || (k == n))) (range_with_len low count)
  one_more t k is low zero le lt = absurd (omega (arith, le, lt))
  one_more t k is low (suc count) le lt =
      elim (k == low) as (λ b. (k == low) ≡ b → lesser (cond (is_member_at w group low && t low) (Some low) behind) k ≡ cond (is_member_at w group low && (t low || b)) (Some low) found) [
        | true ↦ λ e. here (eqb-true k low e) (is_member_at w group low) (t low) (ap (is_member_at w group) (sym (eqb-true k low e)) ∙ is)
        | false ↦ λ e. ahead (strictly low k le (λ same. eqb-false k low e (sym same))) (is_member_at w group low && t low) (ap (λ b. is_member_at w group low && b) (or_false (t low))) (λ more. one_more t k is (low + 1) count more (omega (arith, lt)))
      ] refl
    where
      behind : Option ℕ
      behind = find (λ n. is_member_at w group n && t n) (range_with_len (low + 1) count)

      found : Option ℕ
      found = find (λ n. is_member_at w group n && (t n || (k == n))) (range_with_len (low + 1) count)

      here : k ≡ low → (m b : Bool) → m ≡ true → lesser (cond (m && b) (Some low) behind) k ≡ cond (m && (b || true)) (Some low) found
      here same true true e = lesser_below low k (omega (arith, same))
      here same true false e = lesser_above behind k (λ n at. omega (arith, same, found_above (λ n. is_member_at w group n && t n) (low + 1) count n at)) ∙ ap Some same
      here same false b e = absurd (false_true e)

      ahead : low < k → (b : Bool) → {c : Bool} → c ≡ b → (low + 1 ≤ k → lesser behind k ≡ found) → lesser (cond b (Some low) behind) k ≡ cond c (Some low) found
      ahead more true e later = lesser_below low k (omega (arith, more)) ∙ ap (λ x. cond x (Some low) found) (sym e)
      ahead more false e later = later (omega (arith, more)) ∙ ap (λ x. cond x (Some low) found) (sym e)

  -- one callback more
  one : (t : ℕ → Bool) (c : CallbackRow)
      → cond (operates w.objects group c) (lesser (find (λ n. is_member_at w group n && t n) (numbers_in w.objects)) c.object.0) (find (λ n. is_member_at w group n && t n) (numbers_in w.objects)) ≡ find (λ n. is_member_at w group n && (t n || is_operation_of n c)) (numbers_in w.objects)
  one t c = of (is_operating c.status)
    where
      k : ℕ
      k = c.object.0

      before : Option ℕ
      before = find (λ n. is_member_at w group n && t n) (numbers_in w.objects)

      aside : (n : ℕ) → is_member_at w group k ≡ false → (is_member_at w group n && t n) ≡ (is_member_at w group n && (t n || (k == n)))
      aside n out =
          elim (k == n) as (λ b. (k == n) ≡ b → (is_member_at w group n && t n) ≡ (is_member_at w group n && (t n || b))) [
            | true ↦ λ e. let gone : is_member_at w group n ≡ false = ap (is_member_at w group) (sym (eqb-true k n e)) ∙ out in ap (λ m. m && t n) gone ∙ sym (ap (λ m. m && (t n || true)) gone)
            | false ↦ λ _. ap (λ b. is_member_at w group n && b) (sym (or_false (t n)))
          ] refl

      of_member : (m : Bool) → is_member_at w group k ≡ m → cond m (lesser before k) before ≡ find (λ n. is_member_at w group n && (t n || (k == n))) (numbers_in w.objects)
      of_member true is = let made = that_made (is_member group) w.objects k is in one_more t k is 1 (length w.objects) made.0 (omega (arith, made.1))
      of_member false out = find_agree (λ n. is_member_at w group n && t n) (λ n. is_member_at w group n && (t n || (k == n))) (λ n. aside n out) (numbers_in w.objects)

      of : (b : Bool) → cond (b && is_member_at w group k) (lesser before k) before ≡ find (λ n. is_member_at w group n && (t n || (b && (k == n)))) (numbers_in w.objects)
      of true = of_member (is_member_at w group k) refl
      of false = find_agree (λ n. is_member_at w group n && t n) (λ n. is_member_at w group n && (t n || false)) (λ n. ap (λ b. is_member_at w group n && b) (sym (or_false (t n)))) (numbers_in w.objects)

  leasts : (t : ℕ → Bool) (cs : List CallbackRow) → least_after (find (λ n. is_member_at w group n && t n) (numbers_in w.objects)) cs ≡ find (λ n. is_member_at w group n && (t n || list_any (is_operation_of n) cs)) (numbers_in w.objects)
  leasts t [] = find_agree (λ n. is_member_at w group n && t n) (λ n. is_member_at w group n && (t n || false)) (λ n. ap (λ b. is_member_at w group n && b) (sym (or_false (t n)))) (numbers_in w.objects)
  leasts t (c ∷ cs) =
      ap (λ o. least_after o cs) (one t c)
      ∙ leasts (λ n. t n || is_operation_of n c) cs
      ∙ find_agree (λ n. is_member_at w group n && ((t n || is_operation_of n c) || list_any (is_operation_of n) cs)) (λ n. is_member_at w group n && (t n || (is_operation_of n c || list_any (is_operation_of n) cs)))
      (λ n. ap (λ b. is_member_at w group n && b) (or_assoc (t n) (is_operation_of n c) (list_any (is_operation_of n) cs))) (numbers_in w.objects)

  least_is : least_after None w.callbacks ≡ first_operating w group
  least_is = ap (λ o. least_after o w.callbacks) (sym (none (numbers_in w.objects))) ∙ leasts (λ _. false) w.callbacks
    where
      none : (ns : List ℕ) → find (λ n. is_member_at w group n && false) ns ≡ None
      none [] = refl
      none (n ∷ ns) = ap (λ b. cond b (Some n) (find (λ m. is_member_at w group m && false) ns)) (and_false (is_member_at w group n)) ∙ none ns

  -- where no operation is expected or under way, none operates
  pub none_operates : list_any (λ (c : CallbackRow). is_operating c.status) w.callbacks ≡ false → None ≡ first_operating w group
  none_operates none = sym (idle w.callbacks none) ∙ least_is
    where
      idle : (cs : List CallbackRow) → list_any (λ (c : CallbackRow). is_operating c.status) cs ≡ false → least_after None cs ≡ None
      idle [] e = refl
      idle (c ∷ cs) e =
          elim (is_operating c.status) as (λ b. (b || list_any (λ (x : CallbackRow). is_operating x.status) cs) ≡ false → least_after (cond (b && is_member_at w group c.object.0) (lesser None c.object.0) None) cs ≡ None) [
            | true ↦ λ h. absurd cc
            | false ↦ λ h. idle cs h
          ] e

-- so far the least is known, and these are left
pub record LeastSoFar (w : World) (group : ℕ) (next : Option CallbackRow) (least : Option ℕ) : Type 0 where
  pub left : least_after w group least (rest number_of w.callbacks next) ≡ first_operating w group
  pub among : IsAmong number_of w.callbacks next

pub least_first : (w : World) (group next_number : ℕ) (next : Option CallbackRow) → IsRising 1 next_number w.callbacks → next ≡ find (λ (c : CallbackRow). nat_lt 0 c.number) w.callbacks → LeastSoFar w group next None
least_first w group next_number next rising found =
    let at = at_first next_number w.callbacks next rising (first_row_is next_number w.callbacks next rising found) in
    record { left = ap (least_after w group None) at.whole ∙ least_is w group; among = at.among }

pub record LeastNext (w : World) (group : ℕ) (c : CallbackRow) (next : Option CallbackRow) (least : Option ℕ) : Type 0 where
  pub goes_on : (after : Option CallbackRow) (more : Option ℕ) → after ≡ after_of w.callbacks c → more ≡ cond (operates w.objects group c) (lesser least c.object.0) least → LeastSoFar w group after more
  pub later : (after : Option CallbackRow) → after ≡ after_of w.callbacks c → length (rest number_of w.callbacks after) < length (rest number_of w.callbacks next)

pub least_next : (w : World) (group next_number : ℕ) (c : CallbackRow) (next : Option CallbackRow) (least : Option ℕ) → IsRising 1 next_number w.callbacks → next ≡ Some c → LeastSoFar w group next least → LeastNext w group c next least
least_next w group next_number c next least rising is k =
    let at = row_at next_number w.callbacks c next rising is k.among in
    record {
      goes_on = λ after more found one. record {
        left = ap (λ o. least_after w group o (rest number_of w.callbacks after)) one ∙ ap (least_after w group least) (sym (at.step after found)) ∙ k.left;
        among = at.among after found;
      };
      later = at.later;
    }
