-- Callbacks that are kept, gone along one after another: all of them, or those of one group.
use Rattle.std.proofs.Common.{◌≡◌, ℕ, ◌+◌, ◌<◌, ◌≤◌, Bool, true, false, cond, not, ◌&&◌, ◌||◌, ◌==◌, List, [], ◌∷◌, length, slice_get, Option, Some, None, refl, sym, ap, ap₂, ◌∙◌, subst, arith, filter, find, option_map, eqb-true, eq-eqb}
use Rattle.std.specs.List.{AllByRecursion}
use Rattle.std.proofs.lemmas.List.{length-map}
use Rattle.tp_base.specs.declared.ids.GroupId.{GroupId}
use Rattle.tp_base.specs.declared.rows.Status.{Status}
use Rattle.tp_base.specs.declared.rows.Status.TheVariants.{Expected, Issued, Pending, Running, Returned, Cancelled}
use Rattle.tp_base.specs.declared.rows.CallbackRow.{CallbackRow}
use Rattle.tp_base.specs.declared.rows.WaitTarget.TheVariants.{Group}
use Rattle.tp_model.specs.World.{World}
use Rattle.tp_model.specs.Counts.{has_number, is_live, is_pending, is_running}
use Rattle.tp_model.specs.Changes.{replaced, with_callback}
use Rattle.tp_model.specs.Support.Sound.{IsRising}
use Rattle.tp_model.specs.Support.Remembered.{lives, forget}
use Rattle.tp_model.specs.Waits.{is_cancelled_by, is_covered_by, is_held_for, cancelled, cancel_where, covered_of as covered_among}
use Rattle.tp_model.proofs.Lists.{all_along, filter_agree, filter_filter, find_all}
use Rattle.tp_model.proofs.Callbacks.{filter_replaced_out, rising_filter}
use Rattle.tp_model.proofs.Forgetting.{over_not_cancelled}
use Rattle.tp_model.proofs.Refusals.{both, and_false, false_true}
use Rattle.live_world.specs.Closing.{is_of_group, settled_group}
use Rattle.live_world.specs.Live.{Live, with_world}
use Rattle.live_world.proofs.Along.{after_of, number_of, and_swap, first_filtered, looked_up, row_at, rows_rise}
use Rattle.live_world.proofs.Cancelled.{none_where, nothing_left, settles_alike, behind, still_among}
use Rattle.live_world.proofs.Lists.{all_pass, filter_alike, filter_both}
use Rattle.live_world.proofs.Walks.{rest, IsAmong, rest_first, first_among, rest_without, passing_without, Onward}

-- ---- from the first on

pub record AtFirst (cs : List CallbackRow) (next : Option CallbackRow) : Type 0 where
  pub whole : rest number_of cs next ≡ cs
  pub among : IsAmong number_of cs next

pub at_first : (next_number : ℕ) (cs : List CallbackRow) (next : Option CallbackRow) → IsRising 1 next_number cs → next ≡ slice_get cs 0 → AtFirst cs next
at_first next_number cs next rising is =
    record {
      whole = ap (rest number_of cs) is ∙ rest_first number_of 1 cs (rows_rise 1 next_number cs rising);
      among = subst (IsAmong number_of cs) (sym is) (first_among number_of cs);
    }

-- ---- those of one group, gone along

-- one of them is among all that are kept, and the next of its group is the next of them
pub record InGroup (group : GroupId) (kept cs : List CallbackRow) (c : CallbackRow) : Type 0 where
  pub there : find (has_number c.number) kept ≡ Some c
  pub next : (after : Option CallbackRow) → after ≡ after_of (filter (is_of_group c.group) kept) c → after ≡ after_of (filter (is_of_group group) cs) c

pub in_group : (group : GroupId) (next_number : ℕ) (kept cs : List CallbackRow) (c : CallbackRow) (next : Option CallbackRow) → kept ≡ cs → IsRising 1 next_number cs → next ≡ Some c → IsAmong number_of (filter (is_of_group group) cs) next → InGroup group kept cs c
in_group group next_number kept cs c next same rising is among =
    let ds : List CallbackRow = filter (is_of_group group) cs in
    let found : find (has_number c.number) ds ≡ Some c = subst (IsAmong number_of ds) is among in
    let of_group : is_of_group group c ≡ true = find_all (λ x. is_of_group group x ≡ true) (has_number c.number) c ds (all_pass (is_of_group group) cs) found in
    record {
      there = ap (find (has_number c.number)) same ∙ looked_up next_number cs (is_of_group group) (has_number c.number) c.number rising (ap (option_map number_of) found) ∙ found;
      next = λ after e. e ∙ ap₂ (λ (xs : List CallbackRow) (n : ℕ). after_of (filter (λ (x : CallbackRow). x.group.0 == n) xs) c) same (eqb-true c.group.0 group.0 of_group);
    }

-- ---- what passes two tests is counted

pub record CountingRows (p q : CallbackRow → Bool) (cs : List CallbackRow) (next : Option CallbackRow) (all some : ℕ) : Type 0 where
  pub all_counted : all + length (filter p (rest number_of cs next)) ≡ length (filter p cs)
  pub some_counted : some + length (filter q (rest number_of cs next)) ≡ length (filter q cs)
  pub within : some ≤ all
  pub few : all + length (rest number_of cs next) ≤ length cs
  pub among : IsAmong number_of cs next

pub counting_rows : (p q : CallbackRow → Bool) (next_number : ℕ) (cs : List CallbackRow) (next : Option CallbackRow) → IsRising 1 next_number cs → next ≡ slice_get cs 0 → CountingRows p q cs next 0 0
counting_rows p q next_number cs next rising found =
    let a = at_first next_number cs next rising found in
    record {
      all_counted = omega (arith, ap (λ ds. length (filter p ds)) a.whole);
      some_counted = omega (arith, ap (λ ds. length (filter q ds)) a.whole);
      within = omega arith;
      few = omega (arith, ap length a.whole);
      among = a.among;
    }

more_of : (p : CallbackRow → Bool) (c : CallbackRow) (ds : List CallbackRow) → length (filter p (c ∷ ds)) ≡ cond (p c) 1 0 + length (filter p ds)
more_of p c ds = elim (p c) as (λ b. length (cond b (c ∷ filter p ds) (filter p ds)) ≡ cond b 1 0 + length (filter p ds)) [ true ↦ omega arith | false ↦ omega arith ]

pub record CountsRow (p q : CallbackRow → Bool) (cs : List CallbackRow) (c : CallbackRow) (next : Option CallbackRow) (all some : ℕ) : Type 0 where
  pub at : Onward number_of cs c next
  pub fewer : all < length cs
  pub goes_on : (after : Option CallbackRow) (more further : ℕ) → after ≡ after_of cs c → more ≡ all + cond (p c) 1 0 → further ≡ some + cond (q c) 1 0 → (q c ≡ true → p c ≡ true) → CountingRows p q cs after more further

pub counts_row : (p q : CallbackRow → Bool) (next_number : ℕ) (cs : List CallbackRow) (c : CallbackRow) (next : Option CallbackRow) (all some : ℕ) → IsRising 1 next_number cs → next ≡ Some c → CountingRows p q cs next all some → CountsRow p q cs c next all some
counts_row p q next_number cs c next all some rising is k =
    let at = row_at next_number cs c next rising is k.among in
    record {
      at = at;
      fewer = omega (arith, k.few, ap length (at.step (after_of cs c) refl));
      goes_on = λ after more further found is_more is_further part. record {
        all_counted = omega (arith, k.all_counted, ap (λ ds. length (filter p ds)) (at.step after found), more_of p c (rest number_of cs after), is_more);
        some_counted = omega (arith, k.some_counted, ap (λ ds. length (filter q ds)) (at.step after found), more_of q c (rest number_of cs after), is_further);
        within = omega (arith, k.within, is_more, is_further, part_of (p c) (q c) part);
        few = omega (arith, k.few, ap length (at.step after found), is_more, one (p c));
        among = at.among after found;
      };
    }
  where
    part_of : (a b : Bool) → (b ≡ true → a ≡ true) → cond b 1 0 ≤ cond a 1 0
    part_of true true h = omega arith
    part_of true false h = omega arith
    part_of false false h = omega arith
    part_of false true h = absurd (false_true (h refl))

    one : (a : Bool) → cond a 1 0 ≤ 1
    one true = omega arith
    one false = omega arith

-- ---- what is pending of a group is cancelled

-- what is not of the group is not cancelled
pub over_not_of_group : (group : GroupId) (c : CallbackRow) → is_of_group group c ≡ false → is_cancelled_by (Group group) true c ≡ false
over_not_of_group group c e = ap (λ b. is_pending c.status && b) e ∙ and_false (is_pending c.status)

-- what is left to cancel leads to where all of it leads, and none of it stands before the next
pub record CancellingGroup (group : GroupId) (before now : Live) (next : Option CallbackRow) : Type 0 where
  pub leads : settled_group now group true ≡ settled_group before group true
  pub left : filter (is_cancelled_by (Group group) true) (rest number_of (filter (is_of_group group) now.world.callbacks) next) ≡ filter (is_cancelled_by (Group group) true) now.world.callbacks
  pub among : IsAmong number_of (filter (is_of_group group) now.world.callbacks) next

pub cancelling_group : (group : GroupId) (next_number : ℕ) (now : Live) (next : Option CallbackRow) → IsRising 1 next_number now.world.callbacks → next ≡ find (is_of_group group) now.world.callbacks → CancellingGroup group now now next
cancelling_group group next_number now next rising found =
    let cs : List CallbackRow = now.world.callbacks in
    let a = at_first next_number (filter (is_of_group group) cs) next (rising_filter (is_of_group group) 1 next_number cs rising) (found ∙ first_filtered (is_of_group group) cs) in
    record {
      leads = refl;
      left = ap (filter (is_cancelled_by (Group group) true)) a.whole ∙ filter_filter (is_cancelled_by (Group group) true) (is_of_group group) (over_not_of_group group) cs;
      among = a.among;
    }

-- where nothing is left, all of it is cancelled
pub group_cancelled : (group : GroupId) (before now : Live) (next : Option CallbackRow) → next ≡ None → forget now.world ≡ now.world → CancellingGroup group before now next → now ≡ settled_group before group true
group_cancelled group before now next ends living k =
    let t : CallbackRow → Bool = is_cancelled_by (Group group) true in
    let none : filter t now.world.callbacks ≡ [] = sym k.left ∙ ap (λ o. filter t (rest number_of (filter (is_of_group group) now.world.callbacks) o)) ends in
    nothing_left (Group group) now living none ∙ k.leads

pub record CancelsRow (group : GroupId) (before now : Live) (c : CallbackRow) (next : Option CallbackRow) : Type 0 where
  pub there : find (has_number c.number) now.world.callbacks ≡ Some c
  pub at : Onward number_of (filter (is_of_group group) now.world.callbacks) c next
  pub passed : is_pending c.status ≡ false → (after : Option CallbackRow) → after ≡ after_of (filter (is_of_group group) now.world.callbacks) c → CancellingGroup group before now after
  pub cancels : is_pending c.status ≡ true → (after : Option CallbackRow) → after ≡ after_of (filter (is_of_group group) now.world.callbacks) c → (new : Live) → new ≡ with_world now (with_callback now.world (cancelled c)) → CancellingGroup group before new after
  -- as much is left without it
  pub same : (after : Option CallbackRow) → after ≡ after_of (filter (is_of_group group) now.world.callbacks) c → (new : Live)
      → new ≡ with_world now (with_callback now.world (cancelled c))
      → rest number_of (filter (is_of_group group) new.world.callbacks) after ≡ rest number_of (filter (is_of_group group) now.world.callbacks) after

module _ (group : GroupId) (next_number : ℕ) (now : Live) (c : CallbackRow) (rising : IsRising 1 next_number now.world.callbacks) (living : forget now.world ≡ now.world) where
  abbrev cs : List CallbackRow
  cs = now.world.callbacks

  abbrev ys : List CallbackRow
  ys = filter (is_of_group group) cs

  abbrev r : CallbackRow
  r = cancelled c

  abbrev t : CallbackRow → Bool
  t = is_cancelled_by (Group group) true

  abbrev others : CallbackRow → Bool
  others x = not (has_number c.number x)

  -- what is kept without it
  kept : (new : Live) → new ≡ with_world now (with_callback now.world r) → new.world.callbacks ≡ filter others cs
  kept new is = ap (λ (l : Live). l.world.callbacks) is ∙ filter_replaced_out lives r cs refl ∙ ap (λ (w : World). filter others w.callbacks) living

  rows_kept : (new : Live) → new ≡ with_world now (with_callback now.world r) → filter (is_of_group group) new.world.callbacks ≡ filter others ys
  rows_kept new is =
      ap (filter (is_of_group group)) (kept new is) ∙ filter_both (is_of_group group) others cs
      ∙ filter_agree (λ x. others x && is_of_group group x) (λ x. is_of_group group x && others x) (λ x. and_swap (others x) (is_of_group group x)) cs
      ∙ sym (filter_both others (is_of_group group) cs)

  passing : (new : Live) → new ≡ with_world now (with_callback now.world r) → filter t new.world.callbacks ≡ filter others (filter t cs)
  passing new is = ap (λ (l : Live). filter t l.world.callbacks) is ∙ filter_filter t lives (over_not_cancelled (Group group) true) (replaced r cs) ∙ filter_replaced_out t r cs refl

  same_rest : (after : Option CallbackRow) → after ≡ after_of ys c → (new : Live) → new ≡ with_world now (with_callback now.world r) → rest number_of (filter (is_of_group group) new.world.callbacks) after ≡ rest number_of ys after
  same_rest after found new is = ap (λ xs. rest number_of xs after) (rows_kept new is) ∙ rest_without number_of c.number ys after (behind c ys after found)

  pub cancels_row : (before : Live) (next : Option CallbackRow) → next ≡ Some c → CancellingGroup group before now next → CancelsRow group before now c next
  cancels_row before next is k =
      record {
        there = there;
        at = at;
        passed = λ stays after found.
            let out : t c ≡ false = ap (λ b. b && is_of_group group c) stays in
            record {
              leads = k.leads;
              left = ap (λ b. cond b (c ∷ filter t (rest number_of ys after)) (filter t (rest number_of ys after))) (sym out) ∙ ap (filter t) (sym (at.step after found)) ∙ k.left;
              among = at.among after found;
            };
        cancels = λ pends after found new becomes. record {
          leads = settles_alike (Group group) next_number now c rising (passes pends) there new becomes ∙ k.leads;
          left = left (passes pends) after found new becomes;
          among = subst (λ xs. IsAmong number_of xs after) (sym (rows_kept new becomes)) (still_among c ys after (behind c ys after found) (at.among after found));
        };
        same = same_rest;
      }
    where
      at : Onward number_of ys c next
      at = row_at next_number ys c next (rising_filter (is_of_group group) 1 next_number cs rising) is k.among

      there : find (has_number c.number) cs ≡ Some c
      there = (in_group group next_number cs cs c next refl rising is k.among).there

      passes : is_pending c.status ≡ true → t c ≡ true
      passes pends = ap₂ (λ a b. a && b) pends (find_all (λ x. is_of_group group x ≡ true) (has_number c.number) c ys (all_pass (is_of_group group) cs) at.found)

      left : t c ≡ true → (after : Option CallbackRow) → after ≡ after_of ys c → (new : Live) → new ≡ with_world now (with_callback now.world r) → filter t (rest number_of (filter (is_of_group group) new.world.callbacks) after) ≡ filter t new.world.callbacks
      left passed after found new becomes =
          let tail : List CallbackRow = filter t (rest number_of ys after) in
          let whole : c ∷ tail ≡ filter t cs = ap (λ b. cond b (c ∷ tail) tail) (sym passed) ∙ ap (filter t) (sym (at.step after found)) ∙ k.left in
          ap (filter t) (same_rest after found new becomes)
          ∙ sym (passing_without number_of c.number t ys after (behind c ys after found))
          ∙ ap (λ b. cond b (c ∷ filter others tail) (filter others tail)) (sym (ap not (eq-eqb c.number c.number refl)))
          ∙ ap (filter others) whole
          ∙ sym (passing new becomes)

-- ---- how many a close covers, and how many it cancels

-- what is cancelled is of the group
pub cancelled_of_group : (group : GroupId) (c : CallbackRow) → is_cancelled_by (Group group) true c ≡ true → is_of_group group c ≡ true
cancelled_of_group group c e = (both (is_pending c.status) (c.group.0 == group.0) e).1

-- what it covers and what it cancels are all of the group
pub covers_left : (group : GroupId) (cs : List CallbackRow) → filter lives cs ≡ cs
    → length (covered_among (Group group) true (cancel_where (is_cancelled_by (Group group) true) cs)) + length (filter (is_cancelled_by (Group group) true) cs) ≡ length (filter (is_of_group group) cs)
covers_left group cs living = ap (λ n. n + length (filter t cs)) (length-map (filter (is_covered_by (Group group) true) (cancel_where t cs)) number_of) ∙ each cs (subst (AllByRecursion (λ c. lives c ≡ true)) living (all_pass lives cs))
  where
    t : CallbackRow → Bool
    t = is_cancelled_by (Group group) true

    one : (b : Bool) (s : Status) → is_live s ≡ true → (x y z : CallbackRow) (xs ys zs : List CallbackRow) → length xs + length ys ≡ length zs
        → length (cond (cond (is_pending s && b) (b && false) ((b && is_held_for (Group group) s) && (is_running s || true))) (x ∷ xs) xs) + length (cond (is_pending s && b) (y ∷ ys) ys) ≡ length (cond b (z ∷ zs) zs)
    one true Expected live x y z xs ys zs e = omega (arith, e)
    one false Expected live x y z xs ys zs e = e
    one true Issued live x y z xs ys zs e = omega (arith, e)
    one false Issued live x y z xs ys zs e = e
    one true Pending live x y z xs ys zs e = omega (arith, e)
    one false Pending live x y z xs ys zs e = e
    one true (Running worker associated slots) live x y z xs ys zs e = omega (arith, e)
    one false (Running worker associated slots) live x y z xs ys zs e = e
    one b Returned live x y z xs ys zs e = absurd cc
    one b Cancelled live x y z xs ys zs e = absurd cc

    row : (d : CallbackRow) → is_covered_by (Group group) true (cond (t d) (cancelled d) d) ≡ cond (t d) ((d.group.0 == group.0) && false) (((d.group.0 == group.0) && is_held_for (Group group) d.status) && (is_running d.status || true))
    row d = elim (t d) as (λ x. is_covered_by (Group group) true (cond x (cancelled d) d) ≡ cond x ((d.group.0 == group.0) && false) (((d.group.0 == group.0) && is_held_for (Group group) d.status) && (is_running d.status || true))) [ true ↦ none (d.group.0 == group.0) | false ↦ refl ]
      where
        none : (b : Bool) → ((b && false) && true) ≡ (b && false)
        none true = refl
        none false = refl

    each : (ds : List CallbackRow) → AllByRecursion (λ c. lives c ≡ true) ds → length (filter (is_covered_by (Group group) true) (cancel_where t ds)) + length (filter t ds) ≡ length (filter (is_of_group group) ds)
    each [] all = omega arith
    each (d ∷ ds) all =
        ap (λ b. length (cond b (cond (t d) (cancelled d) d ∷ filter (is_covered_by (Group group) true) (cancel_where t ds)) (filter (is_covered_by (Group group) true) (cancel_where t ds))) + length (filter t (d ∷ ds))) (row d)
        ∙ one (d.group.0 == group.0) d.status all.0 (cond (t d) (cancelled d) d) d d _ _ _ (each ds all.1)

-- without cancel all of them are covered, and none is cancelled
pub covers_whole : (group : GroupId) (cs : List CallbackRow) → filter lives cs ≡ cs → length (covered_among (Group group) false (cancel_where (is_cancelled_by (Group group) false) cs)) ≡ length (filter (is_of_group group) cs)
covers_whole group cs living =
    ap (λ ds. length (covered_among (Group group) false ds)) (none_where cs (is_cancelled_by (Group group) false) (none cs))
    ∙ length-map (filter (is_covered_by (Group group) false) cs) number_of
    ∙ ap length (filter_alike (is_covered_by (Group group) false) (is_of_group group) cs (all_along (λ c. lives c ≡ true) (λ c. is_covered_by (Group group) false c ≡ is_of_group group c) one cs (subst (AllByRecursion (λ c. lives c ≡ true)) living (all_pass lives cs))))
  where
    none : (ds : List CallbackRow) → AllByRecursion (λ c. is_cancelled_by (Group group) false c ≡ false) ds
    none [] = tt
    none (d ∷ ds) = (refl, none ds)

    held : (b : Bool) (s : Status) → is_live s ≡ true → ((b && is_held_for (Group group) s) && (is_running s || true)) ≡ b
    held true Expected e = refl
    held true Issued e = refl
    held true Pending e = refl
    held true (Running worker associated slots) e = refl
    held true Returned e = absurd cc
    held true Cancelled e = absurd cc
    held false s e = refl

    one : (c : CallbackRow) → lives c ≡ true → is_covered_by (Group group) false c ≡ is_of_group group c
    one c live = held (c.group.0 == group.0) c.status live

pub cancels_none_of : (group : GroupId) (cs : List CallbackRow) → filter (is_cancelled_by (Group group) false) cs ≡ []
cancels_none_of group [] = refl
cancels_none_of group (c ∷ cs) = cancels_none_of group cs
