-- What is outstanding for an object, as the lists of objects give it.
use Rattle.std.proofs.Common.{◌≡◌, ℕ, ◌+◌, ◌<◌, ◌≤◌, Bool, true, false, cond, ◌&&◌, ◌==◌, List, [], ◌∷◌, length, nat_lt, slice_get, Option, Some, None, refl, sym, ap, ◌∙◌, subst, arith, filter, find, option_map, eqb-true, lt-ltb}
use Rattle.std.proofs.lemmas.List.Sums.{length-filter, count_by-le-length}
use Rattle.tp_base.specs.declared.ids.ObjectId.{ObjectId}
use Rattle.tp_base.specs.declared.rows.Status.{Status}
use Rattle.tp_base.specs.declared.rows.Status.TheVariants.{Expected, Issued, Pending, Running, Returned, Cancelled}
use Rattle.tp_base.specs.declared.rows.CallbackRow.{CallbackRow}
use Rattle.tp_base.specs.declared.rows.WaitTarget.TheVariants.{Object}
use Rattle.tp_model.specs.World.{World}
use Rattle.tp_model.specs.Counts.{has_number, is_pending}
use Rattle.tp_model.specs.Support.Sound.{IsRising}
use Rattle.tp_model.specs.Waits.{is_held_for, is_outstanding_for}
use Rattle.tp_model.proofs.Lists.{filter_agree, find_all}
use Rattle.tp_model.proofs.Refusals.{both}
use Rattle.live_callbacks.specs.Callbacks.{outstanding_among}
use Rattle.tp_model.proofs.Callbacks.{rising_filter}
use Rattle.live_world.specs.Invariant.{is_pending_callback, is_running_callback}
use Rattle.live_world.specs.Waiting.{outstanding_of, is_pending_for, pending_of}
use Rattle.live_world.proofs.Lists.{all_pass, filter_both}
use Rattle.live_world.proofs.Walks.{Rises, rest, IsAmong, rises_filter, rest_first, first_among, found_among, Onward, onward}
use Rattle.live_world.specs.declared.LiveWorld.TheInside.{Inside}
use Rattle.live_world.specs.Live.{Live}
use Rattle.live_world.specs.View.{shown}

abbrev pub number_of : CallbackRow → ℕ
number_of c = c.number

-- ---- the rows

pub rows_rise : (low next_number : ℕ) (cs : List CallbackRow) → IsRising low next_number cs → Rises number_of low cs
rows_rise low next_number [] r = tt
rows_rise low next_number (c ∷ cs) r = (r.0, rows_rise (c.number + 1) next_number cs r.1)

pub outstanding_rise : (next_number : ℕ) (cs : List CallbackRow) (object : ObjectId) → IsRising 1 next_number cs → Rises number_of 1 (filter (is_outstanding_for (Object object)) cs)
outstanding_rise next_number cs object rising = rises_filter number_of (is_outstanding_for (Object object)) 1 cs (rows_rise 1 next_number cs rising)

-- an outstanding row is of the object
pub of_object : (object : ObjectId) (cs : List CallbackRow) (q : CallbackRow → Bool) (c : CallbackRow) → find q (filter (is_outstanding_for (Object object)) cs) ≡ Some c → c.object ≡ object
of_object object cs q c found =
    let passes : is_outstanding_for (Object object) c ≡ true = find_all (λ x. is_outstanding_for (Object object) x ≡ true) q c (filter (is_outstanding_for (Object object)) cs) (all_pass (is_outstanding_for (Object object)) cs) found in
    ap (λ n. record { 0 = n }) (eqb-true c.object.0 object.0 (both (c.object.0 == object.0) (is_held_for (Object object) c.status) passes).0)

pub find_filter : {X : Type 0} (p t : X → Bool) (xs : List X) → find t (filter p xs) ≡ find (λ x. p x && t x) xs
find_filter p t [] = refl
find_filter {X} p t (x ∷ xs) =
    elim (p x) as (λ b. find t (cond b (x ∷ filter p xs) (filter p xs)) ≡ cond (b && t x) (Some x) (find (λ y. p y && t y) xs)) [
      | true ↦ ap (λ o. cond (t x) (Some x) o) (find_filter p t xs)
      | false ↦ find_filter p t xs
    ]

pub first_found : {X : Type 0} (xs : List X) → find (λ _. true) xs ≡ slice_get xs 0
first_found [] = refl
first_found (x ∷ xs) = refl

-- a row that is found among some is found by its number among all
pub looked_up : (next_number : ℕ) (cs : List CallbackRow) (p t : CallbackRow → Bool) (number : ℕ) → IsRising 1 next_number cs → option_map number_of (find t (filter p cs)) ≡ Some number → find (has_number number) cs ≡ find t (filter p cs)
looked_up next_number cs p t number rising is = known (find t (filter p cs)) refl is
  where
    known : (o : Option CallbackRow) → find t (filter p cs) ≡ o → option_map number_of o ≡ Some number → find (has_number number) cs ≡ find t (filter p cs)
    known None e h = absurd cc
    known (Some c) e h =
        let same : c.number ≡ number = cc in
        let among : IsAmong number_of cs (find (λ x. p x && t x) cs) = found_among number_of 1 (λ x. p x && t x) cs (rows_rise 1 next_number cs rising) in
        let there : find (λ x. x.number == c.number) cs ≡ Some c = subst (IsAmong number_of cs) (sym (find_filter p t cs) ∙ e) among in
        ap (λ n. find (has_number n) cs) (sym same) ∙ there ∙ sym e

-- the first of what passes has passed
pub first_passes : {X : Type 0} (p : X → Bool) (x : X) (xs : List X) → slice_get (filter p xs) 0 ≡ Some x → p x ≡ true
first_passes p x [] e = absurd cc
first_passes p x (y ∷ ys) e =
    elim (p y) as (λ b. p y ≡ b → slice_get (cond b (y ∷ filter p ys) (filter p ys)) 0 ≡ Some x → p x ≡ true) [
      | true ↦ λ here h. let same : y ≡ x = cc in ap p (sym same) ∙ here
      | false ↦ λ _ h. first_passes p x ys h
    ] refl e

-- and is found by its number
pub first_by_number : (next_number : ℕ) (cs : List CallbackRow) (p : CallbackRow → Bool) (c : CallbackRow) → IsRising 1 next_number cs → slice_get (filter p cs) 0 ≡ Some c → find (has_number c.number) cs ≡ Some c
first_by_number next_number cs p c rising first =
    looked_up next_number cs p (λ _. true) c.number rising (ap (option_map number_of) (first_found (filter p cs) ∙ first)) ∙ first_found (filter p cs) ∙ first

-- ---- tests

pub and_swap : (a b : Bool) → (a && b) ≡ (b && a)
and_swap true true = refl
and_swap true false = refl
and_swap false true = refl
and_swap false false = refl

-- the first that passes
pub first_filtered : {X : Type 0} (p : X → Bool) (cs : List X) → find p cs ≡ slice_get (filter p cs) 0
first_filtered p [] = refl
first_filtered p (c ∷ cs) = elim (p c) as (λ b. cond b (Some c) (find p cs) ≡ slice_get (cond b (c ∷ filter p cs) (filter p cs)) 0) [ true ↦ refl | false ↦ first_filtered p cs ]

-- ---- from one row to the next

abbrev pub after_of : List CallbackRow → CallbackRow → Option CallbackRow
after_of cs c = find (λ (x : CallbackRow). nat_lt c.number x.number) cs

pub row_at : (next_number : ℕ) (cs : List CallbackRow) (c : CallbackRow) (next : Option CallbackRow) → IsRising 1 next_number cs → next ≡ Some c → IsAmong number_of cs next → Onward number_of cs c next
row_at next_number cs c next rising is among = onward number_of 1 cs c next (rows_rise 1 next_number cs rising) is among

-- the first of all
pub first_row_is : (next_number : ℕ) (cs : List CallbackRow) (next : Option CallbackRow) → IsRising 1 next_number cs → next ≡ find (λ (c : CallbackRow). nat_lt 0 c.number) cs → next ≡ slice_get cs 0
first_row_is next_number cs next rising found = found ∙ first cs (rows_rise 1 next_number cs rising)
  where
    first : (ds : List CallbackRow) → Rises number_of 1 ds → find (λ (c : CallbackRow). nat_lt 0 c.number) ds ≡ slice_get ds 0
    first [] r = refl
    first (d ∷ ds) r = ap (λ b. cond b (Some d) (find (λ (c : CallbackRow). nat_lt 0 c.number) ds)) (lt-ltb 0 d.number r.0)

-- ---- along what is outstanding

-- a row of an object is among what is outstanding for its own, and the next one of that is the next of the object
pub record InObject (object : ObjectId) (cs : List CallbackRow) (c : CallbackRow) : Type 0 where
  pub there : find (has_number c.number) (outstanding_among cs c.object) ≡ Some c
  pub next : (after : Option CallbackRow) → after ≡ after_of (outstanding_among cs c.object) c → after ≡ after_of (outstanding_among cs object) c

pub in_object : (object : ObjectId) (cs : List CallbackRow) (c : CallbackRow) (next : Option CallbackRow) → next ≡ Some c → IsAmong number_of (outstanding_among cs object) next → InObject object cs c
in_object object cs c next is among =
    let found : find (has_number c.number) (outstanding_among cs object) ≡ Some c = subst (IsAmong number_of (outstanding_among cs object)) is among in
    let same : c.object ≡ object = of_object object cs (has_number c.number) c found in
    record { there = ap (λ o. find (has_number c.number) (outstanding_among cs o)) same ∙ found; next = λ after e. e ∙ ap (λ o. after_of (outstanding_among cs o) c) same }

-- what the part tells is so of the world
module _ (i : Inside) {l : Live} (is : shown i ≡ l) where
  pub first_here : (object : ObjectId) {first : Option CallbackRow} → first ≡ slice_get (outstanding_among i.callbacks.rows object) 0 → first ≡ slice_get (outstanding_of l.world object) 0
  first_here object e = e ∙ ap (λ (x : Live). slice_get (outstanding_of x.world object) 0) is

  pub after_here : (c : CallbackRow) {after : Option CallbackRow} → after ≡ after_of (outstanding_among i.callbacks.rows c.object) c → after ≡ after_of (outstanding_of l.world c.object) c
  after_here c e = e ∙ ap (λ (x : Live). after_of (outstanding_of x.world c.object) c) is

  pub there_here : (c : CallbackRow) → find (has_number c.number) (outstanding_of l.world c.object) ≡ Some c → find (has_number c.number) (outstanding_among i.callbacks.rows c.object) ≡ Some c
  there_here c e = ap (λ (x : Live). find (has_number c.number) (outstanding_of x.world c.object)) is ∙ e

-- where one of them is next
pub record AtNext (w : World) (object : ObjectId) (c : CallbackRow) (next : Option CallbackRow) : Type 0 where
  pub there : find (has_number c.number) (outstanding_of w c.object) ≡ Some c
  pub step : (after : Option CallbackRow) → after ≡ find (λ (x : CallbackRow). nat_lt c.number x.number) (outstanding_of w c.object) → rest number_of (outstanding_of w object) next ≡ c ∷ rest number_of (outstanding_of w object) after
  pub later : (after : Option CallbackRow) → after ≡ find (λ (x : CallbackRow). nat_lt c.number x.number) (outstanding_of w c.object) → length (rest number_of (outstanding_of w object) after) < length (rest number_of (outstanding_of w object) next)
  pub among : (after : Option CallbackRow) → after ≡ find (λ (x : CallbackRow). nat_lt c.number x.number) (outstanding_of w c.object) → IsAmong number_of (outstanding_of w object) after

pub at_next : (w : World) (next_number : ℕ) (object : ObjectId) (c : CallbackRow) (next : Option CallbackRow) → IsRising 1 next_number w.callbacks → next ≡ Some c → IsAmong number_of (outstanding_of w object) next → AtNext w object c next
at_next w next_number object c next rising is among =
    let at = row_at next_number (outstanding_of w object) c next (rising_filter (is_outstanding_for (Object object)) 1 next_number w.callbacks rising) is among in
    let own = in_object object w.callbacks c next is among in
    record {
      there = own.there;
      step = λ after found. at.step after (own.next after found);
      later = λ after found. at.later after (own.next after found);
      among = λ after found. at.among after (own.next after found);
    }

-- all is left from the first on
pub first_whole : (w : World) (next_number : ℕ) (object : ObjectId) (next : Option CallbackRow) → IsRising 1 next_number w.callbacks → next ≡ slice_get (outstanding_of w object) 0 → rest number_of (outstanding_of w object) next ≡ outstanding_of w object
first_whole w next_number object next rising is = ap (rest number_of (outstanding_of w object)) is ∙ rest_first number_of 1 (outstanding_of w object) (outstanding_rise next_number w.callbacks object rising)

pub first_is_among : (w : World) (object : ObjectId) (next : Option CallbackRow) → next ≡ slice_get (outstanding_of w object) 0 → IsAmong number_of (outstanding_of w object) next
first_is_among w object next is = subst (IsAmong number_of (outstanding_of w object)) (sym is) (first_among number_of (outstanding_of w object))

-- ---- they are counted

-- what was counted so far, and what is left
pub record Counting (ys : List CallbackRow) (next : Option CallbackRow) (pending running : ℕ) : Type 0 where
  pub pending_counted : pending + length (filter is_pending_callback (rest number_of ys next)) ≡ length (filter is_pending_callback ys)
  pub running_counted : running + length (filter is_running_callback (rest number_of ys next)) ≡ length (filter is_running_callback ys)
  pub among : IsAmong number_of ys next

pub counting_first : (w : World) (next_number : ℕ) (object : ObjectId) (next : Option CallbackRow) → IsRising 1 next_number w.callbacks → next ≡ slice_get (outstanding_of w object) 0 → Counting (outstanding_of w object) next 0 0
counting_first w next_number object next rising is =
    let whole = first_whole w next_number object next rising is in
    record {
      pending_counted = omega (arith, ap (λ xs. length (filter is_pending_callback xs)) whole);
      running_counted = omega (arith, ap (λ xs. length (filter is_running_callback xs)) whole);
      among = first_is_among w object next is;
    }

-- one more
pub record CountsOne (w : World) (object : ObjectId) (c : CallbackRow) (next : Option CallbackRow) (pending running : ℕ) : Type 0 where
  pub at : AtNext w object c next
  pub goes_on : (after : Option CallbackRow) (waiting busy : ℕ) → after ≡ find (λ (x : CallbackRow). nat_lt c.number x.number) (outstanding_of w c.object) → waiting ≡ pending + cond (is_pending_callback c) 1 0 → busy ≡ running + cond (is_running_callback c) 1 0
      → Counting (outstanding_of w object) after waiting busy

pub counts_one : (w : World) (next_number : ℕ) (object : ObjectId) (c : CallbackRow) (next : Option CallbackRow) (pending running : ℕ)
    → IsRising 1 next_number w.callbacks → next ≡ Some c → Counting (outstanding_of w object) next pending running → CountsOne w object c next pending running
counts_one w next_number object c next pending running rising is k =
    let at = at_next w next_number object c next rising is k.among in
    record {
      at = at;
      goes_on = λ after waiting busy found one_waiting one_busy.
          record {
            pending_counted = counted is_pending_callback (is_pending_callback c) pending waiting (rest number_of (outstanding_of w object) after) one_waiting (ap (λ xs. length (filter is_pending_callback xs)) (at.step after found)) k.pending_counted;
            running_counted = counted is_running_callback (is_running_callback c) running busy (rest number_of (outstanding_of w object) after) one_busy (ap (λ xs. length (filter is_running_callback xs)) (at.step after found)) k.running_counted;
            among = at.among after found;
          };
    }
  where
    counted : (p : CallbackRow → Bool) (b : Bool) (before now : ℕ) (xs : List CallbackRow) → now ≡ before + cond b 1 0 → length (filter p (rest number_of (outstanding_of w object) next)) ≡ length (cond b (c ∷ filter p xs) (filter p xs))
        → before + length (filter p (rest number_of (outstanding_of w object) next)) ≡ length (filter p (outstanding_of w object)) → now + length (filter p xs) ≡ length (filter p (outstanding_of w object))
    counted p true before now xs e left so_far = omega (arith, so_far, e, left)
    counted p false before now xs e left so_far = omega (arith, so_far, e, left)

-- no more of them pass than there are callbacks
pub few : (w : World) (object : ObjectId) (p : CallbackRow → Bool) (n : ℕ) {most : ℕ} → n ≤ length (filter p (outstanding_of w object)) → length w.callbacks ≤ most → n ≤ most
few w object p n within fits =
    omega (
      arith,
      within,
      fits,
      length-filter p (outstanding_of w object),
      count_by-le-length p (outstanding_of w object),
      length-filter (is_outstanding_for (Object object)) w.callbacks,
      count_by-le-length (is_outstanding_for (Object object)) w.callbacks,
    )

-- ---- the pending ones among them

pub pending_among : (object : ObjectId) (cs : List CallbackRow) → filter is_pending_callback (filter (is_outstanding_for (Object object)) cs) ≡ filter (is_pending_for object) cs
pending_among object cs =
    filter_both is_pending_callback (is_outstanding_for (Object object)) cs
    ∙ filter_agree (λ (c : CallbackRow). is_outstanding_for (Object object) c && is_pending_callback c) (is_pending_for object) (λ c. alike (c.object.0 == object.0) c.status) cs
  where
    alike : (b : Bool) (s : Status) → ((b && is_held_for (Object object) s) && is_pending s) ≡ (is_pending s && b)
    alike true Expected = refl
    alike true Issued = refl
    alike true Pending = refl
    alike true (Running worker true slots) = refl
    alike true (Running worker false slots) = refl
    alike true Returned = refl
    alike true Cancelled = refl
    alike false Expected = refl
    alike false Issued = refl
    alike false Pending = refl
    alike false (Running worker associated slots) = refl
    alike false Returned = refl
    alike false Cancelled = refl

-- none of them stands before the next
pub record Seeking (object : ObjectId) (w : World) (next : Option CallbackRow) : Type 0 where
  pub left : filter is_pending_callback (rest number_of (outstanding_of w object) next) ≡ pending_of w object
  pub among : IsAmong number_of (outstanding_of w object) next

pub seeking_first : (w : World) (next_number : ℕ) (object : ObjectId) (next : Option CallbackRow) → IsRising 1 next_number w.callbacks → next ≡ slice_get (outstanding_of w object) 0 → Seeking object w next
seeking_first w next_number object next rising is = record { left = ap (filter is_pending_callback) (first_whole w next_number object next rising is) ∙ pending_among object w.callbacks; among = first_is_among w object next is }

-- the next is one of them, or it is passed over
pub record Seeks (object : ObjectId) (w : World) (c : CallbackRow) (next : Option CallbackRow) : Type 0 where
  pub at : AtNext w object c next
  pub first : is_pending_callback c ≡ true → slice_get (pending_of w object) 0 ≡ Some c
  pub others : is_pending_callback c ≡ false → (after : Option CallbackRow) → after ≡ find (λ (x : CallbackRow). nat_lt c.number x.number) (outstanding_of w c.object) → Seeking object w after

pub seeks : (w : World) (next_number : ℕ) (object : ObjectId) (c : CallbackRow) (next : Option CallbackRow) → IsRising 1 next_number w.callbacks → next ≡ Some c → Seeking object w next → Seeks object w c next
seeks w next_number object c next rising is k =
    let at = at_next w next_number object c next rising is k.among in
    record {
      at = at;
      first = λ pends. ap (λ xs. slice_get xs 0) (sym k.left ∙ left at (find (λ (x : CallbackRow). nat_lt c.number x.number) (outstanding_of w c.object)) refl true pends);
      others = λ passed after found. record { left = sym (left at after found false passed) ∙ k.left; among = at.among after found };
    }
  where
    left : AtNext w object c next → (after : Option CallbackRow) → after ≡ find (λ (x : CallbackRow). nat_lt c.number x.number) (outstanding_of w c.object) → (b : Bool) → is_pending_callback c ≡ b
        → filter is_pending_callback (rest number_of (outstanding_of w object) next) ≡ cond b (c ∷ filter is_pending_callback (rest number_of (outstanding_of w object) after)) (filter is_pending_callback (rest number_of (outstanding_of w object) after))
    left at after found b e = ap (filter is_pending_callback) (at.step after found) ∙ ap (λ t. cond t (c ∷ filter is_pending_callback (rest number_of (outstanding_of w object) after)) (filter is_pending_callback (rest number_of (outstanding_of w object) after))) e
