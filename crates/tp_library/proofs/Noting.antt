-- What is kept beside a machine after the answer of a call was noted: it is that of the world behind the call.
use Rattle.std.proofs.Common.{◌≡◌, ◌≢◌, ℕ, ◌+◌, ◌-◌, ◌<◌, ◌≤◌, ◌==◌, true, false, cond, List, [], ◌∷◌, length, Option, None, Some, refl, sym, ap, ap₂, ◌∙◌, subst, arith, find, get_or, slice_get, slice_set, zero, suc}
use Rattle.std.specs.Prelude.{map, option_map}
use Rattle.std.specs.Option.{option_map_or, unwrap_or}
use Rattle.std.proofs.lemmas.Bool.Decides.{nat_tests}
use Rattle.std.proofs.lemmas.List.{get_or-set_other, get_or-set_same, length-replicate, length-set}
use Rattle.tp_base.specs.declared.ids.ObjectId.{ObjectId}
use Rattle.tp_base.specs.declared.ids.Who.{Who}
use Rattle.tp_base.specs.declared.ids.Who.TheVariants.{Client, Worker}
use Rattle.tp_base.specs.declared.rows.CallbackRow.{CallbackRow}
use Rattle.tp_base.specs.declared.rows.ObjectRow.{ObjectRow}
use Rattle.tp_model.specs.Counts.{has_number, numbered}
use Rattle.tp_model.specs.Support.Sound.{IsSound}
use Rattle.tp_model.specs.World.{World}
use Rattle.tp_library.specs.Acting.{run_of, Acting}
use Rattle.tp_library.specs.Tallied.{group_of, none_held, row_of}
use Rattle.tp_library.specs.Acting as acting
use Rattle.tp_library.specs.Counted.{client_number, finished_in, members_in, one_in, runs_of, with_finished, with_run}
use Rattle.tp_library.specs.Kept.{object_at, run_in, AreActors}
use Rattle.tp_library.specs.Shelves.{objects_in, Shelf}
use Rattle.tp_library.specs.Tallies.{at, lowered, raised}
use Rattle.tp_library.specs.declared.TheConstants.{LIBRARY_LIMIT}
use Rattle.tp_library.proofs.Tallies.{cleared_at, lowered_at, raised_at}
use Rattle.tp_library.proofs.Acting.{run_found}
use Rattle.tp_library.proofs.Stepping.{numbered_map}
use Rattle.tp_library.proofs.Effects.{IsKeptRow}
use Rattle.tp_library.proofs.Holding.{IsGroupLeft, IsHeldMore, IsHeldSame, one_of}

-- ---- objects

pub record AreOwned (w : World) (s : Shelf) (owned : List ℕ) (own : List (List ℕ)) : Type 0 where
  pub many : length owned ≡ LIBRARY_LIMIT + 1
  pub rows : (group : ℕ) → group < length own → length (row_of own group) ≡ LIBRARY_LIMIT + 1
  pub objects : (library : ℕ) → library ≤ LIBRARY_LIMIT → at owned library ≡ objects_in w s library
  pub members : (group library : ℕ) → group < length own → library ≤ LIBRARY_LIMIT → at (row_of own group) library ≡ members_in w.objects s group library

row_set : (own : List (List ℕ)) (home group : ℕ) (row : List ℕ) → group < length own → row_of (slice_set own home row) group ≡ cond (home == group) row (row_of own group)
row_set own home group row h =
    elim (home == group) as (λ b. (home == group) ≡ b → row_of (slice_set own home row) group ≡ cond b row (row_of own group)) [
      | true ↦ λ is. let same : home ≡ group = grind (arith, nat_tests, is) in
          subst (λ g. row_of (slice_set own home row) g ≡ row) same (get_or-set_same own home row [] (omega (arith, h, same)))
      | false ↦ λ is. let other : group ≢ home = grind (arith, nat_tests, is) in get_or-set_other own home group row [] other
    ] refl

-- of a row in place of another that is as long
rows_full : (own : List (List ℕ)) (home : ℕ) (row : List ℕ) → length row ≡ LIBRARY_LIMIT + 1 → ((group : ℕ) → group < length own → length (row_of own group) ≡ LIBRARY_LIMIT + 1)
    → (group : ℕ) → group < length (slice_set own home row) → length (row_of (slice_set own home row) group) ≡ LIBRARY_LIMIT + 1
rows_full own home row many rows group h =
    let within : group < length own = omega (arith, h, length-set own home row) in
    ap length (row_set own home group row within)
    ∙ elim (home == group) as (λ b. length (cond b row (row_of own group)) ≡ LIBRARY_LIMIT + 1) [ true ↦ many | false ↦ rows group within ]

module _ (w : World) (s : Shelf) (after : World) (now : Shelf) (owned : List ℕ) (own : List (List ℕ)) (are : AreOwned w s owned own) where
  pub owned_same : IsHeldSame w s after now → AreOwned after now owned own
  owned_same held = record {
    many = are.many;
    rows = are.rows;
    objects = λ l h. are.objects l h ∙ sym (held.objects l);
    members = λ g l in_own h. are.members g l in_own h ∙ sym (held.members g l);
  }

  pub owned_more : (home mine : ℕ) → home < length own → IsHeldMore home mine w s after now → AreOwned after now (raised owned mine) (slice_set own home (raised (row_of own home) mine))
  owned_more home mine in_home held = record {
    many = length-set owned mine (at owned mine + 1) ∙ are.many;
    rows = rows_full own home (raised (row_of own home) mine) (length-set (row_of own home) mine (at (row_of own home) mine + 1) ∙ are.rows home in_home) are.rows;
    objects = λ l h. omega (arith, raised_at owned mine l (omega (arith, h, are.many)), are.objects l h, held.objects l);
    members = λ g l in_own h.
        let within : g < length own = omega (arith, in_own, length-set own home (raised (row_of own home) mine)) in
        ap (λ t. at t l) (row_set own home g (raised (row_of own home) mine) within) ∙ of_home g l within h;
  }
    where
      of_home : (g l : ℕ) → g < length own → l ≤ LIBRARY_LIMIT → at (cond (home == g) (raised (row_of own home) mine) (row_of own g)) l ≡ members_in after.objects now g l
      of_home g l within h =
          elim (home == g) as (λ b. (home == g) ≡ b → at (cond b (raised (row_of own home) mine) (row_of own g)) l ≡ members_in after.objects now g l) [
            | true ↦ λ is.
                let same : home ≡ g = grind (arith, nat_tests, is) in
                omega (
                  arith,
                  raised_at (row_of own home) mine l (omega (arith, h, are.rows home in_home)),
                  ap (λ k. at (row_of own k) l) same,
                  are.members g l within h,
                  held.members g l,
                  ap (λ b. cond b (one_in mine l) 0) is,
                )
            | false ↦ λ is. omega (arith, are.members g l within h, held.members g l, ap (λ b. cond b (one_in mine l) 0) is)
          ] refl

  pub owned_less : (home : ℕ) (mine : ℕ) → home < length own → ((l : ℕ) → objects_in after now l + one_in mine l ≡ objects_in w s l)
      → ((g l : ℕ) → members_in after.objects now g l + one_of home mine g l ≡ members_in w.objects s g l)
      → AreOwned after now (lowered owned mine 1) (slice_set own home (lowered (row_of own home) mine 1))
  owned_less home mine in_home objects members = record {
    many = length-set owned mine (at owned mine - 1) ∙ are.many;
    rows = rows_full own home (lowered (row_of own home) mine 1) (length-set (row_of own home) mine (at (row_of own home) mine - 1) ∙ are.rows home in_home) are.rows;
    objects = λ l h. omega (arith, lowered_at owned mine l 1 (omega (arith, h, are.many)), are.objects l h, objects l);
    members = λ g l in_own h.
        let within : g < length own = omega (arith, in_own, length-set own home (lowered (row_of own home) mine 1)) in
        ap (λ t. at t l) (row_set own home g (lowered (row_of own home) mine 1) within) ∙ of_home g l within h;
  }
    where
      of_home : (g l : ℕ) → g < length own → l ≤ LIBRARY_LIMIT → at (cond (home == g) (lowered (row_of own home) mine 1) (row_of own g)) l ≡ members_in after.objects now g l
      of_home g l within h =
          elim (home == g) as (λ b. (home == g) ≡ b → at (cond b (lowered (row_of own home) mine 1) (row_of own g)) l ≡ members_in after.objects now g l) [
            | true ↦ λ is.
                let same : home ≡ g = grind (arith, nat_tests, is) in
                omega (
                  arith,
                  lowered_at (row_of own home) mine l 1 (omega (arith, h, are.rows home in_home)),
                  ap (λ k. at (row_of own k) l) same,
                  are.members g l within h,
                  members g l,
                  ap (λ b. cond b (one_in mine l) 0) is,
                )
            | false ↦ λ is. omega (arith, are.members g l within h, members g l, ap (λ b. cond b (one_in mine l) 0) is)
          ] refl

  pub owned_left : (home : ℕ) (owned' : List ℕ) → home < length own → length owned' ≡ LIBRARY_LIMIT + 1 → ((l : ℕ) → l ≤ LIBRARY_LIMIT → at owned' l ≡ at owned l - at (row_of own home) l) → IsGroupLeft home w s after now
      → AreOwned after now owned' (slice_set own home none_held)
  owned_left home owned' in_home many less held = record {
    many = many;
    rows = rows_full own home none_held (length-replicate {A = ℕ} (LIBRARY_LIMIT + 1) 0) are.rows;
    objects = λ l h. omega (arith, less l h, are.objects l h, are.members home l in_home h, held.objects l);
    members = λ g l in_own h.
        let within : g < length own = omega (arith, in_own, length-set own home none_held) in
        ap (λ t. at t l) (row_set own home g none_held within) ∙ of_home g l within h ∙ sym (held.members g l);
  }
    where
      of_home : (g l : ℕ) → g < length own → l ≤ LIBRARY_LIMIT → at (cond (home == g) none_held (row_of own g)) l ≡ cond (home == g) 0 (members_in w.objects s g l)
      of_home g l within h =
          elim (home == g) as (λ b. at (cond b none_held (row_of own g)) l ≡ cond b 0 (members_in w.objects s g l)) [
            | true ↦ cleared_at l
            | false ↦ are.members g l within h
          ]

-- the group of an object that stands
pub group_stands : (os : List ObjectRow) (object : ℕ) (row : ObjectRow) → numbered os object ≡ Some row → group_of (map (λ (o : ObjectRow). o.env.group.0) os) object ≡ row.env.group.0
group_stands os object row =
    elim (object == 0) as (λ b. cond b None (slice_get os (object - 1)) ≡ Some row → group_of (map (λ (o : ObjectRow). o.env.group.0) os) object ≡ row.env.group.0) [
      | true ↦ λ e. absurd cc
      | false ↦ λ e. got os (object - 1) e
    ]
  where
    got : (os : List ObjectRow) (i : ℕ) → slice_get os i ≡ Some row → get_or (map (λ (o : ObjectRow). o.env.group.0) os) i 0 ≡ row.env.group.0
    got [] i e = absurd cc
    got (o ∷ os) zero e = let same : o ≡ row = cc in ap (λ (x : ObjectRow). x.env.group.0) same
    got (o ∷ os) (suc i) e = got os i e

-- ---- callbacks

pub record AreCounted (s : Shelf) (counted : Shelf → ℕ → List CallbackRow → ℕ) (cs : List CallbackRow) (tally : List ℕ) : Type 0 where
  pub many : length tally ≡ LIBRARY_LIMIT + 1
  pub each : (library : ℕ) → library ≤ LIBRARY_LIMIT → at tally library ≡ counted s library cs

module _ (s : Shelf) (counted : Shelf → ℕ → List CallbackRow → ℕ) (cs kept : List CallbackRow) (tally : List ℕ) (are : AreCounted s counted cs tally) where
  pub counted_same : ((l : ℕ) → counted s l kept ≡ counted s l cs) → AreCounted s counted kept tally
  counted_same same = record { many = are.many; each = λ l h. are.each l h ∙ sym (same l) }

  pub counted_more : (mine : ℕ) → ((l : ℕ) → counted s l kept ≡ counted s l cs + one_in mine l) → AreCounted s counted kept (raised tally mine)
  counted_more mine more = record {
    many = length-set tally mine (at tally mine + 1) ∙ are.many;
    each = λ l h. omega (arith, raised_at tally mine l (omega (arith, h, are.many)), are.each l h, more l);
  }

  pub counted_less : (mine count : ℕ) → ((l : ℕ) → counted s l kept + cond (mine == l) count 0 ≡ counted s l cs) → AreCounted s counted kept (lowered tally mine count)
  counted_less mine count less = record {
    many = length-set tally mine (at tally mine - count) ∙ are.many;
    each = λ l h. omega (arith, lowered_at tally mine l count (omega (arith, h, are.many)), are.each l h, less l);
  }

-- ---- actors

numbered_get : {R : Type 0} (rows : List R) (k : ℕ) (row : R) → slice_get rows k ≡ Some row → numbered rows (k + 1) ≡ Some row
numbered_get rows k row at =
    let above : (k + 1 == 0) ≡ false = grind (arith, nat_tests) in
    let same : k + 1 - 1 ≡ k = omega arith in
    ap (λ b. cond b None (slice_get rows (k + 1 - 1))) above ∙ ap (slice_get rows) same ∙ at

map_agree : {A B : Type 0} (f g : A → B) (xs : List A) → ((k : ℕ) (x : A) → slice_get xs k ≡ Some x → f x ≡ g x) → map f xs ≡ map g xs
map_agree f g [] same = refl
map_agree {A} {B} f g (x ∷ xs) same = ap₂ (λ (y : B) (ys : List B). y ∷ ys) (same zero x refl) (map_agree f g xs (λ k z at. same (suc k) z at))

map_set : {A B : Type 0} (f : A → B) (xs : List A) (i : ℕ) (x : A) → map f (slice_set xs i x) ≡ slice_set (map f xs) i (f x)
map_set f [] i x = refl
map_set f (y ∷ ys) zero x = refl
map_set f (y ∷ ys) (suc i) x = ap (λ zs. f y ∷ zs) (map_set f ys i x)

found_object : (v : World) (number : ℕ) (c : CallbackRow) → find (has_number number) v.callbacks ≡ Some c → object_at v number ≡ c.object.0
found_object v number c found = ap (λ o. option_map_or (λ (d : CallbackRow). d.object.0) o 0) found

-- the run of a worker that runs a callback
pub run_busy : (w : World) (a : Acting) (worker : ℕ) (c : CallbackRow) → AreActors w a → numbered (runs_of w) worker ≡ Some (Some c.number) → find (has_number c.number) w.callbacks ≡ Some c
    → run_of a (Worker worker) ≡ Some (c.number, c.object.0)
run_busy w a worker c are busy found =
    ap (λ xs. unwrap_or (numbered xs worker) None) are.runs
    ∙ ap (λ o. unwrap_or o None) (numbered_map (run_in w) (runs_of w) worker ∙ ap (option_map (run_in w)) busy)
    ∙ ap (λ o. Some (c.number, o)) (found_object w c.number c found)

module _ (w after : World) (sound : IsSound (length w.callbacks + 1) w) (keeps : (number : ℕ) (c : CallbackRow) → find (has_number number) w.callbacks ≡ Some c → IsKeptRow after number c) where
  pub object_kept : (number : ℕ) (c : CallbackRow) → find (has_number number) w.callbacks ≡ Some c → object_at after number ≡ c.object.0
  object_kept number c found =
      let k = keeps number c found in
      found_object after number k.row k.found ∙ ap (λ (o : ObjectId). o.0) k.object

  -- what a worker runs is of the object that it was of
  run_kept : (k : ℕ) (run : Option ℕ) → slice_get (runs_of w) k ≡ Some run → run_in after run ≡ run_in w run
  run_kept k None at = refl
  run_kept k (Some number) at =
      let is = run_found (length w.callbacks + 1) w sound (k + 1) number (numbered_get (runs_of w) k (Some number) at) in
      ap (λ o. Some (number, o)) (object_kept number is.row is.found ∙ sym (found_object w number is.row is.found))

  pub runs_kept : map (run_in after) (runs_of w) ≡ map (run_in w) (runs_of w)
  runs_kept = map_agree (run_in after) (run_in w) (runs_of w) run_kept

  pub actors_same : (a : Acting) → finished_in after ≡ finished_in w → runs_of after ≡ runs_of w → AreActors w a → AreActors after a
  actors_same a f r are = record { finished = are.finished ∙ sym f; runs = are.runs ∙ sym (ap (map (run_in after)) r ∙ runs_kept) }

  pub actors_finish : (a : Acting) (who : Who) → finished_in after ≡ with_finished (client_number who) (finished_in w) → runs_of after ≡ runs_of w → AreActors w a → AreActors after (acting.with_finished a who)
  actors_finish a (Client number) f r are = record {
    finished = ap (λ xs. slice_set xs (number - 1) true) are.finished ∙ sym f;
    runs = are.runs ∙ sym (ap (map (run_in after)) r ∙ runs_kept);
  }
  actors_finish a (Worker number) f r are = actors_same a f r are

  pub actors_run : (a : Acting) (who : Who) (run : Option ℕ) → finished_in after ≡ finished_in w → runs_of after ≡ with_run who run (runs_of w) → AreActors w a → AreActors after (acting.with_run a who (run_in after run))
  actors_run a (Client number) run f r are = actors_same a f r are
  actors_run a (Worker number) run f r are = record {
    finished = are.finished ∙ sym f;
    runs = ap (λ xs. slice_set xs (number - 1) (run_in after run)) (are.runs ∙ sym runs_kept)
        ∙ sym (ap (map (run_in after)) r ∙ map_set (run_in after) (runs_of w) (number - 1) run);
  }
