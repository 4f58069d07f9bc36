-- How many objects of a library aren't released, and how many of those a group has, behind a call.
use Rattle.std.proofs.Common.{◌≡◌, ℕ, zero, suc, ◌+◌, ◌-◌, ◌≤◌, Bool, true, false, cond, if◌then◌else◌, not, ◌&&◌, ◌==◌, List, [], ◌∷◌, ◌++◌, length, map, Some, None, refl, sym, ap, ap₂, ◌∙◌, arith, eqb-true, ne_eqb, slice_get, slice_set, get_or}
use Rattle.std.specs.List.{count_by, zip}
use Rattle.std.specs.Option.{unwrap_or}
use Rattle.std.proofs.lemmas.List.{append-nil}
use Rattle.tp_base.specs.declared.answers.Answer.{Answer}
use Rattle.tp_base.specs.declared.answers.Answer.TheVariants.{Closed, Closing, Made}
use Rattle.tp_base.specs.declared.calls.Call.{Call}
use Rattle.tp_base.specs.declared.calls.Call.TheVariants.{BeginClose, CloseObject, Create}
use Rattle.tp_base.specs.declared.ids.ObjectId.{ObjectId}
use Rattle.tp_base.specs.declared.ids.Who.{Who}
use Rattle.tp_base.specs.declared.limits.Limits.{Limits}
use Rattle.tp_base.specs.declared.rows.ObjectRow.{ObjectRow}
use Rattle.tp_model.specs.Counts.{numbered}
use Rattle.tp_model.specs.Groups.{is_member, released_from}
use Rattle.tp_model.specs.Sources.{new_object}
use Rattle.tp_model.specs.World.{World}
use Rattle.tp_model.proofs.Refusals.{both, numbered_some}
use Rattle.tp_library.specs.Counted.{is_member_in, IsShelfOf, members_in, one_in, released_row}
use Rattle.tp_library.specs.Libraries.{shelf_answered}
use Rattle.tp_library.specs.Shelves.{is_object_in, library_of_object, objects_in, Shelf}
use Rattle.tp_library.proofs.Counting.{as_one, count_appended, count_cons}
use Rattle.tp_library.proofs.Effects.{Moved}
use Rattle.tp_library.proofs.Growing.{answered}
use Rattle.tp_library.proofs.Moving.{some_same}

-- ---- what is said of a call

-- of each library as many objects are unreleased as before, and as many of each group
pub record IsHeldSame (w : World) (s : Shelf) (after : World) (now : Shelf) : Type 0 where
  pub objects : (library : ℕ) → objects_in after now library ≡ objects_in w s library
  pub members : (group library : ℕ) → members_in after.objects now group library ≡ members_in w.objects s group library

abbrev pub one_of : ℕ → ℕ → ℕ → ℕ → ℕ
one_of home mine group library = if home == group then one_in mine library else 0

-- one more, of a group and a library
pub record IsHeldMore (home mine : ℕ) (w : World) (s : Shelf) (after : World) (now : Shelf) : Type 0 where
  pub objects : (library : ℕ) → objects_in after now library ≡ objects_in w s library + one_in mine library
  pub members : (group library : ℕ) → members_in after.objects now group library ≡ members_in w.objects s group library + one_of home mine group library

-- one less, which stood with its group and library
pub record IsHeldLess (object : ObjectId) (w : World) (s : Shelf) (after : World) (now : Shelf) : Type 0 where
  pub row : ObjectRow
  pub stands : numbered w.objects object.0 ≡ Some row
  pub objects : (library : ℕ) → objects_in after now library + one_in (library_of_object s object.0) library ≡ objects_in w s library
  pub members : (group library : ℕ) → members_in after.objects now group library + one_of row.env.group.0 (library_of_object s object.0) group library ≡ members_in w.objects s group library

-- without those of a group
pub record IsGroupLeft (home : ℕ) (w : World) (s : Shelf) (after : World) (now : Shelf) : Type 0 where
  pub objects : (library : ℕ) → objects_in after now library + members_in w.objects s home library ≡ objects_in w s library
  pub members : (group library : ℕ) → members_in after.objects now group library ≡ (if home == group then 0 else members_in w.objects s group library)

abbrev pub HeldMade : World → Shelf → Call → ℕ → World → Shelf → Type 0
HeldMade w s (Create kind routine context env) library after now = IsHeldMore env.group.0 library w s after now
HeldMade w s call library after now = IsHeldSame w s after now

abbrev pub HeldClosed : World → Shelf → Call → World → Shelf → Type 0
HeldClosed w s (CloseObject kind object) after now = IsHeldLess object w s after now
HeldClosed w s call after now = IsHeldSame w s after now

abbrev pub HeldClosing : World → Shelf → Call → World → Shelf → Type 0
HeldClosing w s (BeginClose group cancel context) after now = IsGroupLeft group.0 w s after now
HeldClosing w s call after now = IsHeldSame w s after now

abbrev pub Held : World → Shelf → Call → ℕ → Answer → World → Shelf → Type 0
Held w s call library (Made number) after now = HeldMade w s call library after now
Held w s call library (Closed later) after now = HeldClosed w s call after now
Held w s call library (Closing covered cancelled notices) after now = HeldClosing w s call after now
Held w s call library a after now = IsHeldSame w s after now

-- ---- pairs of objects and their libraries

zip_push : {X Y : Type 0} (xs : List X) (ys : List Y) (x : X) (y : Y) → length ys ≡ length xs → zip (xs ++ x ∷ []) (ys ++ y ∷ []) ≡ zip xs ys ++ (x, y) ∷ []
zip_push [] [] x y same = refl
zip_push [] (z ∷ ys) x y same = absurd (omega (arith, same))
zip_push (z ∷ xs) [] x y same = absurd (omega (arith, same))
zip_push (z ∷ xs) (v ∷ ys) x y same = ap (λ ps. (z, v) ∷ ps) (zip_push xs ys x y (omega (arith, same)))

-- one of the pairs has another first part
count_set : {X : Type 0} (p : X × ℕ → Bool) (xs : List X) (ys : List ℕ) (i : ℕ) (old new : X) → length ys ≡ length xs → slice_get xs i ≡ Some old →
    count_by p (zip (slice_set xs i new) ys) + as_one (p (old, get_or ys i 0)) ≡ count_by p (zip xs ys) + as_one (p (new, get_or ys i 0))
count_set p [] ys i old new same at = absurd cc
count_set p (x ∷ xs) [] i old new same at = absurd (omega (arith, same))
count_set p (x ∷ xs) (y ∷ ys) zero old new same at =
    let is : x ≡ old = some_same x old at in
    omega (arith, count_cons p (new, y) (zip xs ys), count_cons p (x, y) (zip xs ys), ap (λ z. as_one (p (z, y))) is)
count_set p (x ∷ xs) (y ∷ ys) (suc i) old new same at =
    let below : length ys ≡ length xs = omega (arith, same) in
    omega (arith, count_cons p (x, y) (zip (slice_set xs i new) ys), count_cons p (x, y) (zip xs ys), count_set p xs ys i old new below at)

-- each of them has another first part
count_along : {X : Type 0} (p q r : X × ℕ → Bool) (f : X → X) → ((x : X) (y : ℕ) → as_one (p (f x, y)) + as_one (q (x, y)) ≡ as_one (r (x, y))) → (xs : List X) (ys : List ℕ) → count_by p (zip (map f xs) ys) + count_by q (zip xs ys) ≡ count_by r (zip xs ys)
count_along p q r f one [] ys = refl
count_along p q r f one (x ∷ xs) [] = refl
count_along p q r f one (x ∷ xs) (y ∷ ys) =
    omega (arith, count_cons p (f x, y) (zip (map f xs) ys), count_cons q (x, y) (zip xs ys), count_cons r (x, y) (zip xs ys), one x y, count_along p q r f one xs ys)

none_of : {X : Type 0} (xs : List (X × ℕ)) → count_by (λ x. false) xs ≡ 0
none_of [] = refl
none_of (x ∷ xs) = omega (arith, count_cons (λ y. false) x xs, none_of xs)

-- the library of an object stands one place below its number
library_place : (s : Shelf) (object : ℕ) → 1 ≤ object → library_of_object s object ≡ get_or s.of_object (object - 1) 0
library_place s object least = ap (λ b. unwrap_or (cond b None (slice_get s.of_object (object - 1))) 0) (ne_eqb object 0 (λ e. omega (arith, e, least))) ∙ got s.of_object (object - 1)
  where
    got : (xs : List ℕ) (i : ℕ) → unwrap_or (slice_get xs i) 0 ≡ get_or xs i 0
    got [] zero = refl
    got [] (suc i) = refl
    got (x ∷ xs) zero = refl
    got (x ∷ xs) (suc i) = got xs i

-- ---- each case

module _ (w : World) (s : Shelf) (after : World) (now : Shelf) (fits : IsShelfOf s w) where
  held_same : after.objects ≡ w.objects → now.of_object ≡ s.of_object ++ [] → IsHeldSame w s after now
  held_same os ls =
      let both_same : zip after.objects now.of_object ≡ zip w.objects s.of_object = ap₂ (λ xs (ys : List ℕ). zip xs ys) os (ls ∙ append-nil s.of_object) in
      record { objects = λ library. ap (count_by (is_object_in library)) both_same; members = λ group library. ap (count_by (is_member_in group library)) both_same }

  held_more : (row : ObjectRow) (mine : ℕ) → row.released ≡ false → after.objects ≡ w.objects ++ row ∷ [] → now.of_object ≡ s.of_object ++ mine ∷ [] → IsHeldMore row.env.group.0 mine w s after now
  held_more row mine unreleased os ls =
      let longer : zip after.objects now.of_object ≡ zip w.objects s.of_object ++ (row, mine) ∷ [] = ap₂ (λ xs (ys : List ℕ). zip xs ys) os ls ∙ zip_push w.objects s.of_object row mine fits.objects in
      record {
        objects = λ library. omega (
          arith,
          ap (count_by (is_object_in library)) longer,
          count_appended (is_object_in library) (zip w.objects s.of_object) ((row, mine) ∷ []),
          count_cons (is_object_in library) (row, mine) [],
          ap (λ b. as_one (not b && (mine == library))) unreleased,
        );
        members = λ group library. omega (
          arith,
          ap (count_by (is_member_in group library)) longer,
          count_appended (is_member_in group library) (zip w.objects s.of_object) ((row, mine) ∷ []),
          count_cons (is_member_in group library) (row, mine) [],
          ap (λ b. as_one ((not b && (row.env.group.0 == group)) && (mine == library))) unreleased,
          at_home (row.env.group.0 == group) (mine == library),
        );
      }
    where
      at_home : (a b : Bool) → as_one ((not false && a) && b) ≡ (if a then as_one b else 0)
      at_home true b = refl
      at_home false b = refl

  held_less : (object : ObjectId) (row : ObjectRow) → numbered w.objects object.0 ≡ Some row → row.released ≡ false → after.objects ≡ slice_set w.objects (object.0 - 1) (record row { released = true }) → now.of_object ≡ s.of_object ++ []
      → IsHeldLess object w s after now
  held_less object row stands unreleased os ls =
      let at = numbered_some w.objects object.0 row stands in
      let pairs : zip after.objects now.of_object ≡ zip (slice_set w.objects (object.0 - 1) (record row { released = true })) s.of_object = ap₂ (λ xs (ys : List ℕ). zip xs ys) os (ls ∙ append-nil s.of_object) in
      let mine : library_of_object s object.0 ≡ get_or s.of_object (object.0 - 1) 0 = library_place s object.0 at.1 in
      record {
        row = row;
        stands = stands;
        objects = λ library. omega (
          arith,
          ap (count_by (is_object_in library)) pairs,
          count_set (is_object_in library) w.objects s.of_object (object.0 - 1) row (record row { released = true }) fits.objects at.0,
          ap (λ n. as_one (n == library)) mine,
          ap (λ b. as_one (not b && (get_or s.of_object (object.0 - 1) 0 == library))) unreleased,
        );
        members = λ group library. omega (
          arith,
          ap (count_by (is_member_in group library)) pairs,
          count_set (is_member_in group library) w.objects s.of_object (object.0 - 1) row (record row { released = true }) fits.objects at.0,
          ap (λ n. one_of row.env.group.0 n group library) mine,
          ap (λ b. as_one ((not b && (row.env.group.0 == group)) && (get_or s.of_object (object.0 - 1) 0 == library))) unreleased,
          at_home (row.env.group.0 == group) (get_or s.of_object (object.0 - 1) 0 == library),
        );
      }
    where
      at_home : (a b : Bool) → as_one ((not false && a) && b) ≡ (if a then as_one b else 0)
      at_home true b = refl
      at_home false b = refl

  group_left : (home : ℕ) → after.objects ≡ map (released_from home) w.objects → now.of_object ≡ s.of_object ++ [] → IsGroupLeft home w s after now
  group_left home os ls =
      record {
        objects = λ library. ap (λ n. n + members_in w.objects s home library) (ap (count_by (is_object_in library)) pairs)
            ∙ count_along (is_object_in library) (is_member_in home library) (is_object_in library) (released_from home) (λ o y. one_object o (y == library) (is_member home o) refl) w.objects s.of_object;
        members = λ group library. ap (count_by (is_member_in group library)) pairs ∙ of_group group library (home == group) refl;
      }
    where
      pairs : zip after.objects now.of_object ≡ zip (map (released_from home) w.objects) s.of_object
      pairs = ap₂ (λ xs (ys : List ℕ). zip xs ys) os (ls ∙ append-nil s.of_object)

      one_object : (o : ObjectRow) (b m : Bool) → is_member home o ≡ m → as_one (not (cond m (record o { released = true }) o).released && b) + as_one (m && b) ≡ as_one (not o.released && b)
      one_object o b true is = omega (arith, ap (λ t. as_one (t && b)) (both (not o.released) (o.env.group.0 == home) is).0)
      one_object o b false is = omega arith

      -- an object of the group isn't one any more
      one_gone : (group : ℕ) → home ≡ group → (o : ObjectRow) (b m : Bool) → is_member home o ≡ m → as_one (is_member group (cond m (record o { released = true }) o) && b) + as_one (is_member group o && b) ≡ as_one (is_member group o && b)
      one_gone group same o b true is = omega arith
      one_gone group same o b false is = omega (arith, ap (λ t. as_one (t && b)) (ap (λ n. is_member n o) (sym same) ∙ is))

      -- and one of another group stays one
      one_other : (group : ℕ) → (home == group) ≡ false → (o : ObjectRow) (b m : Bool) → is_member home o ≡ m → as_one (is_member group (cond m (record o { released = true }) o) && b) + 0 ≡ as_one (is_member group o && b)
      one_other group other o b true is =
          let here = both (not o.released) (o.env.group.0 == home) is in
          let apart : (o.env.group.0 == group) ≡ false = ap (λ n. n == group) (eqb-true o.env.group.0 home here.1) ∙ other in
          omega (arith, ap (λ t. as_one (t && b)) (ap₂ (λ x y. x && y) here.0 apart))
      one_other group other o b false is = omega arith

      of_group : (group library : ℕ) (b : Bool) → (home == group) ≡ b → count_by (is_member_in group library) (zip (map (released_from home) w.objects) s.of_object) ≡ (if b then 0 else members_in w.objects s group library)
      of_group group library true is =
          omega (
            arith,
            count_along (is_member_in group library) (is_member_in group library) (is_member_in group library) (released_from home) (λ o y. one_gone group (eqb-true home group is) o (y == library) (is_member home o) refl) w.objects s.of_object,
          )
      of_group group library false is =
          omega (
            arith,
            count_along (is_member_in group library) (λ x. false) (is_member_in group library) (released_from home) (λ o y. one_other group is o (y == library) (is_member home o) refl) w.objects s.of_object,
            none_of (zip w.objects s.of_object),
          )

-- ---- behind a call

-- the pairs of objects and libraries behind a call that is answered
pub held : (limits : Limits) (w : World) (who : Who) (after : World) (s : Shelf) (library : ℕ) → IsShelfOf s w → (call : Call) (a : Answer) → Moved limits w who call a after → Held w s call library a after (shelf_answered s who call library a)
held limits w who after s library fits (Create kind routine context env) (Made number) m =
    held_more w s after (shelf_answered s who (Create kind routine context env) library (Made number)) fits (new_object kind routine context env) library refl m.objects refl
held limits w who after s library fits call (Made number) m = held_same w s after (shelf_answered s who call library (Made number)) fits m.objects (answered s who call library (Made number)).of_object
held limits w who after s library fits (CloseObject kind object) (Closed later) m =
    let c = m.closed in
    held_less w s after s fits object c.row c.stands c.unreleased (m.objects ∙ ap (released_row w.objects object.0) c.stands) (sym (append-nil s.of_object))
held limits w who after s library fits call (Closed later) m = held_same w s after (shelf_answered s who call library (Closed later)) fits m.objects (answered s who call library (Closed later)).of_object
held limits w who after s library fits (BeginClose group cancel context) (Closing covered cancelled notices) m = group_left w s after s fits group.0 m.objects (sym (append-nil s.of_object))
held limits w who after s library fits call (Closing covered cancelled notices) m =
    held_same w s after (shelf_answered s who call library (Closing covered cancelled notices)) fits m.objects (answered s who call library (Closing covered cancelled notices)).of_object
held limits w who after s library fits call a m = held_same w s after (shelf_answered s who call library a) fits m.objects (answered s who call library a).of_object
