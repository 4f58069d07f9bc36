-- The objects of a group that a close with cancel gives a notice of, as they are made, closed and released.
use Rattle.std.proofs.Common.{◌≡◌, ℕ, zero, suc, ◌+◌, ◌-◌, ◌<◌, ◌≤◌, Bool, true, false, cond, not, ◌&&◌, ◌==◌, ◌||◌}
use Rattle.std.proofs.Common.{List, [], ◌∷◌, ◌++◌, length, map, slice_get, slice_set, Option, Some, None, option_map, refl, sym, ap, ap₂, ◌∙◌, subst, arith, filter, eqb-true, ne_eqb, append-nil, eq-eqb, append_assoc}
use Rattle.std.specs.List.{range_with_len, list_any}
use Rattle.std.specs.Option.{unwrap_or, option_map_or}
use Rattle.tp_base.specs.declared.ids.ObjectId.{ObjectId}
use Rattle.tp_base.specs.declared.rows.ObjectRow.{ObjectRow}
use Rattle.tp_model.specs.Counts.{numbered}
use Rattle.tp_model.specs.Groups.{object_id, is_object_that, objects_that, is_member, has_cancel, gets_notice, released_from}
use Rattle.tp_model.specs.Sources.{object_row, no_object}
use Rattle.tp_model.specs.Laws.Entries.{Creation, Notice, created_by, closed_by, begins_by, Begins}
use Rattle.tp_model.specs.Laws.Notices.{is_due, closes, clears, due_of, due_among, due, notice_for, is_close_of}
use Rattle.tp_base.specs.declared.answers.Entry.{Entry}
use Rattle.tp_model.specs.Support.Told.{creation_of, notice_at}
use Rattle.tp_model.specs.Support.Moves.{due_from, with_created, without_closed, without_released, due_after}
use Rattle.tp_model.proofs.Releasing.{Releases, released_if, that_stands}
use Rattle.tp_model.proofs.Refusals.{false_true, and_false, both}
use Rattle.std.proofs.lemmas.List.Folds.{list_any-append}
use Rattle.std.proofs.lemmas.List.Elements.{filter-append}

-- ---- one is made

abbrev one_due : ℕ → ℕ → ObjectRow → List Creation
one_due group n row = cond (gets_notice group row) (creation_of n row ∷ []) []

due_appended : (group n : ℕ) (objects : List ObjectRow) (row : ObjectRow) → due_from group n (objects ++ row ∷ []) ≡ due_from group n objects ++ one_due group (n + length objects) row
due_appended group n [] row = ap (λ k. one_due group k row) (omega arith)
due_appended group n (o ∷ os) row =
    let rest : due_from group (n + 1) (os ++ row ∷ []) ≡ due_from group (n + 1) os ++ one_due group (n + length (o ∷ os)) row
    = due_appended group (n + 1) os row ∙ ap (λ k. due_from group (n + 1) os ++ one_due group k row) (omega arith) in
    elim (gets_notice group o) as (λ b. cond b (creation_of n o ∷ due_from group (n + 1) (os ++ row ∷ [])) (due_from group (n + 1) (os ++ row ∷ []))
    ≡ cond b (creation_of n o ∷ due_from group (n + 1) os) (due_from group (n + 1) os) ++ one_due group (n + length (o ∷ os)) row) [ true ↦ ap (λ l. creation_of n o ∷ l) rest | false ↦ rest ]

pub due_made : (group : ℕ) (objects : List ObjectRow) (row : ObjectRow) → row.released ≡ false → due_from group 1 (objects ++ row ∷ []) ≡ with_created group (Some (creation_of (length objects + 1) row)) (due_from group 1 objects)
due_made group objects row unreleased =
    due_appended group 1 objects row ∙ ap (λ k. due_from group 1 objects ++ one_due group k row) (omega arith)
    ∙ ap (λ b. due_from group 1 objects ++ cond b (creation_of (length objects + 1) row ∷ []) []) (ap (λ b. (not b && (row.env.group.0 == group)) && has_cancel row) unreleased)
    ∙ elim (is_due group (creation_of (length objects + 1) row)) as (λ b. due_from group 1 objects ++ cond b (creation_of (length objects + 1) row ∷ []) [] ≡ cond b (due_from group 1 objects ++ creation_of (length objects + 1) row ∷ []) (due_from group 1 objects)) [
      | true ↦ refl
      | false ↦ append-nil (due_from group 1 objects)
    ]

-- ---- one is closed

abbrev other_than : ℕ → Creation → Bool
other_than n c = not (c.object == n)

-- numbers from one on are others than those below it
due_above : (group n m : ℕ) (objects : List ObjectRow) → m < n → filter (other_than m) (due_from group n objects) ≡ due_from group n objects
due_above group n m [] below = refl
due_above group n m (o ∷ os) below =
    let rest : filter (other_than m) (due_from group (n + 1) os) ≡ due_from group (n + 1) os = due_above group (n + 1) m os (omega (arith, below)) in
    elim (gets_notice group o) as (λ b. filter (other_than m) (cond b (creation_of n o ∷ due_from group (n + 1) os) (due_from group (n + 1) os)) ≡ cond b (creation_of n o ∷ due_from group (n + 1) os) (due_from group (n + 1) os)) [
      | true ↦ ap (λ b. cond (not b) (creation_of n o ∷ filter (other_than m) (due_from group (n + 1) os)) (filter (other_than m) (due_from group (n + 1) os))) (ne_eqb n m (λ e. omega (arith, e, below))) ∙ ap (λ l. creation_of n o ∷ l) rest
      | false ↦ rest
    ]

due_set : (group n place : ℕ) (objects : List ObjectRow) (row : ObjectRow) → slice_get objects place ≡ Some row → due_from group n (slice_set objects place (record row { released = true })) ≡ filter (other_than (n + place)) (due_from group n objects)
due_set group n place [] row at = absurd cc
due_set group n zero (o ∷ os) row at =
    let kept : filter (other_than (n + 0)) (due_from group (n + 1) os) ≡ due_from group (n + 1) os = due_above group (n + 1) (n + 0) os (omega arith) in
    elim (gets_notice group o) as (λ b. due_from group (n + 1) os ≡ filter (other_than (n + 0)) (cond b (creation_of n o ∷ due_from group (n + 1) os) (due_from group (n + 1) os))) [
      | true ↦ sym (ap (λ b. cond (not b) (creation_of n o ∷ filter (other_than (n + 0)) (due_from group (n + 1) os)) (filter (other_than (n + 0)) (due_from group (n + 1) os))) (same n) ∙ kept)
      | false ↦ sym kept
    ]
  where
    same : (k : ℕ) → (k == k + 0) ≡ true
    same k = eq-eqb k (k + 0) (omega arith)
due_set group n (suc place) (o ∷ os) row at =
    let rest : due_from group (n + 1) (slice_set os place (record row { released = true })) ≡ filter (other_than (n + suc place)) (due_from group (n + 1) os)
    = due_set group (n + 1) place os row at ∙ ap (λ k. filter (other_than k) (due_from group (n + 1) os)) (omega arith) in
    elim (gets_notice group o) as (λ b. cond b (creation_of n o ∷ due_from group (n + 1) (slice_set os place (record row { released = true }))) (due_from group (n + 1) (slice_set os place (record row { released = true })))
    ≡ filter (other_than (n + suc place)) (cond b (creation_of n o ∷ due_from group (n + 1) os) (due_from group (n + 1) os))) [
      | true ↦ ap (λ l. creation_of n o ∷ l) rest
          ∙ sym (ap (λ b. cond (not b) (creation_of n o ∷ filter (other_than (n + suc place)) (due_from group (n + 1) os)) (filter (other_than (n + suc place)) (due_from group (n + 1) os))) (ne_eqb n (n + suc place) (λ e. omega (arith, e))))
      | false ↦ rest
    ]

pub due_closed : (group object : ℕ) (objects : List ObjectRow) (row : ObjectRow) → 1 ≤ object → slice_get objects (object - 1) ≡ Some row → due_from group 1 (slice_set objects (object - 1) (record row { released = true })) ≡ filter (other_than object) (due_from group 1 objects)
due_closed group object objects row from_one at = due_set group 1 (object - 1) objects row at ∙ ap (λ k. filter (other_than k) (due_from group 1 objects)) (omega (arith, from_one))

-- ---- a group is

due_same : (group other : ℕ) (o : ObjectRow) → (other == group) ≡ true → gets_notice group (released_from other o) ≡ false
due_same group other o is = subst (λ g. gets_notice g (released_from other o) ≡ false) (eqb-true other group is) (of_member (is_member other o) refl)
  where
    of_member : (b : Bool) → is_member other o ≡ b → gets_notice other (cond b (record o { released = true }) o) ≡ false
    of_member true e = refl
    of_member false e = ap (λ b. b && has_cancel o) e

due_other : (group other : ℕ) (o : ObjectRow) → (other == group) ≡ false → gets_notice group (released_from other o) ≡ gets_notice group o
due_other group other o apart = of_member (is_member other o) refl
  where
    of_member : (b : Bool) → is_member other o ≡ b → gets_notice group (cond b (record o { released = true }) o) ≡ gets_notice group o
    of_member false e = refl
    of_member true e = sym (ap (λ b. b && has_cancel o) (no_member (o.env.group.0 == group) refl))
      where
        no_member : (t : Bool) → (o.env.group.0 == group) ≡ t → is_member group o ≡ false
        no_member false is = ap (λ t. not o.released && t) is ∙ and_false (not o.released)
        no_member true is = absurd (false_true (sym apart ∙ ap (λ k. k == group) (sym (eqb-true o.env.group.0 other (both (not o.released) (o.env.group.0 == other) e).1)) ∙ is))

same_creation : (n other : ℕ) (o : ObjectRow) → creation_of n (released_from other o) ≡ creation_of n o
same_creation n other o = elim (is_member other o) as (λ b. creation_of n (cond b (record o { released = true }) o) ≡ creation_of n o) [ true ↦ refl | false ↦ refl ]

pub due_cleared : (group other n : ℕ) (objects : List ObjectRow) → due_from group n (map (released_from other) objects) ≡ cond (other == group) [] (due_from group n objects)
due_cleared group other n [] = elim (other == group) as (λ b. ◌≡◌ {A = List Creation} [] (cond b [] [])) [ true ↦ refl | false ↦ refl ]
due_cleared group other n (o ∷ os) = of_group (due_cleared group other (n + 1) os) (other == group) refl
  where
    step : (b : Bool) → gets_notice group (released_from other o) ≡ b → due_from group n (map (released_from other) (o ∷ os)) ≡ cond b (creation_of n o ∷ due_from group (n + 1) (map (released_from other) os)) (due_from group (n + 1) (map (released_from other) os))
    step b is =
        ap (λ t. cond t (creation_of n (released_from other o) ∷ due_from group (n + 1) (map (released_from other) os)) (due_from group (n + 1) (map (released_from other) os))) is
        ∙ ap (λ c. cond b (c ∷ due_from group (n + 1) (map (released_from other) os)) (due_from group (n + 1) (map (released_from other) os))) (same_creation n other o)

    of_group : due_from group (n + 1) (map (released_from other) os) ≡ cond (other == group) [] (due_from group (n + 1) os) → (t : Bool) → (other == group) ≡ t → due_from group n (map (released_from other) (o ∷ os)) ≡ cond (other == group) [] (due_from group n (o ∷ os))
    of_group rest true is =
        step false (due_same group other o is) ∙ rest ∙ ap (λ t. cond t [] (due_from group (n + 1) os)) is ∙ sym (ap (λ t. cond t [] (due_from group n (o ∷ os))) is)
    of_group rest false is =
        step (gets_notice group o) (due_other group other o is)
        ∙ ap (λ l. cond (gets_notice group o) (creation_of n o ∷ l) l) (rest ∙ ap (λ t. cond t [] (due_from group (n + 1) os)) is)
        ∙ sym (ap (λ t. cond t [] (due_from group n (o ∷ os))) is)

-- ---- the notices of a close, which are those of the objects that are due one

module _ (gone : ℕ → Bool) (objects after : List ObjectRow) (rel : Releases gone objects after) (group cleanup : ℕ) where
  notice_is : (n : ℕ) (o : ObjectRow) → numbered objects n ≡ Some o → notice_at after cleanup (object_id n) ≡ notice_for cleanup (creation_of n o)
  notice_is n o is =
      let row : object_row after (object_id n) ≡ released_if (gone n) o = ap (λ (r : Option ObjectRow). unwrap_or r no_object) (rel n ∙ ap (option_map (released_if (gone n))) is) in
      ap (λ (r : ObjectRow). record { object = object_id n; routine = r.env.cancel; context = r.context; cleanup = cleanup }) row
      ∙ elim (gone n) as (λ b. ◌≡◌ {A = Notice} (record { object = object_id n; routine = (released_if b o).env.cancel; context = (released_if b o).context; cleanup = cleanup }) (notice_for cleanup (creation_of n o))) [ true ↦ refl | false ↦ refl ]

  notices_from : (n : ℕ) (rows : List ObjectRow) → ((i : ℕ) → slice_get rows i ≡ numbered objects (n + i))
      → map (notice_at after cleanup) (map object_id (filter (is_object_that (gets_notice group) objects) (range_with_len n (length rows)))) ≡ map (notice_for cleanup) (due_from group n rows)
  notices_from n [] at = refl
  notices_from n (o ∷ os) at =
      let here : numbered objects n ≡ Some o = ap (numbered objects) (omega arith) ∙ sym (at 0) in
      let rest : map (notice_at after cleanup) (map object_id (filter (is_object_that (gets_notice group) objects) (range_with_len (n + 1) (length os)))) ≡ map (notice_for cleanup) (due_from group (n + 1) os)
      = notices_from (n + 1) os (λ i. at (suc i) ∙ ap (numbered objects) (omega arith)) in
      ap (λ b. map (notice_at after cleanup) (map object_id (cond b (n ∷ filter (is_object_that (gets_notice group) objects) (range_with_len (n + 1) (length os))) (filter (is_object_that (gets_notice group) objects) (range_with_len (n + 1) (length os))))))
      (that_stands (gets_notice group) objects n o here)
      ∙ elim (gets_notice group o) as (λ b. map (notice_at after cleanup) (map object_id (cond b (n ∷ filter (is_object_that (gets_notice group) objects) (range_with_len (n + 1) (length os))) (filter (is_object_that (gets_notice group) objects) (range_with_len (n + 1) (length os)))))
      ≡ map (notice_for cleanup) (cond b (creation_of n o ∷ due_from group (n + 1) os) (due_from group (n + 1) os))) [
        | true ↦ ap₂ (λ x l. x ∷ l) (notice_is n o here) rest
        | false ↦ rest
      ]

  pub notices_are : map (notice_at after cleanup) (map object_id (objects_that (gets_notice group) objects)) ≡ map (notice_for cleanup) (due_from group 1 objects)
  notices_are = notices_from 1 objects first
    where
      first : (i : ℕ) → slice_get objects i ≡ numbered objects (1 + i)
      first i = ap (slice_get objects) (omega arith) ∙ sym (ap (λ b. cond b None (slice_get objects (1 + i - 1))) (ne_eqb (1 + i) 0 (λ e. omega (arith, e))))

-- ---- what entries tell of it, one entry more

abbrev unclosed : Entry → Creation → Bool
unclosed x c = not (closes c.object x)

filter_every : (cs : List Creation) → filter (λ (c : Creation). true) cs ≡ cs
filter_every [] = refl
filter_every (c ∷ cs) = ap (λ l. c ∷ l) (filter_every cs)

module _ (group : ℕ) (x : Entry) where
  -- an entry leaves of a creation what it neither closes nor clears
  due_left : (before later : List Entry) (c : Option Creation) → due_of group (before ++ x ∷ []) (later ++ x ∷ []) c ≡ filter (unclosed x) (cond (clears group x) [] (due_of group before later c))
  due_left before later None = elim (clears group x) as (λ b. ◌≡◌ {A = List Creation} [] (filter (unclosed x) (cond b [] []))) [ true ↦ refl | false ↦ refl ]
  due_left before later (Some c) =
      ap₂ (λ p q. cond ((is_due group c && not p) && not q) (c ∷ []) []) (list_any-append (closes c.object) before (x ∷ [])) (list_any-append (clears group) later (x ∷ []))
      ∙ of_four (is_due group c) (list_any (closes c.object) before) (list_any (clears group) later) (closes c.object x) refl (clears group x)
    where
      of_four : (d k l : Bool) (b : Bool) → closes c.object x ≡ b → (e : Bool) → cond ((d && not (k || (b || false))) && not (l || (e || false))) (c ∷ []) [] ≡ filter (unclosed x) (cond e [] (cond ((d && not k) && not l) (c ∷ []) []))
      of_four false k l b is true = refl
      of_four false k l b is false = refl
      of_four true true l b is true = refl
      of_four true true l b is false = refl
      of_four true false true b is true = ap (λ t. cond t (c ∷ []) []) (and_false (not (b || false)))
      of_four true false true b is false = ap (λ t. cond t (c ∷ []) []) (and_false (not (b || false)))
      of_four true false false b is true = ap (λ t. cond t (c ∷ []) []) (and_false (not (b || false)))
      of_four true false false true is false = sym (ap (λ t. cond (not t) (c ∷ []) []) is)
      of_four true false false false is false = sym (ap (λ t. cond (not t) (c ∷ []) []) is)

  due_longer : (before later : List Entry) → due_among group (before ++ x ∷ []) (later ++ x ∷ []) ≡ filter (unclosed x) (cond (clears group x) [] (due_among group before later)) ++ due_of group (before ++ x ∷ []) [] (created_by x)
  due_longer before [] =
      append-nil (due_of group (before ++ x ∷ []) [] (created_by x))
      ∙ ap (λ l. l ++ due_of group (before ++ x ∷ []) [] (created_by x)) (elim (clears group x) as (λ b. ◌≡◌ {A = List Creation} [] (filter (unclosed x) (cond b [] []))) [ true ↦ refl | false ↦ refl ])
  due_longer before (y ∷ later) =
      let last : List Creation = due_of group (before ++ x ∷ []) [] (created_by x) in
      let first : List Creation = due_of group before later (created_by y) in
      let rest : List Creation = due_among group before later in
      ap₂ (λ l m. l ++ m) (due_left before later (created_by y)) (due_longer before later)
      ∙ sym (append_assoc (filter (unclosed x) (cond (clears group x) [] first)) (filter (unclosed x) (cond (clears group x) [] rest)) last)
      ∙ ap (λ l. l ++ last) (elim (clears group x) as (λ b. filter (unclosed x) (cond b [] first) ++ filter (unclosed x) (cond b [] rest) ≡ filter (unclosed x) (cond b [] (first ++ rest))) [
        | true ↦ refl
        | false ↦ sym (filter-append (unclosed x) first rest)
      ])

  -- what is created was not closed before
  pub due_step : (before : List Entry) → ((c : Creation) → created_by x ≡ Some c → list_any (closes c.object) (before ++ x ∷ []) ≡ false) → due group (before ++ x ∷ []) ≡ due_after group (due group before) x
  due_step before unclosed_yet = due_longer before before ∙ ap (λ l. filter (unclosed x) l ++ due_of group (before ++ x ∷ []) [] (created_by x)) (of_begins (begins_by x)) ∙ of_closed (closed_by x) refl ∙ of_created (created_by x) refl
    where
      cleared : List Creation
      cleared = without_released group (begins_by x) (due group before)

      left : List Creation
      left = without_closed (closed_by x) cleared

      of_begins : (b : Option Begins) → cond (option_map_or (λ (y : Begins). is_close_of group y.target) b false) [] (due group before) ≡ without_released group b (due group before)
      of_begins None = refl
      of_begins (Some b) = refl

      of_closed : (o : Option ObjectId) → closed_by x ≡ o → filter (unclosed x) cleared ++ due_of group (before ++ x ∷ []) [] (created_by x) ≡ left ++ due_of group (before ++ x ∷ []) [] (created_by x)
      of_closed o is = ap (λ l. l ++ due_of group (before ++ x ∷ []) [] (created_by x)) (of_object o is)
        where
          of_object : (p : Option ObjectId) → closed_by x ≡ p → filter (unclosed x) cleared ≡ left
          of_object None none = ap (λ (q : Option ObjectId). filter (λ (c : Creation). not (option_map_or (λ (k : ObjectId). c.object == k.0) q false)) cleared) none ∙ filter_every cleared ∙ sym (ap (λ (q : Option ObjectId). without_closed q cleared) none)
          of_object (Some k) one = ap (λ (q : Option ObjectId). filter (λ (c : Creation). not (option_map_or (λ (i : ObjectId). c.object == i.0) q false)) cleared) one ∙ sym (ap (λ (q : Option ObjectId). without_closed q cleared) one)

      of_created : (c : Option Creation) → created_by x ≡ c → left ++ due_of group (before ++ x ∷ []) [] (created_by x) ≡ with_created group (created_by x) left
      of_created None none = ap (λ q. left ++ due_of group (before ++ x ∷ []) [] q) none ∙ append-nil left ∙ sym (ap (λ q. with_created group q left) none)
      of_created (Some c) one =
          ap (λ q. left ++ due_of group (before ++ x ∷ []) [] q) one
          ∙ ap (λ b. left ++ cond ((is_due group c && not b) && true) (c ∷ []) []) (unclosed_yet c one)
          ∙ of_due (is_due group c)
          ∙ sym (ap (λ q. with_created group q left) one)
        where
          of_due : (b : Bool) → left ++ cond ((b && true) && true) (c ∷ []) [] ≡ cond b (left ++ c ∷ []) left
          of_due true = refl
          of_due false = append-nil left
