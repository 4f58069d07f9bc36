-- The members of a group, released one after another, with the notices that they get.
use Rattle.std.proofs.Common.{◌≡◌, ℕ, ◌+◌, ◌-◌, ◌<◌, Bool, true, false, cond, not, ◌&&◌, ◌||◌, ◌==◌, List, [], ◌∷◌, ◌++◌, length, map, slice_get, slice_set, Option, Some, None, refl, sym, ap, ap₂, ◌∙◌, subst, arith, filter, option_map, append_assoc, eqb-true, eq-eqb, ne_eqb, length-set}
use Rattle.std.specs.List.{AllByRecursion, list_any, range_with_len}
use Rattle.std.specs.Option.{option_map_or}
use Rattle.tp_base.specs.declared.ids.Who.{Who}
use Rattle.tp_base.specs.declared.ids.GroupId.{GroupId}
use Rattle.tp_base.specs.declared.ids.ObjectId.{ObjectId}
use Rattle.tp_base.specs.declared.plans.Change.TheVariants as change
use Rattle.tp_base.specs.declared.rows.CallbackRow.{CallbackRow}
use Rattle.tp_base.specs.declared.rows.ObjectRow.{ObjectRow}
use Rattle.tp_base.specs.Actors.{is_same_actor}
use Rattle.begun_waits.specs.Begun.{is_noticed, with_notices}
use Rattle.tp_model.specs.World.{World, BegunWait}
use Rattle.tp_model.specs.Counts.{numbered}
use Rattle.tp_model.specs.Conditions.{has_operations, is_operation_of}
use Rattle.tp_model.specs.Changes.{release_object}
use Rattle.tp_model.specs.Groups.{first_member, first_operating, gets_notice, has_cancel, is_group, is_member, is_member_at, is_object_that, is_operating_member, members, notices_of, numbers_in, object_id}
use Rattle.tp_model.specs.Support.Allowed.{IsUnreleased}
use Rattle.tp_model.specs.Support.Remembered.{lives, forget}
use Rattle.tp_model.specs.Support.Sound.{IsSound, is_told}
use Rattle.tp_model.proofs.Lists.{filter_agree, find_passes}
use Rattle.tp_model.proofs.Members.{release_goes_on, released_all}
use Rattle.tp_model.proofs.Refusals.{and_false, both, false_true}
use Rattle.tp_model.proofs.Releasing.{none_in_range, not_true_false, one_released, released_if, that_kept, that_made, that_row, that_stands}
use Rattle.live_world.specs.Closing.{MayHaveNotices, MayNote, closed_members, noted}
use Rattle.live_world.specs.Live.{Live, with_world, moved}
use Rattle.live_world.proofs.Lists.{filter_both}
use Rattle.live_world.proofs.MemberWalks.{first_is_least, members_rise, noticed_members}
use Rattle.live_world.proofs.Walks.{Rises, itself}

-- what is left to close leads to where all of it leads
pub record ClosingMembers (who : Who) (group : GroupId) (cancel : Bool) (before now : Live) : Type 0 where
  pub leads : closed_members now who group cancel ≡ closed_members before who group cancel
  pub idle : (k : ℕ) → is_member_at now.world group.0 k ≡ true → has_operations now.world k ≡ false
  pub made : is_group now.world group.0 ≡ true
  pub may : cancel ≡ true → MayNote now.world who

pub closing_first : (who : Who) (group : GroupId) (cancel : Bool) (now : Live) → is_group now.world group.0 ≡ true → first_operating now.world group.0 ≡ None → (cancel ≡ true → MayNote now.world who) → ClosingMembers who group cancel now now
closing_first who group cancel now made idle may = record { leads = refl; idle = λ k member. known k member (has_operations now.world k) refl; made = made; may = may }
  where
    known : (k : ℕ) → is_member_at now.world group.0 k ≡ true → (b : Bool) → has_operations now.world k ≡ b → has_operations now.world k ≡ false
    known k member false e = e
    known k member true e =
        let there = that_made (is_member group.0) now.world.objects k member in
        absurd (false_true (sym (none_in_range (is_operating_member now.world group.0) 1 (length now.world.objects) k idle there.0 (omega (arith, there.1))) ∙ ap₂ (λ a b. a && b) member e))

-- ---- the notices of a wait, one after another

noticed_twice : (who : Who) (os ps : List ObjectId) (waits : List BegunWait) → with_notices who ps (with_notices who os waits) ≡ with_notices who (os ++ ps) waits
noticed_twice who os ps [] = refl
noticed_twice who os ps (b ∷ bs) =
    ap₂ (λ (x : BegunWait) xs. x ∷ xs)
    (elim (is_same_actor b.actor who) as (λ t. is_same_actor b.actor who ≡ t
    → cond (is_same_actor (cond t (record b { notices = b.notices ++ os }) b).actor who) (record (cond t (record b { notices = b.notices ++ os }) b) { notices = (cond t (record b { notices = b.notices ++ os }) b).notices ++ ps }) (cond t (record b { notices = b.notices ++ os }) b)
    ≡ cond t (record b { notices = b.notices ++ (os ++ ps) }) b) [
      | true ↦ λ e. ap (λ t. cond t (record b { notices = (b.notices ++ os) ++ ps }) (record b { notices = b.notices ++ os })) e ∙ ap (λ ns. record b { notices = ns }) (append_assoc b.notices os ps)
      | false ↦ λ e. ap (λ t. cond t (record b { notices = b.notices ++ ps }) b) e
    ] refl)
    (noticed_twice who os ps bs)

unnoticed : (who : Who) (waits : List BegunWait) → with_notices who [] waits ≡ waits
unnoticed who [] = refl
unnoticed who (b ∷ bs) =
    ap₂ (λ (x : BegunWait) xs. x ∷ xs)
    (elim (is_same_actor b.actor who) as (λ t. cond t (record b { notices = b.notices ++ [] }) b ≡ b) [ true ↦ ap (λ ns. record b { notices = ns }) (append_nil b.notices) | false ↦ refl ])
    (unnoticed who bs)
  where
    append_nil : (os : List ObjectId) → os ++ [] ≡ os
    append_nil [] = refl
    append_nil (o ∷ os) = ap (λ xs. o ∷ xs) (append_nil os)

-- ---- where none is left

none_noticed : (w : World) (group : ℕ) (cancel : Bool) → first_member w group ≡ None → notices_of w group cancel ≡ []
none_noticed w group false none = refl
none_noticed w group true none = ap (map object_id) (sym (noticed_members group w.objects) ∙ ap (filter (is_object_that (gets_notice group) w.objects)) (no_members (members w group) (sym (first_is_least w group None (sym none)))))
  where
    no_members : (ns : List ℕ) → slice_get ns 0 ≡ None → ns ≡ []
    no_members [] e = refl
    no_members (n ∷ ns) e = absurd cc

-- all of them are closed
pub members_are_closed : (who : Who) (group : GroupId) (cancel : Bool) (before now : Live) → first_member now.world group.0 ≡ None → forget now.world ≡ now.world → ClosingMembers who group cancel before now → now ≡ closed_members before who group cancel
members_are_closed who group cancel before now none living k =
    ap (λ w. record { world = w; made = now.made }) (sym living)
    ∙ ap₂ (λ (w : World) ws. with_world now (record w { waits = ws })) (sym (released_all now.world group.0 none)) (sym (ap (λ os. with_notices who os now.world.waits) (none_noticed now.world group.0 cancel none) ∙ unnoticed who now.world.waits))
    ∙ k.leads

first_is_member : (w : World) (group n : ℕ) → first_member w group ≡ Some n → is_member_at w group n ≡ true
first_is_member w group n first = find_passes (is_member_at w group) n (numbers_in w.objects) first

-- the least is released
pub may_release : (who : Who) (group : GroupId) (cancel : Bool) (before now : Live) (n : ℕ) → first_member now.world group.0 ≡ Some n → ClosingMembers who group cancel before now → IsUnreleased now.world (record { 0 = n })
may_release who group cancel before now n first k =
    let member = first_is_member now.world group.0 n first in
    let row = that_row (is_member group.0) now.world.objects n member in
    record {
      row = row.0;
      stands = row.1;
      unreleased = not_true_false row.0.released (both (not row.0.released) (row.0.env.group.0 == group.0) row.2).0;
      idle = k.idle n member;
    }

-- ---- one is released, which gets a notice or none

module _ (who : Who) (group : GroupId) (cancel : Bool) (before now mid : Live) (n : ℕ) (first : first_member now.world group.0 ≡ Some n) (living : forget now.world ≡ now.world) (is : mid ≡ moved now (change.ReleaseObject (record { 0 = n }))) (k : ClosingMembers who group cancel before now) where
  abbrev pub w : World
  w = now.world

  member : is_member_at w group.0 n ≡ true
  member = first_is_member w group.0 n first

  found : (row : ObjectRow) × (numbered w.objects n ≡ Some row) × (is_member group.0 row ≡ true)
  found = that_row (is_member group.0) w.objects n member

  abbrev gone : ObjectRow
  gone = record found.0 { released = true }

  abbrev v : World
  v = release_object w (record { 0 = n }) (Some found.0)

  becomes : mid ≡ record { world = forget v; made = now.made }
  becomes = is ∙ ap (λ o. record { world = forget (release_object w (record { 0 = n }) o); made = now.made + 0 }) found.1 ∙ ap (λ m. record { world = forget v; made = m }) (omega arith)

  -- no longer a member
  own_out : is_member_at v group.0 n ≡ false
  own_out =
      ap (λ o. option_map_or (is_member group.0) o false)
      (one_released w.objects n found.0 found.1 n ∙ ap₂ (λ b (o : Option ObjectRow). option_map (released_if b) o) (eq-eqb n n refl) found.1)

  kept : (test : ObjectRow → Bool) (m : ℕ) → (m == n) ≡ false → is_object_that test v.objects m ≡ is_object_that test w.objects m
  kept test m apart = that_kept test (λ x. x == n) w.objects (slice_set w.objects (n - 1) gone) (one_released w.objects n found.0 found.1) m apart

  was_member : (m : ℕ) (b : Bool) → (m == n) ≡ b → is_member_at v group.0 m ≡ true → is_member_at w group.0 m ≡ true
  was_member m true e its = ap (is_member_at w group.0) (eqb-true m n e) ∙ member
  was_member m false e its = sym (kept (is_member group.0) m e) ∙ its

  and_true : (b : Bool) → (b && true) ≡ b
  and_true true = refl
  and_true false = refl

  -- the members are the others
  is_other : (m : ℕ) (b : Bool) → (m == n) ≡ b → is_member_at v group.0 m ≡ (is_member_at w group.0 m && not b)
  is_other m true e = ap (is_member_at v group.0) (eqb-true m n e) ∙ own_out ∙ sym (and_false (is_member_at w group.0 m))
  is_other m false e = kept (is_member group.0) m e ∙ sym (and_true (is_member_at w group.0 m))

  others : members v group.0 ≡ filter (λ m. not (m == n)) (members w group.0)
  others =
      ap (λ count. filter (is_member_at v group.0) (range_with_len 1 count)) (length-set w.objects (n - 1) gone)
      ∙ filter_agree (is_member_at v group.0) (λ m. is_member_at w group.0 m && not (m == n)) (λ m. is_other m (m == n) refl) (numbers_in w.objects)
      ∙ sym (filter_both (λ m. not (m == n)) (is_member_at w group.0) (numbers_in w.objects))

  -- it was the first of them
  behind : members w group.0 ≡ n ∷ members v group.0
  behind = of_list (members w group.0) (sym (first_is_least w group.0 (Some n) (sym first))) (members_rise w group.0) ∙ ap (λ ms. n ∷ ms) (sym others)
    where
      above : (low : ℕ) (ms : List ℕ) → n < low → Rises itself low ms → filter (λ m. not (m == n)) ms ≡ ms
      above low [] lt rises = refl
      above low (m ∷ ms) lt rises = rw (ne_eqb m n (λ same. omega (arith, same, rises.0, lt))) (ap (λ xs. m ∷ xs) (above (m + 1) ms (omega (arith, rises.0, lt)) rises.1))

      of_list : (ms : List ℕ) → slice_get ms 0 ≡ Some n → Rises itself 1 ms → ms ≡ n ∷ filter (λ m. not (m == n)) ms
      of_list [] e rises = absurd cc
      of_list (m ∷ ms) e rises =
          let same : m ≡ n = cc in
          ap (λ x. x ∷ ms) same ∙ ap (λ xs. n ∷ xs) (sym (ap (λ b. cond (not b) (m ∷ filter (λ x. not (x == n)) ms) (filter (λ x. not (x == n)) ms)) (eq-eqb m n same) ∙ above (m + 1) ms (omega (arith, same)) rises.1))

  fewer : length (members v group.0) < length (members w group.0)
  fewer = omega (arith, ap length behind)

  -- what gets a notice of the others is as it was
  noticed_others : filter (is_object_that (gets_notice group.0) w.objects) (members v group.0) ≡ filter (is_object_that (gets_notice group.0) v.objects) (members v group.0)
  noticed_others =
      ap (filter (is_object_that (gets_notice group.0) w.objects)) others
      ∙ filter_both (is_object_that (gets_notice group.0) w.objects) (λ m. not (m == n)) (members w group.0)
      ∙ filter_agree (λ m. not (m == n) && is_object_that (gets_notice group.0) w.objects m) (λ m. not (m == n) && is_object_that (gets_notice group.0) v.objects m) (λ m. alike m (m == n) refl) (members w group.0)
      ∙ sym (filter_both (is_object_that (gets_notice group.0) v.objects) (λ m. not (m == n)) (members w group.0))
      ∙ ap (filter (is_object_that (gets_notice group.0) v.objects)) (sym others)
    where
      alike : (m : ℕ) (b : Bool) → (m == n) ≡ b → (not b && is_object_that (gets_notice group.0) w.objects m) ≡ (not b && is_object_that (gets_notice group.0) v.objects m)
      alike m true e = refl
      alike m false e = sym (kept (gets_notice group.0) m e)

  -- its notice, and those of the others
  abbrev own_notices : List ObjectId
  own_notices = cond (cancel && is_object_that (gets_notice group.0) w.objects n) (object_id n ∷ []) []

  notices_split : notices_of w group.0 cancel ≡ own_notices ++ notices_of v group.0 cancel
  notices_split = of_cancel cancel
    where
      all_of : (x : World) → notices_of x group.0 true ≡ map object_id (filter (is_object_that (gets_notice group.0) x.objects) (members x group.0))
      all_of x = ap (map object_id) (sym (noticed_members group.0 x.objects))

      of_cancel : (c : Bool) → notices_of w group.0 c ≡ cond (c && is_object_that (gets_notice group.0) w.objects n) (object_id n ∷ []) [] ++ notices_of v group.0 c
      of_cancel false = refl
      of_cancel true =
          all_of w ∙ ap (λ ms. map object_id (filter (is_object_that (gets_notice group.0) w.objects) ms)) behind
          ∙ elim (is_object_that (gets_notice group.0) w.objects n) as (λ b. map object_id (cond b (n ∷ filter (is_object_that (gets_notice group.0) w.objects) (members v group.0)) (filter (is_object_that (gets_notice group.0) w.objects) (members v group.0)))
          ≡ cond b (object_id n ∷ []) [] ++ map object_id (filter (is_object_that (gets_notice group.0) w.objects) (members v group.0))) [ true ↦ refl | false ↦ refl ]
          ∙ ap (λ os. cond (is_object_that (gets_notice group.0) w.objects n) (object_id n ∷ []) [] ++ os) (ap (map object_id) noticed_others ∙ sym (all_of v))

  operates : (m : ℕ) (cs : List CallbackRow) → cs ≡ w.callbacks → has_operations w m ≡ false → list_any (is_operation_of m) cs ≡ false
  operates m cs same none = ap (list_any (is_operation_of m)) same ∙ none

  -- the callbacks that live are kept
  still : filter lives w.callbacks ≡ w.callbacks
  still = ap (λ (x : World). x.callbacks) living

  -- one less is left
  pub record ClosesMember (new : Live) : Type 0 where
    pub goes_on : ClosingMembers who group cancel before new
    pub smaller : length (members new.world group.0) < length (members now.world group.0)

  closes_to : (new : Live) → new ≡ record { world = record v { callbacks = w.callbacks; waits = with_notices who own_notices w.waits }; made = now.made } → (cancel ≡ true → MayNote (record v { callbacks = w.callbacks; waits = with_notices who own_notices w.waits }) who) → ClosesMember new
  closes_to new is_new may =
      subst ClosesMember (sym is_new)
      (record {
        goes_on = record {
          leads =
              ap₂ (λ (x : World) ws. record { world = record x { callbacks = filter lives w.callbacks; waits = ws }; made = now.made }) (release_goes_on w group.0 n found.0 found.1 found.2)
              (noticed_twice who own_notices (notices_of v group.0 cancel) w.waits ∙ ap (λ os. with_notices who os w.waits) (sym notices_split))
              ∙ k.leads;
          idle = λ m its. k.idle m (was_member m (m == n) refl its);
          made = k.made;
          may = may;
        };
        smaller = fewer;
      })

  -- it is not noticed yet
  pub not_noticed : (next_number : ℕ) → IsSound next_number now.world → is_noticed mid.world.waits (record { 0 = n }) ≡ false
  not_noticed next_number s = ap (λ (l : Live). is_noticed l.world.waits (record { 0 = n })) becomes ∙ of_waits w.waits s.notices
    where
      unreleased : is_object_that is_told w.objects n ≡ false
      unreleased =
          that_stands is_told w.objects n found.0 found.1
          ∙ ap (λ b. b && has_cancel found.0) (not_true_false found.0.released (both (not found.0.released) (found.0.env.group.0 == group.0) found.2).0)

      of_notices : (os : List ObjectId) → AllByRecursion (λ (o : ObjectId). is_object_that is_told w.objects o.0 ≡ true) os → list_any (λ (o : ObjectId). o.0 == n) os ≡ false
      of_notices [] all = refl
      of_notices (o ∷ os) all =
          ap₂ (λ a b. a || b) (ne_eqb o.0 n (λ same. false_true (sym unreleased ∙ ap (is_object_that is_told w.objects) (sym same) ∙ all.0))) (of_notices os all.1)

      of_waits : (bs : List BegunWait) → AllByRecursion (λ (b : BegunWait). AllByRecursion (λ (o : ObjectId). is_object_that is_told w.objects o.0 ≡ true) b.notices) bs → is_noticed bs (record { 0 = n }) ≡ false
      of_waits [] all = refl
      of_waits (b ∷ bs) all = ap₂ (λ a c. a || c) (of_notices b.notices all.0) (of_waits bs all.1)

  -- where it gets a notice it is told of
  pub is_told_now : is_object_that (gets_notice group.0) w.objects n ≡ true → is_object_that is_told mid.world.objects n ≡ true
  is_told_now gets =
      let parts = both (is_member group.0 found.0) (has_cancel found.0) (sym (that_stands (gets_notice group.0) w.objects n found.0 found.1) ∙ gets) in
      ap (λ (l : Live). is_object_that is_told l.world.objects n) becomes
      ∙ ap (λ o. option_map_or is_told o false) (one_released w.objects n found.0 found.1 n ∙ ap₂ (λ b (o : Option ObjectRow). option_map (released_if b) o) (eq-eqb n n refl) found.1)
      ∙ parts.1

  pub may_now : cancel ≡ true → MayNote mid.world who
  may_now cancels = subst (λ (l : Live). MayNote l.world who) (sym (becomes ∙ ap (λ cs. record { world = record v { callbacks = cs }; made = now.made }) still)) (let m = k.may cancels in record { begun = m.begun; may = m.may })

  -- with no notice
  pub member_closed : (cancel && is_object_that (gets_notice group.0) w.objects n) ≡ false → ClosesMember mid
  member_closed none =
      let own : with_notices who own_notices w.waits ≡ w.waits = ap (λ b. with_notices who (cond b (object_id n ∷ []) []) w.waits) none ∙ unnoticed who w.waits in
      closes_to mid (becomes ∙ ap₂ (λ cs ws. record { world = record v { callbacks = cs; waits = ws }; made = now.made }) still (sym own))
      (λ cancels. subst (λ ws. MayNote (record v { callbacks = w.callbacks; waits = ws }) who) (sym own) (let m = k.may cancels in record { begun = m.begun; may = m.may }))

  -- with one
  pub member_noted : (new : Live) → (cancel && is_object_that (gets_notice group.0) w.objects n) ≡ true → new ≡ noted mid who (record { 0 = n } ∷ []) → ClosesMember new
  member_noted new one is_new =
      let own : own_notices ≡ object_id n ∷ [] = ap (λ b. cond b (object_id n ∷ []) []) one in
      closes_to new
      (is_new ∙ ap (λ (l : Live). noted l who (object_id n ∷ [])) becomes
      ∙ ap₂ (λ cs os. record { world = record v { callbacks = cs; waits = with_notices who os w.waits }; made = now.made }) (ap (filter lives) still ∙ still) (sym own))
      (λ cancels. subst (λ os. MayNote (record v { callbacks = w.callbacks; waits = with_notices who os w.waits }) who) (sym own) (noted_may (k.may cancels)))
    where
      f : BegunWait → BegunWait
      f b = cond (is_same_actor b.actor who) (record b { notices = b.notices ++ object_id n ∷ [] }) b

      same_actor : (b : BegunWait) → (f b).actor ≡ b.actor
      same_actor b = elim (is_same_actor b.actor who) as (λ t. (cond t (record b { notices = b.notices ++ object_id n ∷ [] }) b).actor ≡ b.actor) [ true ↦ refl | false ↦ refl ]

      any_same : (bs : List BegunWait) → list_any (λ (b : BegunWait). is_same_actor b.actor who) (map f bs) ≡ list_any (λ (b : BegunWait). is_same_actor b.actor who) bs
      any_same [] = refl
      any_same (b ∷ bs) = ap₂ (λ (a : Who) t. is_same_actor a who || t) (same_actor b) (any_same bs)

      each : (bs : List BegunWait) → AllByRecursion (λ (b : BegunWait). is_same_actor b.actor who ≡ true → MayHaveNotices w.callbacks b) bs → AllByRecursion (λ (b : BegunWait). is_same_actor b.actor who ≡ true → MayHaveNotices w.callbacks b) (map f bs)
      each [] all = tt
      each (b ∷ bs) all = (
        elim (is_same_actor b.actor who) as (λ t. is_same_actor (cond t (record b { notices = b.notices ++ object_id n ∷ [] }) b).actor who ≡ true → MayHaveNotices w.callbacks (cond t (record b { notices = b.notices ++ object_id n ∷ [] }) b)) [
          | true ↦ λ same. let m = all.0 same in record { closes = m.closes; settled = m.settled }
          | false ↦ all.0
        ],
        each bs all.1,
      )

      noted_may : MayNote w who → MayNote (record v { callbacks = w.callbacks; waits = with_notices who (object_id n ∷ []) w.waits }) who
      noted_may m = record { begun = any_same w.waits ∙ m.begun; may = each w.waits m.may }
