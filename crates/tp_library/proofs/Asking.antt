-- A call of the machine, and what is kept beside it.
use Rattle.std.proofs.Common.{◌≡◌, ℕ, ◌+◌, ◌-◌, ◌<◌, ◌≤◌, true, false, cond, List, [], ◌∷◌, ◌++◌, length, nat_lt, Some, refl, sym, ap, ◌∙◌, subst, arith, length-append, slice_get, zero, suc}
use Rattle.std.specs.Prelude.{map}
use Rattle.std.specs.List.{zip, range_with_len, AllByRecursion}
use Rattle.std.proofs.lemmas.List.Elements.{All-from_recursion}
use Rattle.std.proofs.lemmas.List.Sums.{count_by-le-length}
use Rattle.std.proofs.lemmas.List.FromFn.{length-range_with_len}
use Rattle.std.proofs.lemmas.Slice.Zip.{length-zip}
use Rattle.tp_base.specs.declared.answers.Answer.{Answer}
use Rattle.tp_base.specs.declared.answers.Answer.TheVariants as answer
use Rattle.tp_base.specs.declared.answers.Outcome.TheVariants as outcome
use Rattle.tp_base.specs.declared.calls.Call.{Call}
use Rattle.tp_base.specs.declared.calls.Call.TheVariants.{BeginClose, Create, SubmitSimple}
use Rattle.tp_base.specs.declared.ids.Who.{Who}
use Rattle.tp_base.specs.declared.rows.CallbackRow.{CallbackRow}
use Rattle.tp_base.specs.declared.rows.ObjectRow.{ObjectRow}
use Rattle.tp_model.specs.Laws.Entries.{made_by}
use Rattle.tp_model.specs.Laws.Once.{left}
use Rattle.tp_model.specs.Support.Sound.{IsMade}
use Rattle.tp_model.specs.World.{World}
use Rattle.tp_model.proofs.Entries.{entered, Accepts, Entered, Refuses}
use Rattle.std.proofs.lemmas.Bool.Decides.{nat_tests}
use Rattle.std.proofs.lemmas.Option.{slice_get_within}
use Rattle.tp_model.proofs.Refusals.{numbered_some}
use Rattle.tp_library.proofs.Counting.{left_appended}
use Rattle.recorded.specs.Recordings.{outcome_behind, room_of, world_behind, Recording}
use Rattle.tp_library.specs.Tallied.{group_of}
use Rattle.tp_library.specs.Counted.{is_left_in, is_member_in, is_run_in, left_in, members_in}
use Rattle.tp_library.specs.Effecting.{effect_of}
use Rattle.tp_library.specs.Kept.{groups_in, IsKept}
use Rattle.tp_library.specs.Noted.{CanNote}
use Rattle.tp_library.specs.Rows.{counted_left, rows_in}
use Rattle.tp_library.specs.Shelves.{Shelf}
use Rattle.tp_library.specs.Tallies.{at}
use Rattle.tp_library.specs.declared.beside.Beside.{Beside}
use Rattle.tp_library.specs.declared.told.Effect.{Effect}
use Rattle.tp_library.specs.declared.told.Effect.TheVariants.{Nothing, Makes, Releases, Closes, Cancels, Submits, Takes, Returns, Finishes}
use Rattle.tp_library.specs.declared.TheConstants.{LIBRARY_LIMIT}
use Rattle.tp_library.proofs.Effected.{By}
use Rattle.tp_library.proofs.Effects.{IsSimple}
use Rattle.tp_library.proofs.EffectsOf.{reached}
use Rattle.tp_library.proofs.Grouping.{grouped, IsGroupMade}
use Rattle.tp_library.proofs.Keeping.{few_callbacks, few_objects}
use Rattle.tp_library.proofs.Matching.{plan_matches, IsOf, Matches}
use Rattle.tp_library.proofs.Noted.{cancelled_of}
use Rattle.tp_library.proofs.Noting.{group_stands}

-- ---- what else an effect tells

-- a group that is named was made
abbrev pub GroupBy : World → Effect → Type 0
GroupBy w (Makes group) = group.0 ≤ length w.groups
GroupBy w (Closes group cancelled) = IsMade (length w.groups) group.0
GroupBy w effect = Unit {0}

pub group_by : (w : World) (call : Call) (a : Answer) → IsGroupMade w call a → GroupBy w (effect_of call a)
group_by w (Create kind routine context env) (answer.Made number) made = made
group_by w (BeginClose group cancel context) (answer.Closing covered cancelled notices) made = made
group_by w call (answer.Returned section mutex semaphore event first count) made = tt
group_by w call a made = tt

-- a simple callback is the next one
abbrev pub SimpleBy : World → Effect → Type 0
SimpleBy w (Submits callback) = callback ≡ length w.callbacks + 1
SimpleBy w effect = Unit {0}

pub simple_by : (w : World) (call : Call) (a : Answer) (new : List CallbackRow) → IsSimple w call a new → SimpleBy w (effect_of call a)
simple_by w (SubmitSimple routine context env) (answer.Queued first count) new simple = simple.0
simple_by w call (answer.Returned section mutex semaphore event first count) new simple = tt
simple_by w call a new simple = tt

-- a close of a group makes no callback
abbrev pub NewsBy : Effect → ℕ → Type 0
NewsBy (Closes group cancelled) count = count ≡ 0
NewsBy effect count = Unit {0}

pub news_by : (who : Who) (call : Call) (a : Answer) (first count : ℕ) → made_by (record { who = who; call = call; answer = a }) ≡ range_with_len first count → NewsBy (effect_of call a) count
news_by who (BeginClose group cancel context) (answer.Closing covered cancelled notices) first count made = omega (arith, ap length made, length-range_with_len first count)
news_by who call (answer.Returned section mutex semaphore event start many) first count made = tt
news_by who call a first count made = tt

-- the answer is one of the call
pub answered : (r : Recording) (b : Beside) → IsKept r b → (who : Who) (call : Call) (a : Answer) → outcome_behind r who call ≡ outcome.Done a → IsOf call a
answered r b k who call a told = of_entry (entered (world_behind r) (room_of r) (record { who = who; call = call; answer = a }) (reached r k.legal).sound told)
  where
    of_entry : Entered (world_behind r) (room_of r) (record { who = who; call = call; answer = a }) → IsOf call a
    of_entry (Accepts e) = subst (Matches call) e.plan_is (plan_matches (world_behind r) (room_of r) who call)
    of_entry (Refuses refusal same stays) = subst (IsOf call) (sym same) tt

-- ---- what an effect wants before it

groups_long : (os : List ObjectRow) → length (map (λ (o : ObjectRow). o.env.group.0) os) ≡ length os
groups_long [] = refl
groups_long (o ∷ os) = omega (arith, groups_long os)

row_within : (n i : ℕ) (os : List ObjectRow) (row : ObjectRow) → AllByRecursion (λ (o : ObjectRow). o.env.group.0 ≤ n) os → slice_get os i ≡ Some row → row.env.group.0 ≤ n
row_within n i [] row all at = absurd cc
row_within n zero (o ∷ os) row all at = let same : o ≡ row = cc in subst (λ (x : ObjectRow). x.env.group.0 ≤ n) same all.0
row_within n (suc i) (o ∷ os) row all at = row_within n i os row all.1 at

few_members : (r : Recording) (b : Beside) → IsKept r b → (group library : ℕ) → members_in (world_behind r).objects b.shelf.shelf group library ≤ 65535
few_members r b k group library =
    let w = world_behind r in
    omega (
      arith,
      count_by-le-length (is_member_in group library) (zip w.objects b.shelf.shelf.of_object),
      length-zip w.objects b.shelf.shelf.of_object,
      (reached r k.legal).few.objects,
      k.limits.objects_most,
    )

module _ (r : Recording) (b : Beside) (k : IsKept r b) (who : Who) (library : ℕ) (after : World) (now : Shelf) (kept : List CallbackRow) (is_library : library ≤ LIBRARY_LIMIT) (room : length r.history < r.capacity) (few : length after.objects ≤ r.limits.objects) where
  pub can_note_by : (effect : Effect) → By (world_behind r) b.shelf.shelf who effect library after now kept → GroupBy (world_behind r) effect → SimpleBy (world_behind r) effect → CanNote b effect library
  can_note_by (Makes group) by in_group simple =
      let w = world_behind r in
      let groups = grouped r k.legal in
      let more : length after.objects ≡ length w.objects + 1 =
      omega (
        arith,
        ap length by.groups,
        groups_long after.objects,
        groups_long w.objects,
        length-append (groups_in w) (group.0 ∷ []),
      ) in
      let in_own : group.0 < length b.counts.own = omega (arith, in_group, groups.groups, k.own) in (
        is_library,
        in_own,
        omega (arith, more, few, k.shelf.objects, k.objects_fit),
        omega (arith, more, few, ap length k.counts.groups, groups_long w.objects, k.groups_fit),
        omega (arith, k.counts.owned library is_library, few_objects r b k library),
        omega (arith, k.counts.own group.0 library in_own is_library, few_members r b k group.0 library),
      )
  can_note_by (Releases object) by in_group simple =
      let w = world_behind r in
      let at = numbered_some w.objects object.0 by.held.row by.held.stands in
      let home : group_of b.counts.groups object.0 ≡ by.held.row.env.group.0 = ap (λ gs. group_of gs object.0) k.counts.groups ∙ group_stands w.objects object.0 by.held.row by.held.stands in (
        at.1,
        omega (arith, at.1, slice_get_within w.objects (object.0 - 1) by.held.row at.0, ap length k.counts.groups, groups_long w.objects),
        omega (arith, home, row_within (length w.groups) (object.0 - 1) w.objects by.held.row (grouped r k.legal).objects at.0, (grouped r k.legal).groups, k.own),
      )
  can_note_by (Closes group cancelled) by in_group simple = omega (arith, in_group.1, (grouped r k.legal).groups, k.own)
  can_note_by (Submits callback) by in_group simple = (
    is_library,
    omega (arith, room, k.simple_few, k.simple_fit),
    All-from_recursion (λ (made : ℕ × ℕ). made.0 < callback) b.shelf.shelf.of_simple
        (subst (λ n. AllByRecursion (λ (made : ℕ × ℕ). made.0 < n) b.shelf.shelf.of_simple) (sym simple) k.shelf.simples),
  )
  can_note_by (Takes callback object) by in_group simple = λ l h.
      omega (arith, k.counts.running l h, count_by-le-length (is_run_in b.shelf.shelf l) (world_behind r).callbacks, few_callbacks r b k)
  can_note_by (Cancels object count) by in_group simple = tt
  can_note_by Returns by in_group simple = tt
  can_note_by Finishes by in_group simple = tt
  can_note_by Nothing by in_group simple = tt

-- ---- the callbacks that are counted

left_none : (s : Shelf) (library : ℕ) (news : List CallbackRow) → length news ≡ 0 → left_in s library news ≡ 0
left_none s library news none = omega (arith, count_by-le-length (is_left_in s library) news, none)

module _ (s : Shelf) (library first count number : ℕ) (after : World) (kept news : List CallbackRow) (tally : List ℕ) (same : after.callbacks ≡ kept ++ news) (many : count ≡ length news) (begins : 0 < count → first ≡ number + 1)
    (all : rows_in s library 0 (left after) ≡ left_in s library after.callbacks) (new : 0 < length news → rows_in s library number (left after) ≡ left_in s library news) where
  whole : at tally library ≡ left_in s library kept → at tally library + left_in s library news ≡ left_in s library after.callbacks
  whole is = omega (arith, is, left_appended s library kept news, ap (left_in s library) same)

  pub counted_by : (effect : Effect) → NewsBy effect count → (cancelled_of effect ≡ 0 → at tally library ≡ left_in s library kept) → counted_left s library effect first count (left after) tally ≡ left_in s library after.callbacks
  counted_by (Closes group cancelled) none is =
      elim (nat_lt 0 cancelled) as (λ b. nat_lt 0 cancelled ≡ b → cond b (rows_in s library 0 (left after)) (at tally library) ≡ left_in s library after.callbacks) [
        | true ↦ λ some. all
        | false ↦ λ zero_is.
            let zero : cancelled ≡ 0 = grind (arith, nat_tests, zero_is) in
            omega (arith, whole (is zero), left_none s library news (sym many ∙ none))
      ] refl
  counted_by effect none is = others (is refl)
    where
      others : at tally library ≡ left_in s library kept → cond (nat_lt 0 count) (at tally library + rows_in s library (first - 1) (left after)) (at tally library) ≡ left_in s library after.callbacks
      others same_kept =
          elim (nat_lt 0 count) as (λ b. nat_lt 0 count ≡ b → cond b (at tally library + rows_in s library (first - 1) (left after)) (at tally library) ≡ left_in s library after.callbacks) [
            | true ↦ λ some.
                let above : 0 < count = grind (arith, nat_tests, some) in
                let before : first - 1 ≡ number = omega (arith, begins above) in
                omega (arith, whole same_kept, new (omega (arith, above, many)), ap (λ n. rows_in s library n (left after)) before)
            | false ↦ λ none_is.
                let zero : count ≡ 0 = grind (arith, nat_tests, none_is) in
                omega (arith, whole same_kept, left_none s library news (sym many ∙ zero))
          ] refl
