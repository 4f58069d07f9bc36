-- Groups are no more than the limits allow, and each object is of none or of one that was made.
use Rattle.std.proofs.Common.{◌≡◌, ℕ, ◌-◌, ◌≤◌, Bool, true, false, cond, not, ◌||◌, ◌==◌, List, [], ◌∷◌, length, nat_lt, Option, Some, None, is_some, refl, sym, ap, ◌∙◌, subst, arith, eqb-true, length-append, slice_get}
use Rattle.std.specs.List.{AllByRecursion}
use Rattle.std.proofs.lemmas.List.{length-set}
use Rattle.tp_base.specs.declared.answers.Answer.{Answer}
use Rattle.tp_base.specs.declared.answers.Answer.TheVariants.{Closed, Closing, Made}
use Rattle.tp_base.specs.declared.answers.Entry.{Entry}
use Rattle.tp_base.specs.declared.answers.Outcome.TheVariants as outcome
use Rattle.tp_base.specs.declared.answers.Refusal.{Refusal}
use Rattle.tp_base.specs.declared.calls.Call.{Call}
use Rattle.tp_base.specs.declared.calls.Call.TheVariants.{BeginClose, CloseObject, Create}
use Rattle.tp_base.specs.declared.calls.Environ.{Environ}
use Rattle.tp_base.specs.declared.calls.Kind.{Kind}
use Rattle.tp_base.specs.declared.ids.GroupId.{GroupId}
use Rattle.tp_base.specs.declared.ids.RoutineId.{RoutineId}
use Rattle.tp_base.specs.declared.ids.Who.{Who}
use Rattle.tp_base.specs.declared.limits.Limits.{Limits}
use Rattle.tp_base.specs.declared.plans.Awaited.TheVariants as awaited
use Rattle.tp_base.specs.declared.plans.Change.{Change}
use Rattle.tp_base.specs.declared.plans.Change.TheVariants as change
use Rattle.tp_base.specs.declared.plans.IoStep.TheVariants.{Complete, GiveUp, Issue}
use Rattle.tp_base.specs.declared.plans.Plan.TheVariants.{Does}
use Rattle.tp_base.specs.declared.rows.GroupRow.{GroupRow}
use Rattle.tp_base.specs.declared.rows.ObjectRow.{ObjectRow}
use Rattle.tp_base.specs.declared.rows.PoolRow.{PoolRow}
use Rattle.tp_model.specs.Calls.Objects.{create_plan, create_refusals}
use Rattle.tp_model.specs.Changes.{change_pool, changed, release_object}
use Rattle.tp_model.specs.Conditions.{is_actor, is_no_group_or_group, is_pool}
use Rattle.tp_model.specs.Counts.{numbered}
use Rattle.tp_model.specs.Groups.{close_row, new_group, is_group, is_member, released_from}
use Rattle.tp_model.specs.History.{IsLegal, led_to}
use Rattle.tp_model.specs.Refusing.{first_refusal, unless_refused}
use Rattle.tp_model.specs.Step.{Full, outcome_of, Refused, stepped, within}
use Rattle.tp_model.specs.Support.Allowed.{IsAllowed}
use Rattle.tp_model.specs.Support.Sound.{IsMade, IsSound}
use Rattle.tp_model.specs.Table.{step}
use Rattle.tp_model.specs.World.{opening, World}
use Rattle.tp_model.proofs.Entries as Along
use Rattle.tp_model.proofs.Entries.{Accepts, Entered, entered, kept_to_end, next_number_in, Refuses}
use Rattle.tp_model.proofs.Few.{AreFew}
use Rattle.tp_model.proofs.Lists.{all_along, all_append, all_get, all_map, all_set}
use Rattle.tp_model.proofs.Refusals.{made, neither, none_holds, not_false, numbered_some}
use Rattle.tp_model.proofs.Sound.{opening_sound}
use Rattle.recorded.specs.Recordings.{outcome_behind, Recording, room_of, world_behind}
use Rattle.tp_library.specs.Counted.{objects_told, on_objects, released_row, Releases}
use Rattle.tp_library.proofs.Effects.{Moved}
use Rattle.tp_library.proofs.EffectsOf.{entry_moved, opening_few, reached}
use Rattle.tp_library.proofs.Telling.{Effect, effect_of, effect_told, plan_tells, Tells}

pub record AreGrouped (limits : Limits) (w : World) : Type 0 where
  pub groups : length w.groups ≤ limits.groups
  -- 0 stands for none
  pub objects : AllByRecursion (λ (o : ObjectRow). o.env.group.0 ≤ length w.groups) w.objects

-- ---- as many groups as are made

-- a change makes one at most, where there is room
abbrev Fits : World → ℕ → Type 0
Fits w now = (length w.groups ≤ now) × (now ≤ w.limits.groups)

closed_length : (groups : List GroupRow) (group : ℕ) (row : Option GroupRow) → length (close_row groups group row) ≡ length groups
closed_length groups group None = refl
closed_length groups group (Some row) = length-set groups (group - 1) (record row { closed = true })

groups_changed : (next_number : ℕ) (w : World) (ch : Change) → IsAllowed next_number w ch → length w.groups ≤ w.limits.groups → Fits w (length (changed w ch).groups)
groups_changed next_number w change.CreateGroup a within = (omega (arith, length-append w.groups (new_group ∷ [])), omega (arith, length-append w.groups (new_group ∷ []), a))
groups_changed next_number w (change.CloseGroup group) a within =
    (omega (arith, closed_length w.groups group.0 (numbered w.groups group.0)), omega (arith, closed_length w.groups group.0 (numbered w.groups group.0), within))
groups_changed next_number w (change.ChangePool pool how) a within = of_row (slice_get w.pools pool.0)
  where
    of_row : (row : Option PoolRow) → Fits w (length (change_pool w pool.0 how row).groups)
    of_row None = (omega arith, within)
    of_row (Some row) = (omega arith, within)
groups_changed next_number w (change.ReleaseObject object) a within = of_row (numbered w.objects object.0)
  where
    of_row : (row : Option ObjectRow) → Fits w (length (release_object w object row).groups)
    of_row None = (omega arith, within)
    of_row (Some row) = (omega arith, within)
groups_changed next_number w _ a within = (omega arith, within)

-- ---- the group that something is made with, or that is closed

group_within : (w : World) (group : ℕ) → is_no_group_or_group w group ≡ true → group ≤ length w.groups
group_within w group is = of_test (group == 0) refl is
  where
    of_row : (row : Option GroupRow) → numbered w.groups group ≡ row → is_some row ≡ true → group ≤ length w.groups
    of_row None there e = absurd cc
    of_row (Some row) there e = let at = numbered_some w.groups group row there in omega (arith, at.1, made w.groups (group - 1) (ap is_some at.0))

    of_test : (b : Bool) → (group == 0) ≡ b → (b || is_some (numbered w.groups group)) ≡ true → group ≤ length w.groups
    of_test true none e = omega (arith, eqb-true group 0 none)
    of_test false some e = of_row (numbered w.groups group) refl e

-- a Create that isn't refused names no group, or one that was made
created_within : (w : World) (left : ℕ) (who : Who) (kind : Kind) (routine : RoutineId) (context : ℕ) (env : Environ) (number : ℕ)
    → outcome_of (step w left who (Create kind routine context env)) ≡ outcome.Done (Made number) → env.group.0 ≤ length w.groups
unfolding create_plan
created_within w left who kind routine context env number told = of_refusal (first_refusal (create_refusals w who env)) _ _ refl told
  where
    of_full : (full : Bool) (refusal : Refusal) → outcome_of (cond full (Full left 1) (Refused refusal)) ≡ outcome.Done (Made number) → env.group.0 ≤ length w.groups
    of_full true refusal e = absurd cc
    of_full false refusal e = absurd cc

    of_refusal : (r : Option Refusal) (makes : Change) (told : Answer) → first_refusal (create_refusals w who env) ≡ r → outcome_of (within w left (stepped w (unless_refused r (Does told makes)))) ≡ outcome.Done (Made number) → env.group.0 ≤ length w.groups
    of_refusal (Some refusal) makes told is e = of_full (nat_lt left 1) refusal e
    of_refusal None makes told is e =
        let first = neither (not (is_actor w who) || not (is_pool w env.pool.0)) (not (is_no_group_or_group w env.group.0)) (none_holds (create_refusals w who env) is).0 in
        group_within w env.group.0 (not_false (is_no_group_or_group w env.group.0) first.1)

-- a change that releases a group's objects
releases : (next_number : ℕ) (w : World) (ch : Change) → IsAllowed next_number w ch → (group : GroupId) → Releases group ≡ (effect_of ch).objects → is_group w group.0 ≡ true
releases next_number w (change.BeginClose who other cancel context notices) a group e =
    let same : other ≡ group = cc in
    subst (λ (g : GroupId). is_group w g.0 ≡ true) same a.made
releases next_number w (change.Operate c Issue) a group e = absurd cc
releases next_number w (change.Operate c GiveUp) a group e = absurd cc
releases next_number w (change.Operate c (Complete error bytes)) a group e = absurd cc
releases next_number w (change.BeginWait who (awaited.Object other) cancel) a group e = absurd cc
releases next_number w (change.BeginWait who (awaited.Kernel kernel) cancel) a group e = absurd cc
releases next_number w _ a group e = absurd cc

-- an object that is made is of no group or of one that was made, and what is closed is one
abbrev pub IsGroupMade : World → Call → Answer → Type 0
IsGroupMade w (Create kind routine context env) (Made number) = env.group.0 ≤ length w.groups
IsGroupMade w (BeginClose group cancel context) (Closing covered cancelled notices) = IsMade (length w.groups) group.0
IsGroupMade w call a = Unit {0}

group_made : (w : World) (left : ℕ) (who : Who) (call : Call) (a : Answer) → ((group : GroupId) → Releases group ≡ on_objects call a → is_group w group.0 ≡ true) → outcome_of (step w left who call) ≡ outcome.Done a → IsGroupMade w call a
group_made w left who (Create kind routine context env) (Made number) of told = created_within w left who kind routine context env number told
group_made w left who (BeginClose group cancel context) (Closing covered cancelled notices) of told = of_row (numbered w.groups group.0) refl (of group refl)
  where
    of_row : (row : Option GroupRow) → numbered w.groups group.0 ≡ row → is_some row ≡ true → IsMade (length w.groups) group.0
    of_row None there e = absurd cc
    of_row (Some row) there e = let at = numbered_some w.groups group.0 row there in (at.1, omega (arith, at.1, made w.groups (group.0 - 1) (ap is_some at.0)))
group_made w left who call a of told = tt

-- ---- along a history

abbrev AllWithin : ℕ → List ObjectRow → Type 0
AllWithin most os = AllByRecursion (λ (o : ObjectRow). o.env.group.0 ≤ most) os

objects_within : (w : World) (call : Call) (a : Answer) → IsGroupMade w call a → AllWithin (length w.groups) w.objects → AllWithin (length w.groups) (objects_told call a w.objects)
objects_within w (Create kind routine context env) (Made number) is all = all_append (λ (o : ObjectRow). o.env.group.0 ≤ length w.groups) w.objects _ all is
objects_within w call (Made number) is all = all
objects_within w (CloseObject kind object) (Closed later) is all = of_row (numbered w.objects object.0) refl
  where
    of_row : (row : Option ObjectRow) → numbered w.objects object.0 ≡ row → AllWithin (length w.groups) (released_row w.objects object.0 row)
    of_row None there = all
    of_row (Some row) there =
        all_set (λ (o : ObjectRow). o.env.group.0 ≤ length w.groups) w.objects (object.0 - 1) (record row { released = true })
        (all_get (λ (o : ObjectRow). o.env.group.0 ≤ length w.groups) w.objects (object.0 - 1) row all (numbered_some w.objects object.0 row there).0) all
objects_within w call (Closed later) is all = all
objects_within w (BeginClose group cancel context) (Closing covered cancelled notices) is all =
    all_map (λ (o : ObjectRow). o.env.group.0 ≤ length w.groups) (released_from group.0)
    (λ o here. elim (is_member group.0 o) as (λ b. (cond b (record o { released = true }) o).env.group.0 ≤ length w.groups) [ true ↦ here | false ↦ here ]) w.objects all
objects_within w call (Closing covered cancelled notices) is all = all
objects_within w call a is all = all

record Holds (limits : Limits) (before : List Entry) (w : World) : Type 0 where
  pub sound : IsSound (next_number_in w) w
  pub few : AreFew limits w
  pub grouped : AreGrouped limits w

entry_made : (w : World) (left : ℕ) (who : Who) (call : Call) (a : Answer) → IsSound (next_number_in w) w → outcome_of (step w left who call) ≡ outcome.Done a → IsGroupMade w call a
entry_made w left who call a sound told = of_entry (entered w left (record { who = who; call = call; answer = a }) sound told)
  where
    of_entry : Entered w left (record { who = who; call = call; answer = a }) → IsGroupMade w call a
    of_entry (Accepts e) =
        let effect : effect_told who call a ≡ effect_of e.change = subst (Tells who call) e.plan_is (plan_tells w left who call) in
        group_made w left who call a (λ group is. releases (next_number_in w) w e.change e.safe.allowed group (is ∙ ap (λ (x : Effect). x.objects) effect)) told
    of_entry (Refuses refusal same stays) = group_made w left who call a (λ group is. absurd (let no = is ∙ ap (on_objects call) same in cc)) told

entry_fits : (w : World) (left : ℕ) (entry : Entry) → IsSound (next_number_in w) w → outcome_of (step w left entry.who entry.call) ≡ outcome.Done entry.answer → length w.groups ≤ w.limits.groups → Fits w (length (led_to w entry).groups)
entry_fits w left entry sound told within = of_entry (entered w left entry sound told)
  where
    of_entry : Entered w left entry → Fits w (length (led_to w entry).groups)
    of_entry (Accepts e) = subst (λ (v : World). Fits w (length v.groups)) (sym e.leads) (groups_changed (next_number_in w) w e.change e.safe.allowed within)
    of_entry (Refuses refusal same stays) = subst (λ (v : World). Fits w (length v.groups)) (sym stays) (omega arith, within)

keeps : (limits : Limits) → Along.IsKept (Holds limits)
keeps limits before w left entry h told =
    let m : Moved limits w entry.who entry.call entry.answer (led_to w entry) = entry_moved limits w left entry.who entry.call entry.answer h.sound h.few told in
    let most : w.limits.groups ≡ limits.groups = ap (λ (l : Limits). l.groups) h.few.limits_same in
    let fits : Fits w (length (led_to w entry).groups) = entry_fits w left entry h.sound told (omega (arith, most, h.grouped.groups)) in
    record {
      sound = m.sound_after;
      few = m.few_after;
      grouped = record {
        groups = omega (arith, fits.1, most);
        objects = all_along (λ (o : ObjectRow). o.env.group.0 ≤ length w.groups) (λ (o : ObjectRow). o.env.group.0 ≤ length (led_to w entry).groups) (λ o here. omega (arith, here, fits.0)) (led_to w entry).objects
            (subst (AllWithin (length w.groups)) (sym m.objects) (objects_within w entry.call entry.answer (entry_made w left entry.who entry.call entry.answer h.sound told) h.grouped.objects));
      };
    }

module _ (r : Recording) (legal : IsLegal r.limits r.capacity r.history) where
  pub grouped : AreGrouped r.limits (world_behind r)
  grouped =
      let h : Holds r.limits r.history (world_behind r)
      = kept_to_end (Holds r.limits) (keeps r.limits) r.capacity 0 [] r.history (opening r.limits) (record { sound = opening_sound r.limits; few = opening_few r.limits; grouped = record { groups = omega arith; objects = tt } }) legal in
      h.grouped

  -- the group of an object that is made, and one that is closed
  pub named_group : (who : Who) (call : Call) (a : Answer) → outcome_behind r who call ≡ outcome.Done a → IsGroupMade (world_behind r) call a
  named_group who call a told = entry_made (world_behind r) (room_of r) who call a (reached r legal).sound told
