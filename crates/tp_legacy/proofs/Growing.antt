-- No call takes an object or a group away, and none makes more than the limits allow.
use Rattle.std.proofs.Common.{◌≡◌, ℕ, ◌+◌, ◌-◌, ◌<◌, ◌≤◌, List, [], ◌∷◌, length, Option, None, Some, slice_get, refl, sym, ap, ◌∙◌, subst, arith, length-append}
use Rattle.std.proofs.lemmas.List.{append-nil, length-replicate, length-set}
use Rattle.tp_base.specs.declared.answers.Answer.{Answer}
use Rattle.tp_base.specs.declared.answers.Answer.TheVariants as answer
use Rattle.tp_base.specs.declared.answers.Entry.{Entry}
use Rattle.tp_base.specs.declared.answers.Outcome.{Outcome}
use Rattle.tp_base.specs.declared.answers.Outcome.TheVariants as outcome
use Rattle.tp_base.specs.declared.answers.Refusal.{Refusal}
use Rattle.tp_base.specs.declared.calls.Call.{Call}
use Rattle.tp_base.specs.declared.calls.Call.TheVariants.{Create, CreateGroup}
use Rattle.tp_base.specs.declared.ids.Who.{Who}
use Rattle.tp_base.specs.declared.limits.Limits.{Limits}
use Rattle.tp_base.specs.declared.plans.Change.{Change}
use Rattle.tp_base.specs.declared.plans.Change.TheVariants as change
use Rattle.tp_base.specs.declared.plans.Plan.TheVariants.{Does}
use Rattle.tp_base.specs.declared.rows.GroupRow.{GroupRow}
use Rattle.tp_base.specs.declared.rows.ObjectRow.{ObjectRow}
use Rattle.tp_base.specs.declared.rows.PoolRow.{PoolRow}
use Rattle.tp_model.specs.Changes.{changed, change_pool, release_object}
use Rattle.tp_model.specs.Counts.{numbered}
use Rattle.tp_model.specs.Groups.{close_row}
use Rattle.tp_model.specs.History.{led_to, room, IsLegal}
use Rattle.tp_model.specs.Laws.Entries.{created_answer, Creation}
use Rattle.tp_model.specs.Step.{outcome_of}
use Rattle.tp_model.specs.Support.Allowed.{IsAllowed}
use Rattle.tp_model.specs.Support.Moves.{HasCreated}
use Rattle.tp_model.specs.Support.Sound.{IsSound}
use Rattle.tp_model.specs.Refusing.{first_refusal, make_refusals, unless_refused}
use Rattle.tp_model.specs.Calls.Groups.{create_group_plan}
use Rattle.tp_model.specs.Table.{plan, step}
use Rattle.tp_model.specs.World.{World, opening, unattached, unfinished}
use Rattle.tp_model.proofs.Entries as Along
use Rattle.tp_model.proofs.Entries.{Accepts, Entered, entered, entry_leads, kept_to_end, next_number_in, Refuses, told_change}
use Rattle.tp_model.proofs.Few.{AreFew, few_more, rows_same}
use Rattle.tp_model.proofs.Sound.{opening_sound}
use Rattle.recorded.specs.Recordings.{outcome_behind, recorded, room_of, Recording, world_behind}
use Rattle.recorded.proofs.Histories.{after_append, legal_append}
use Rattle.tp_legacy.specs.Growing.{GoesOn, IsNext, objects_made}

-- ---- groups

-- a change leaves the groups, or adds one where there is room for it
pub data IsGroupsChange (w after : World) : Type 0 where
  Stay : length after.groups ≡ length w.groups → IsGroupsChange w after
  Adds : length after.groups ≡ length w.groups + 1 → length w.groups < w.limits.groups → IsGroupsChange w after

groups_changed : (n : ℕ) (w : World) (ch : Change) → IsAllowed n w ch → IsGroupsChange w (changed w ch)
groups_changed n w (change.ChangePool pool how) a = of_pool (slice_get w.pools pool.0)
  where
    of_pool : (o : Option PoolRow) → IsGroupsChange w (change_pool w pool.0 how o)
    of_pool None = Stay refl
    of_pool (Some row) = Stay refl
groups_changed n w change.CreateGroup a = Adds (length-append w.groups _) a
groups_changed n w (change.CloseGroup group) a = of_group (numbered w.groups group.0)
  where
    of_group : (o : Option GroupRow) → IsGroupsChange w (record w { groups = close_row w.groups group.0 o })
    of_group None = Stay refl
    of_group (Some row) = Stay (length-set w.groups (group.0 - 1) _)
groups_changed n w (change.ReleaseObject object) a = of_object (numbered w.objects object.0)
  where
    of_object : (o : Option ObjectRow) → IsGroupsChange w (release_object w object o)
    of_object None = Stay refl
    of_object (Some row) = Stay refl
groups_changed n w _ a = Stay refl

-- what CreateGroup does where it isn't refused
group_change : (w : World) (left : ℕ) (who : Who) (a : Answer) (ch : Change) → plan w left who CreateGroup ≡ Does a ch → ch ≡ change.CreateGroup
unfolding create_group_plan
group_change w left who a ch is = of_refusal (first_refusal (make_refusals w who [] w.limits.groups (length w.groups))) is
  where
    of_refusal : (r : Option Refusal) → unless_refused r (Does (answer.Made (length w.groups + 1)) change.CreateGroup) ≡ Does a ch → ch ≡ change.CreateGroup
    of_refusal (Some refusal) e = absurd cc
    of_refusal None e = cc

-- ---- one entry

abbrev IsGroupMade : Call → Answer → World → World → Type 0
IsGroupMade CreateGroup (answer.Made number) w after = length after.groups ≡ length w.groups + 1
IsGroupMade call a w after = Unit {0}

record Holds (limits : Limits) (before : List Entry) (w : World) : Type 0 where
  pub sound : IsSound (next_number_in w) w
  pub few : AreFew limits w
  pub groups : length w.groups ≤ limits.groups

record Grown (limits : Limits) (w : World) (entry : Entry) (after : World) : Type 0 where
  pub holds : Holds limits [] after
  pub objects : HasCreated (created_answer entry.answer entry.call) (length w.objects) (length after.objects)
  pub groups : length w.groups ≤ length after.groups
  pub group : IsGroupMade entry.call entry.answer w after

group_made : (w : World) (left : ℕ) (who : Who) (call : Call) (a : Answer) (ch : Change) → plan w left who call ≡ Does a ch → IsGroupMade call a w (changed w ch)
group_made w left who CreateGroup (answer.Made number) ch is = subst (λ (c : Change). IsGroupMade CreateGroup (answer.Made number) w (changed w c)) (sym (group_change w left who (answer.Made number) ch is)) (length-append w.groups _)
group_made w left who call a ch is = tt

none_made : (call : Call) (refusal : Refusal) (w : World) → IsGroupMade call (answer.Refused refusal) w w
none_made CreateGroup refusal w = tt
none_made call refusal w = tt

module _ (limits : Limits) (w : World) (left : ℕ) (entry : Entry) (h : Holds limits [] w) (told : outcome_of (step w left entry.who entry.call) ≡ outcome.Done entry.answer) where
  record OfGroups (after : World) : Type 0 where
    pub few : length after.groups ≤ limits.groups
    pub grow : length w.groups ≤ length after.groups
    pub group : IsGroupMade entry.call entry.answer w after

  of_change : (after : World) → IsGroupsChange w after → IsGroupMade entry.call entry.answer w after → OfGroups after
  of_change after (Stay same) group = record { few = omega (arith, same, h.groups); grow = omega (arith, same); group = group }
  of_change after (Adds one below) group = record { few = omega (arith, one, below, ap (λ (l : Limits). l.groups) h.few.limits_same); grow = omega (arith, one); group = group }

  of_groups : Entered w left entry → OfGroups (led_to w entry)
  of_groups (Accepts e) =
      subst OfGroups (sym e.leads)
      (of_change (changed w e.change) (groups_changed (next_number_in w) w e.change e.safe.allowed) (group_made w left entry.who entry.call entry.answer e.change e.plan_is))
  of_groups (Refuses refusal same stays) =
      subst OfGroups (sym stays)
      (of_change w (Stay refl) (subst (λ (a : Answer). IsGroupMade entry.call a w w) (sym same) (none_made entry.call refusal w)))

  grown : Grown limits w entry (led_to w entry)
  grown =
      let on = entry_leads w left entry h.sound told in
      let g = of_groups (entered w left entry h.sound told) in
      record {
        holds = record { sound = on.sound; few = few_more limits w left entry (led_to w entry) on.leads (rows_same w left entry h.sound told) h.few told; groups = g.few };
        objects = on.leads.groups.counts;
        groups = g.grow;
        group = g.group;
      }

-- ---- behind a recording

along : (limits : Limits) → Along.IsKept (Holds limits)
along limits before w left entry h told =
    let g = grown limits w left entry (record { sound = h.sound; few = h.few; groups = h.groups }) told in
    record { sound = g.holds.sound; few = g.holds.few; groups = g.holds.groups }

opening_few : (limits : Limits) → AreFew limits (opening limits)
opening_few limits = record { limits_same = refl; objects = omega arith; clients = length-replicate limits.clients unfinished; workers = length-replicate limits.workers unattached }

holds_behind : (r : Recording) → IsLegal r.limits r.capacity r.history → Holds r.limits [] (world_behind r)
holds_behind r legal =
    let h : Holds r.limits r.history (world_behind r)
    = kept_to_end (Holds r.limits) (along r.limits) r.capacity 0 [] r.history (opening r.limits) (record { sound = opening_sound r.limits; few = opening_few r.limits; groups = omega arith }) legal in
    record { sound = h.sound; few = h.few; groups = h.groups }

-- where nothing is written down nothing changes
pub stays_on : (r : Recording) → IsLegal r.limits r.capacity r.history → GoesOn r r
stays_on r legal =
    let h = holds_behind r legal in
    record { legal = legal; limits = refl; objects = omega arith; groups = omega arith; few_objects = h.few.objects; few_groups = h.groups }

objects_grow : (call : Call) (a : Answer) (before now : ℕ) → HasCreated (created_answer a call) before now → before ≤ now
objects_grow call a before now h = of_created (created_answer a call) h
  where
    of_created : (c : Option Creation) → HasCreated c before now → before ≤ now
    of_created None same = omega (arith, same)
    of_created (Some c) more = omega (arith, more.1)

-- what an answer says of what is made
is_next : (r next : Recording) (call : Call) (a : Answer) → HasCreated (created_answer a call) (objects_made r) (objects_made next) → IsGroupMade call a (world_behind r) (world_behind next) → IsNext r next call (outcome.Done a)
is_next r next (Create kind routine context env) (answer.Made number) objects group = (objects.0, objects.1)
is_next r next CreateGroup (answer.Made number) objects group = group
is_next r next call (answer.Made number) objects group = tt
is_next r next call a objects group = tt

-- a call that is made goes on
pub record IsMadeOn (r : Recording) (who : Who) (call : Call) (told : Outcome) : Type 0 where
  pub goes_on : GoesOn r (recorded r who call told)
  pub next : IsNext r (recorded r who call told) call told

pub made_on : (r : Recording) → IsLegal r.limits r.capacity r.history → (who : Who) (call : Call) (told : Outcome) → outcome_behind r who call ≡ told → IsMadeOn r who call told
made_on r legal who call (outcome.Done a) told =
    let entry : Entry = record { who = who; call = call; answer = a } in
    let next : Recording = recorded r who call (outcome.Done a) in
    let led : world_behind next ≡ led_to (world_behind r) entry = after_append (opening r.limits) r.history (entry ∷ []) in
    let g : Grown r.limits (world_behind r) entry (world_behind next) = subst (Grown r.limits (world_behind r) entry) (sym led) (grown r.limits (world_behind r) (room_of r) entry (holds_behind r legal) told) in
    let here : length r.history ≡ 0 + length r.history = omega arith in
    let legal_next : IsLegal r.limits r.capacity next.history =
    legal_append (opening r.limits) r.capacity 0 r.history (entry ∷ []) legal
    (subst (λ n. outcome_of (step (world_behind r) (room r.capacity (world_behind r) n) who call) ≡ outcome.Done a) here told, tt) in
    record {
      goes_on = record {
        legal = legal_next;
        limits = refl;
        objects = objects_grow call a (objects_made r) (objects_made next) g.objects;
        groups = g.groups;
        few_objects = g.holds.few.objects;
        few_groups = g.holds.groups;
      };
      next = is_next r next call a g.objects g.group;
    }
made_on r legal who call (outcome.Look look) told =
    let same : r ≡ recorded r who call (outcome.Look look) = ap (λ h. record r { history = h }) (sym (append-nil r.history)) in
    record { goes_on = subst (GoesOn r) same (stays_on r legal); next = tt }
made_on r legal who call (outcome.Full room cost) told =
    let same : r ≡ recorded r who call (outcome.Full room cost) = ap (λ h. record r { history = h }) (sym (append-nil r.history)) in
    record { goes_on = subst (GoesOn r) same (stays_on r legal); next = tt }

-- one after another
pub then_on : (r next last : Recording) → GoesOn r next → GoesOn next last → GoesOn r last
then_on r next last a b = record {
  legal = b.legal;
  limits = b.limits ∙ a.limits;
  objects = omega (arith, a.objects, b.objects);
  groups = omega (arith, a.groups, b.groups);
  few_objects = b.few_objects;
  few_groups = b.few_groups;
}
