-- No more objects are made than the limits allow, and there are as many clients and workers as they say.
use Rattle.std.proofs.Common.{◌≡◌, ℕ, ◌<◌, ◌≤◌, ◌+◌, ◌-◌, ◌||◌, is_some, slice_get, Bool, true, false, cond, Option, Some, None, length, nat_lt, refl, sym, ap, ◌∙◌, subst, arith}
use Rattle.std.proofs.lemmas.Bool.{leb-false}
use Rattle.std.proofs.lemmas.List.{length-set}
use Rattle.std.proofs.lemmas.Option.{slice_get_within}
use Rattle.tp_base.specs.declared.ids.Who.{Who}
use Rattle.tp_base.specs.declared.ids.Who.TheVariants.{Client, Worker}
use Rattle.tp_base.specs.declared.ids.RoutineId.{RoutineId}
use Rattle.tp_base.specs.declared.calls.Kind.{Kind}
use Rattle.tp_base.specs.declared.calls.Environ.{Environ}
use Rattle.tp_base.specs.declared.calls.Call.{Call}
use Rattle.tp_base.specs.declared.calls.Call.TheVariants.{Create}
use Rattle.tp_base.specs.declared.answers.Answer.{Answer}
use Rattle.tp_base.specs.declared.answers.Answer.TheVariants as answer
use Rattle.tp_base.specs.declared.answers.Entry.{Entry}
use Rattle.tp_base.specs.declared.answers.Outcome.TheVariants as outcome
use Rattle.tp_base.specs.declared.answers.Refusal.{Refusal}
use Rattle.tp_base.specs.declared.limits.Limits.{Limits}
use Rattle.tp_base.specs.declared.plans.Change.{Change}
use Rattle.tp_base.specs.declared.plans.Change.TheVariants as change
use Rattle.tp_base.specs.declared.rows.ClientRow.{ClientRow}
use Rattle.tp_base.specs.declared.rows.ObjectRow.{ObjectRow}
use Rattle.tp_base.specs.declared.rows.PoolRow.{PoolRow}
use Rattle.tp_base.specs.declared.rows.WorkerRow.{WorkerRow}
use Rattle.tp_base.specs.declared.plans.Plan.TheVariants.{Does}
use Rattle.tp_model.specs.World.{World, unattached}
use Rattle.tp_model.specs.Changes.{changed, change_pool, release_object, finished}
use Rattle.tp_model.specs.Conditions.{is_actor}
use Rattle.tp_model.specs.Counts.{numbered}
use Rattle.tp_model.specs.History.{led_to}
use Rattle.tp_model.specs.Stages.{IsActor}
use Rattle.tp_model.specs.Support.Sound.{IsSound}
use Rattle.tp_model.proofs.Entries.{Accepts, Entered, Refuses, entered}
use Rattle.tp_model.specs.Calls.Objects.{create_plan, create_refusals}
use Rattle.tp_model.specs.Laws.Entries.{Creation, created_by, created_answer}
use Rattle.tp_model.specs.Refusing.{first_refusal, unless_refused}
use Rattle.tp_model.specs.Step.{Refused, Full, outcome_of, stepped, within}
use Rattle.tp_model.specs.Table.{step}
use Rattle.tp_model.specs.Support.Moves.{Leads, HasCreated}
use Rattle.tp_model.proofs.Refusals.{false_true, none_holds, numbered_some}

pub record AreFew (limits : Limits) (w : World) : Type 0 where
  pub limits_same : w.limits ≡ limits
  pub objects : length w.objects ≤ limits.objects
  pub clients : length w.clients ≡ limits.clients
  pub workers : length w.workers ≡ limits.workers

-- no change makes a client or a worker
abbrev pub HasSameRows : World → World → Type 0
HasSameRows w after = (length after.clients ≡ length w.clients) × (length after.workers ≡ length w.workers)

changed_rows : (w : World) (ch : Change) → HasSameRows w (changed w ch)
changed_rows w change.Keep = (refl, refl)
changed_rows w change.CreatePool = (refl, refl)
changed_rows w (change.ChangePool pool how) = of_pool (slice_get w.pools pool.0)
  where
    of_pool : (o : Option PoolRow) → HasSameRows w (change_pool w pool.0 how o)
    of_pool None = (refl, refl)
    of_pool (Some row) = (refl, refl)
changed_rows w change.CreateGroup = (refl, refl)
changed_rows w (change.CloseGroup group) = (refl, refl)
changed_rows w (change.CreateObject row) = (refl, refl)
changed_rows w (change.ReleaseObject object) = of_object (numbered w.objects object.0)
  where
    of_object : (o : Option ObjectRow) → HasSameRows w (release_object w object o)
    of_object None = (refl, refl)
    of_object (Some row) = (refl, refl)
changed_rows w (change.QueueCallback callback) = (refl, refl)
changed_rows w (change.ExpectCallback callback) = (refl, refl)
changed_rows w (change.Operate callback how) = (refl, refl)
changed_rows w (change.Fire trigger first count) = (refl, refl)
changed_rows w (change.CreateKernel state) = (refl, refl)
changed_rows w (change.ChangeKernel kernel how) = (refl, refl)
changed_rows w (change.Attach worker pool) = (refl, length-set w.workers (worker - 1) (record { pool = Some pool; callback = None; persistent = false }))
changed_rows w (change.Detach by) = (refl, length-set w.workers (by.worker - 1) unattached)
changed_rows w (change.Take by callback) = (refl, length-set w.workers (by.worker - 1) (record { pool = Some by.pool; callback = Some callback.number; persistent = by.persistent || callback.persistent }))
changed_rows w (change.Mark by mark) = (refl, refl)
changed_rows w (change.Return by words first count) = (refl, length-set w.workers (by.worker - 1) (record { pool = Some by.pool; callback = None; persistent = by.persistent }))
changed_rows w (change.BeginWait who awaited cancel) = (refl, refl)
changed_rows w (change.BeginClose who group cancel context notices) = (refl, refl)
changed_rows w (change.GiveNotice who) = (refl, refl)
changed_rows w (change.EndWait who how) = (refl, refl)
changed_rows w (change.Finish client) = (length-set w.clients (client - 1) finished, refl)

pub rows_same : (w : World) (left : ℕ) (entry : Entry) → IsSound (length w.callbacks + 1) w → outcome_of (step w left entry.who entry.call) ≡ outcome.Done entry.answer → HasSameRows w (led_to w entry)
rows_same w left entry sound told = of_entry (entered w left entry sound told)
  where
    of_entry : Entered w left entry → HasSameRows w (led_to w entry)
    of_entry (Accepts e) = subst (HasSameRows w) (sym e.leads) (changed_rows w e.change)
    of_entry (Refuses refusal same stays) = subst (HasSameRows w) (sym stays) (refl, refl)

-- a Create that isn't refused finds room for one more
room_at : (w : World) (left : ℕ) (who : Who) (kind : Kind) (routine : RoutineId) (context : ℕ) (env : Environ) (number : ℕ)
    → outcome_of (step w left who (Create kind routine context env)) ≡ outcome.Done (answer.Made number) → length w.objects < w.limits.objects
unfolding create_plan
room_at w left who kind routine context env number told = of_refusal (first_refusal (create_refusals w who env)) _ _ refl told
  where
    of_full : (full : Bool) (refusal : Refusal) → outcome_of (cond full (Full left 1) (Refused refusal)) ≡ outcome.Done (answer.Made number) → length w.objects < w.limits.objects
    of_full true refusal e = absurd cc
    of_full false refusal e = absurd cc

    of_refusal : (r : Option Refusal) (makes : Change) (made : Answer) → first_refusal (create_refusals w who env) ≡ r → outcome_of (within w left (stepped w (unless_refused r (Does made makes)))) ≡ outcome.Done (answer.Made number)
        → length w.objects < w.limits.objects
    of_refusal (Some refusal) makes made is e = of_full (nat_lt left 1) refusal e
    of_refusal None makes made is e = leb-false w.limits.objects (length w.objects) (none_holds (create_refusals w who env) is).1.1.1.1.1.1.0

room_for : (w : World) (left : ℕ) (who : Who) (made : Call) (told : Answer) (c : Creation) → created_answer told made ≡ Some c → outcome_of (step w left who made) ≡ outcome.Done told → length w.objects < w.limits.objects
room_for w left who (Create kind routine context env) (answer.Made number) c is e = room_at w left who kind routine context env number e
room_for w left who _ (answer.Made number) c is e = absurd cc
room_for w left who made _ c is e = absurd cc

pub few_more : (limits : Limits) (w : World) (left : ℕ) (entry : Entry) (after : World) → Leads (length w.callbacks + 1) w entry after → HasSameRows w after → AreFew limits w → outcome_of (step w left entry.who entry.call) ≡ outcome.Done entry.answer → AreFew limits after
few_more limits w left entry after leads rows few told = record { limits_same = leads.limits ∙ few.limits_same; objects = of_created (created_by entry) refl leads.groups.counts; clients = rows.0 ∙ few.clients; workers = rows.1 ∙ few.workers }
  where
    of_created : (c : Option Creation) → created_by entry ≡ c → HasCreated c (length w.objects) (length after.objects) → length after.objects ≤ limits.objects
    of_created None is same = omega (arith, same, few.objects)
    of_created (Some c) is more = omega (arith, more.1, room_for w left entry.who entry.call entry.answer c is told, ap (λ (l : Limits). l.objects) few.limits_same)

-- an actor of the world is one of the limits
pub few_actor : (limits : Limits) (w : World) → AreFew limits w → (who : Who) → is_actor w who ≡ true → IsActor limits who
few_actor limits w few (Client number) is = of_row (numbered w.clients number) refl is
  where
    of_row : (o : Option ClientRow) → numbered w.clients number ≡ o → (is_some o || false) ≡ true → (1 ≤ number) × (number ≤ limits.clients)
    of_row None there e = absurd (false_true e)
    of_row (Some row) there e = let at = numbered_some w.clients number row there in (at.1, omega (arith, at.1, slice_get_within w.clients (number - 1) row at.0, few.clients))
few_actor limits w few (Worker number) is = of_row (numbered w.workers number) refl is
  where
    of_row : (o : Option WorkerRow) → numbered w.workers number ≡ o → is_some o ≡ true → (1 ≤ number) × (number ≤ limits.workers)
    of_row None there e = absurd (false_true e)
    of_row (Some row) there e = let at = numbered_some w.workers number row there in (at.1, omega (arith, at.1, slice_get_within w.workers (number - 1) row at.0, few.workers))
