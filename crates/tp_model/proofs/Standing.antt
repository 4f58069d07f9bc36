-- Along a legal history each actor stands where its own entries say.
use Rattle.std.proofs.Common.{◌≡◌, ℕ, suc, zero, ◌-◌, ◌<◌, ◌≤◌, Bool, true, false, cond, not, List, [], ◌∷◌, ◌++◌, replicate, slice_get, Option, Some, None, option_map, is_none, refl, sym, ap, ◌∙◌, subst, arith}
use Rattle.std.specs.List.{fold}
use Rattle.std.specs.Option.{option_map_or, unwrap_or}
use Rattle.std.proofs.lemmas.List.Elements.{filter-append}
use Rattle.std.proofs.lemmas.List.Sums.{fold-append}
use Rattle.tp_base.specs.Actors.{is_same_actor}
use Rattle.tp_base.specs.declared.answers.Answer.{Answer}
use Rattle.tp_base.specs.declared.answers.Answer.TheVariants as answer
use Rattle.tp_base.specs.declared.answers.Entry.{Entry}
use Rattle.tp_base.specs.declared.answers.Refusal.{Refusal}
use Rattle.tp_base.specs.declared.calls.Call.{Call}
use Rattle.tp_base.specs.declared.calls.Call.TheVariants.{Attach, BeginAcquire, BeginClose, BeginWait, Detach, Finish, Return, Take}
use Rattle.tp_base.specs.declared.ids.Who.{Who}
use Rattle.tp_base.specs.declared.ids.Who.TheVariants.{Client, Worker}
use Rattle.tp_base.specs.declared.limits.Limits.{Limits}
use Rattle.tp_base.specs.declared.plans.Change.{Change}
use Rattle.tp_base.specs.declared.plans.Change.TheVariants as change
use Rattle.tp_base.specs.declared.plans.Mark.TheVariants.{Long, Loose, Asks}
use Rattle.tp_base.specs.declared.plans.Plan.{Plan}
use Rattle.tp_base.specs.declared.plans.Plan.TheVariants as plans
use Rattle.tp_base.specs.declared.plans.Stage.{Stage}
use Rattle.tp_base.specs.declared.plans.Stage.TheVariants as stage
use Rattle.tp_base.specs.declared.ids.PoolId.{PoolId}
use Rattle.tp_base.specs.declared.ids.RoutineId.{RoutineId}
use Rattle.tp_base.specs.declared.rows.ClientRow.{ClientRow}
use Rattle.tp_base.specs.declared.rows.WorkerRow.{WorkerRow}
use Rattle.tp_model.specs.Calls.Clients.{finish, finish_plan, finish_refusals}
use Rattle.tp_model.specs.Calls.Groups.{begin_close_plan, begin_close_refusals}
use Rattle.tp_model.specs.Calls.Waits.{begin_acquire_plan, begin_acquire_refusals, begin_wait_plan, begin_wait_refusals}
use Rattle.tp_model.specs.Calls.Workers.{return, return_plan, return_refusals}
use Rattle.tp_model.specs.Changes.{changed}
use Rattle.tp_model.specs.Conditions.{busy_of, is_finished, is_in_wait, is_released, is_without_callback}
use Rattle.tp_model.specs.Counts.{numbered}
use Rattle.tp_model.specs.History.{IsLegal, after, is_refusal, led_to}
use Rattle.tp_model.specs.Refusing.{first_refusal, unless_refused}
use Rattle.tp_model.specs.Stages.{Finishes, IsActor, Joins, Leaves, Returns, Same, StageStep, Starts, first_stage, is_in_part, is_last_call, own, stage_after, stage_by, stage_of, stage_step, waits_after, waits_of, waits_step}
use Rattle.tp_model.specs.Support.Sound.{IsSound}
use Rattle.tp_model.specs.Support.Standing.{AreStanding, Moved, client_stage, moved_stage, moved_wait, routine_at, stage_at, stage_in, worker_stage}
use Rattle.tp_model.specs.Support.Told.{Told, is_begin_call, told_by, told_by_change}
use Rattle.tp_model.specs.Table.{plan}
use Rattle.tp_model.specs.World.{World, opening, unattached, unfinished}
use Rattle.tp_model.proofs.Entries.{Accepts, Entered, IsKept, Refuses, entered, entry_leads, kept_to_end, next_number_in}
use Rattle.tp_model.proofs.Moved.{change_moved, kept, same_routines}
use Rattle.tp_model.proofs.Refusals.{NoneHolds, both, false_true, neither, none_holds, numbered_at, same_actor_is}
use Rattle.tp_model.proofs.Sound.{opening_sound}

-- ---- the stage by a step

-- only a Finish finishes, and only a Return returns
finishes_call : (told : Answer) (made : Call) → stage_step told made ≡ Finishes → made ≡ Finish
finishes_call answer.Done Finish e = refl
finishes_call answer.Done _ e = absurd cc
finishes_call (answer.Attached pool) made e = joined made e
  where
    joined : (m : Call) → stage_step (answer.Attached pool) m ≡ Finishes → m ≡ Finish
    joined Attach h = absurd cc
    joined _ h = absurd cc
finishes_call (answer.Taken callback object routine context result) made e = taken made e
  where
    taken : (m : Call) → stage_step (answer.Taken callback object routine context result) m ≡ Finishes → m ≡ Finish
    taken Take h = absurd cc
    taken _ h = absurd cc
finishes_call (answer.Returned section mutex semaphore event first count) made e = returned made e
  where
    returned : (m : Call) → stage_step (answer.Returned section mutex semaphore event first count) m ≡ Finishes → m ≡ Finish
    returned Return h = absurd cc
    returned _ h = absurd cc
finishes_call _ made e = absurd cc

returns_call : (told : Answer) (made : Call) → stage_step told made ≡ Returns → made ≡ Return
returns_call (answer.Returned section mutex semaphore event first count) Return e = refl
returns_call (answer.Returned section mutex semaphore event first count) _ e = absurd cc
returns_call answer.Done made e = done made e
  where
    done : (m : Call) → stage_step answer.Done m ≡ Returns → m ≡ Return
    done Finish h = absurd cc
    done Detach h = absurd cc
    done _ h = absurd cc
returns_call (answer.Attached pool) made e = joined made e
  where
    joined : (m : Call) → stage_step (answer.Attached pool) m ≡ Returns → m ≡ Return
    joined Attach h = absurd cc
    joined _ h = absurd cc
returns_call (answer.Taken callback object routine context result) made e = taken made e
  where
    taken : (m : Call) → stage_step (answer.Taken callback object routine context result) m ≡ Returns → m ≡ Return
    taken Take h = absurd cc
    taken _ h = absurd cc
returns_call _ made e = absurd cc

-- what begins a wait leaves the stage as it is
begins_same : (told : Answer) (made : Call) → waits_step told made ≡ Some true → stage_step told made ≡ Same
begins_same (answer.Begun covered cancelled) made e = refl
begins_same (answer.Closing covered cancelled notices) made e = refl
begins_same answer.Done (BeginAcquire kernel) e = refl
begins_same answer.Done _ e = absurd cc
begins_same answer.Ended made e = absurd cc
begins_same answer.Exhausted made e = absurd cc
begins_same answer.Stalled made e = absurd cc
begins_same _ made e = absurd cc

-- a call that is neither leaves a client that plays and a worker in a callback at their stages, whatever its answer
pub playing_stays : (told : Answer) (made : Call) → is_last_call made ≡ false → stage_after stage.Playing made told ≡ stage.Playing
playing_stays told made more = of_step (stage_step told made) refl
  where
    of_step : (s : StageStep) → stage_step told made ≡ s → stage_by stage.Playing s ≡ stage.Playing
    of_step Finishes is = absurd (false_true (sym more ∙ ap is_last_call (finishes_call told made is)))
    of_step Same is = refl
    of_step Joins is = refl
    of_step Leaves is = refl
    of_step (Starts routine) is = refl
    of_step Returns is = refl

pub busy_stays : (routine : RoutineId) (told : Answer) (made : Call) → is_last_call made ≡ false → stage_after (stage.Busy routine) made told ≡ stage.Busy routine
busy_stays routine told made more = of_step (stage_step told made) refl
  where
    of_step : (s : StageStep) → stage_step told made ≡ s → stage_by (stage.Busy routine) s ≡ stage.Busy routine
    of_step Returns is = absurd (false_true (sym more ∙ ap is_last_call (returns_call told made is)))
    of_step Same is = refl
    of_step Joins is = refl
    of_step Leaves is = refl
    of_step (Starts other) is = refl
    of_step Finishes is = refl

-- ---- one entry more

own_snoc : {B : Type 0} (f : B → Entry → B) (first : B) (who : Who) (before : List Entry) (entry : Entry) → fold f first (own who (before ++ entry ∷ [])) ≡ cond (is_same_actor entry.who who) (f (fold f first (own who before)) entry) (fold f first (own who before))
own_snoc {B} f first who before entry =
    ap (fold f first) (filter-append (λ (e : Entry). is_same_actor e.who who) before (entry ∷ [])) ∙ fold-append f first (own who before) (own who (entry ∷ []))
    ∙ elim (is_same_actor entry.who who) as (λ b. fold f (fold f first (own who before)) (cond b (entry ∷ []) []) ≡ cond b (f (fold f first (own who before)) entry) (fold f first (own who before))) [ true ↦ refl | false ↦ refl ]

pub stage_snoc : (who : Who) (before : List Entry) (entry : Entry) → stage_of who (before ++ entry ∷ []) ≡ cond (is_same_actor entry.who who) (stage_after (stage_of who before) entry.call entry.answer) (stage_of who before)
stage_snoc who before entry = own_snoc (λ (s : Stage) (e : Entry). stage_after s e.call e.answer) (first_stage who) who before entry

pub waits_snoc : (who : Who) (before : List Entry) (entry : Entry) → waits_of who (before ++ entry ∷ []) ≡ cond (is_same_actor entry.who who) (waits_after (waits_of who before) entry.call entry.answer) (waits_of who before)
waits_snoc who before entry = own_snoc (λ (b : Bool) (e : Entry). waits_after b e.call e.answer) false who before entry

-- ---- what refusals leave

none_unless : (refusals : List (Bool × Refusal)) (p : Plan) (a : Answer) (ch : Change) → unless_refused (first_refusal refusals) p ≡ plans.Does a ch → NoneHolds refusals
none_unless refusals p a ch e = known (first_refusal refusals) refl e
  where
    known : (r : Option Refusal) → first_refusal refusals ≡ r → unless_refused r p ≡ plans.Does a ch → NoneHolds refusals
    known None is h = none_holds refusals is
    known (Some refusal) is h = absurd cc

-- who finishes or returns has no wait begun
finish_free : (w : World) (who : Who) (a : Answer) (ch : Change) → finish_plan w who ≡ plans.Does a ch → is_in_wait w who ≡ false
unfolding finish_plan
finish_free w who a ch is = (none_unless (finish_refusals w who) (finish who) a ch is).1.1.1.0

return_free : (w : World) (next_number : ℕ) (who : Who) (a : Answer) (ch : Change) → return_plan w next_number who ≡ plans.Does a ch → is_in_wait w who ≡ false
unfolding return_plan
return_free w next_number who a ch is = (none_unless (return_refusals w who) (return w next_number who (busy_of w who)) a ch is).1.1.1.1.0

-- who begins a wait has not finished, and as a worker runs a callback
abbrev IsReady : World → Who → Type 0
IsReady w who = (is_finished w who ≡ false) × (is_without_callback w who ≡ false)

begin_ready : (w : World) (left : ℕ) (who : Who) (made : Call) (a : Answer) (ch : Change) → is_begin_call made ≡ true → plan w left who made ≡ plans.Does a ch → IsReady w who
unfolding begin_wait_plan begin_close_plan begin_acquire_plan
begin_ready w left who (BeginWait kind object cancel) a ch begins is =
    let none = none_unless (begin_wait_refusals w who kind object.0) _ a ch is in
    ((neither (is_finished w who) (is_released w object.0) none.1.1.0).0, none.1.1.1.0)
begin_ready w left who (BeginClose group cancel context) a ch begins is =
    let none = none_unless (begin_close_refusals w who group.0) _ a ch is in
    (none.1.0, none.1.1.1.0)
begin_ready w left who (BeginAcquire kernel) a ch begins is =
    let none = none_unless (begin_acquire_refusals w who kernel.0) _ a ch is in
    (none.1.0, none.1.1.0)
begin_ready w left who _ a ch begins is = absurd (false_true begins)

-- a change by which a wait begins is that of a call that begins one
change_begins : (next_number : ℕ) (w : World) (ch : Change) → (told_by_change next_number w ch).waiting ≡ Some true → (told_by_change next_number w ch).begins ≡ true
change_begins next_number w (change.BeginWait who awaited cancel) e = refl
change_begins next_number w (change.BeginClose who group cancel context notices) e = refl
change_begins next_number w (change.Mark by Long) e = absurd cc
change_begins next_number w (change.Mark by Loose) e = absurd cc
change_begins next_number w (change.Mark by (Asks kind action)) e = absurd cc
change_begins next_number w _ e = absurd cc

-- such an actor plays, or is in a callback
pub ready_part : (w : World) (who : Who) (at : Stage) → stage_in w who ≡ Some at → IsReady w who → is_in_part at ≡ true
ready_part w (Client number) at is ready = of_row (numbered w.clients number) is ready.0
  where
    of_stage : (f : Bool) → cond f stage.Over stage.Playing ≡ at → f ≡ false → is_in_part at ≡ true
    of_stage true e free = absurd (false_true (sym free))
    of_stage false e free = ap is_in_part (sym e)

    of_row : (row : Option ClientRow) → option_map client_stage row ≡ Some at → option_map_or (λ (r : ClientRow). r.finished) row false ≡ false → is_in_part at ≡ true
    of_row None e free = absurd cc
    of_row (Some r) e free = of_stage r.finished (cc) free
ready_part w (Worker number) at is ready = of_row (numbered w.workers number) is ready.1
  where
    of_parts : (pool : Option PoolId) (callback : Option ℕ) → worker_stage w.callbacks pool callback ≡ Some at → is_none callback ≡ false → is_in_part at ≡ true
    of_parts pool None e free = absurd (false_true (sym free))
    of_parts None (Some n) e free = absurd cc
    of_parts (Some pool) (Some n) e free = of_routine (routine_at w.callbacks n) e
      where
        of_routine : (routine : Option RoutineId) → option_map (λ (r : RoutineId). stage.Busy r) routine ≡ Some at → is_in_part at ≡ true
        of_routine None h = absurd cc
        of_routine (Some r) h = let same : stage.Busy r ≡ at = cc in ap is_in_part (sym same)

    of_row : (row : Option WorkerRow) → stage_at w.callbacks row ≡ Some at → option_map_or (λ (r : WorkerRow). is_none r.callback) row false ≡ false → is_in_part at ≡ true
    of_row None e free = absurd cc
    of_row (Some row) e free = of_parts row.pool row.callback e free

-- ---- an entry moves its actor

entry_moved : (w : World) (left : ℕ) (entry : Entry) → IsSound (next_number_in w) w → Entered w left entry → Moved w entry.who (stage_step entry.answer entry.call) (waits_step entry.answer entry.call) (led_to w entry)
entry_moved w left entry s (Accepts e) =
    subst (Moved w entry.who (stage_step entry.answer entry.call) (waits_step entry.answer entry.call)) (sym e.leads)
    (subst (λ (t : Told). Moved w entry.who t.stage t.waiting (changed w e.change)) (sym e.safe.tells) (change_moved (next_number_in w) w entry.who e.change s e.safe.allowed e.safe.made_by))
entry_moved w left entry s (Refuses refusal same stays) =
    subst (Moved w entry.who (stage_step entry.answer entry.call) (waits_step entry.answer entry.call)) (sym stays)
    (subst (λ (a : Answer). Moved w entry.who (stage_step a entry.call) (waits_step a entry.call) w) (sym same) (kept w (next_number_in w) entry.who w s refl refl (same_routines w) refl))

-- who has a wait begun after a step plays or is in a callback, if so it was
calm_step : (at : Stage) (waits : Bool) (move : StageStep) (waiting : Option Bool) → (waits ≡ true → is_in_part at ≡ true) → (waiting ≡ Some true → (is_in_part at ≡ true) × (move ≡ Same))
    → (move ≡ Finishes → waits ≡ false) → (move ≡ Returns → waits ≡ false) → unwrap_or waiting waits ≡ true → is_in_part (stage_by at move) ≡ true
calm_step at waits move (Some false) was begins finish return e = absurd (false_true e)
calm_step at waits move (Some true) was begins finish return e = let b = begins refl in ap (λ m. is_in_part (stage_by at m)) b.1 ∙ of_stage at b.0
  where
    of_stage : (s : Stage) → is_in_part s ≡ true → is_in_part (stage_by s Same) ≡ true
    of_stage stage.Playing h = refl
    of_stage stage.Over h = h
    of_stage stage.Away h = h
    of_stage stage.Idle h = h
    of_stage (stage.Busy routine) h = refl
calm_step at waits move None was begins finish return e = of_stage at (was e)
  where
    of_playing : (m : StageStep) → move ≡ m → is_in_part (stage_by stage.Playing m) ≡ true
    of_playing Finishes is = absurd (false_true (sym (finish is) ∙ e))
    of_playing Same is = refl
    of_playing Joins is = refl
    of_playing Leaves is = refl
    of_playing (Starts routine) is = refl
    of_playing Returns is = refl

    of_busy : (routine : RoutineId) (m : StageStep) → move ≡ m → is_in_part (stage_by (stage.Busy routine) m) ≡ true
    of_busy routine Returns is = absurd (false_true (sym (return is) ∙ e))
    of_busy routine Same is = refl
    of_busy routine Joins is = refl
    of_busy routine Leaves is = refl
    of_busy routine (Starts other) is = refl
    of_busy routine Finishes is = refl

    of_stage : (s : Stage) → is_in_part s ≡ true → is_in_part (stage_by s move) ≡ true
    of_stage stage.Playing h = of_playing move refl
    of_stage stage.Over h = absurd (false_true h)
    of_stage stage.Away h = absurd (false_true h)
    of_stage stage.Idle h = absurd (false_true h)
    of_stage (stage.Busy routine) h = of_busy routine move refl

module _ (limits : Limits) where
  keeps_standing : IsKept (AreStanding limits)
  keeps_standing before w left entry p answers =
      record {
        sound = (entry_leads w left entry p.sound answers).sound;
        stages = λ who actor. m.stages who ∙ ap (moved_stage (is_same_actor entry.who who) move) (p.stages who actor) ∙ told_stage (is_same_actor entry.who who) (stage_of who before) ∙ ap (λ s. Some s) (sym (stage_snoc who before entry));
        waits = λ who. m.waits who ∙ ap (moved_wait (is_same_actor entry.who who) waiting) (p.waits who) ∙ sym (waits_snoc who before entry);
        calm = λ who actor e. ap is_in_part (stage_snoc who before entry) ∙ calm_by who actor (is_same_actor entry.who who) refl (sym (waits_snoc who before entry) ∙ e);
      }
    where
      move : StageStep
      move = stage_step entry.answer entry.call

      waiting : Option Bool
      waiting = waits_step entry.answer entry.call

      on : Entered w left entry
      on = entered w left entry p.sound answers

      m : Moved w entry.who move waiting (led_to w entry)
      m = entry_moved w left entry p.sound on

      told_stage : (own : Bool) (at : Stage) → moved_stage own move (Some at) ≡ Some (cond own (stage_after at entry.call entry.answer) at)
      told_stage true at = refl
      told_stage false at = refl

      -- what the plan of an accepted call shows of its actor
      free_of : (made : Call) → entry.call ≡ made → ((a : Answer) (ch : Change) → plan w left entry.who made ≡ plans.Does a ch → is_in_wait w entry.who ≡ false) → (is_refusal entry.answer ≡ true → ⊥) → is_in_wait w entry.who ≡ false
      free_of made is free accepted = of_entry on
        where
          of_entry : Entered w left entry → is_in_wait w entry.who ≡ false
          of_entry (Accepts e) = free entry.answer e.change (ap (plan w left entry.who) (sym is) ∙ e.plan_is)
          of_entry (Refuses refusal same stays) = absurd (accepted (ap is_refusal same))

      moving : (s : StageStep) → move ≡ s → (Same ≡ s → ⊥) → is_refusal entry.answer ≡ true → ⊥
      moving s is not_same refused = of_answer entry.answer refl refused
        where
          of_answer : (a : Answer) → entry.answer ≡ a → is_refusal a ≡ true → ⊥
          of_answer (answer.Refused refusal) same h = not_same (sym (ap (λ x. stage_step x entry.call) same) ∙ is)
          of_answer _ same h = absurd cc

      finish_calm : move ≡ Finishes → is_in_wait w entry.who ≡ false
      finish_calm is = free_of Finish (finishes_call entry.answer entry.call is) (λ a ch e. finish_free w entry.who a ch e) (moving Finishes is (λ h. absurd cc))

      return_calm : move ≡ Returns → is_in_wait w entry.who ≡ false
      return_calm is = free_of Return (returns_call entry.answer entry.call is) (λ a ch e. return_free w (next_number_in w) entry.who a ch e) (moving Returns is (λ h. absurd cc))

      begin_calm : waiting ≡ Some true → IsReady w entry.who
      begin_calm is = of_entry on
        where
          of_entry : Entered w left entry → IsReady w entry.who
          of_entry (Accepts e) =
              let begins : (told_by entry).begins ≡ true =
              ap (λ (t : Told). t.begins) e.safe.tells ∙ change_begins (next_number_in w) w e.change (sym (ap (λ (t : Told). t.waiting) e.safe.tells) ∙ is) in
              begin_ready w left entry.who entry.call entry.answer e.change (both (not (is_refusal entry.answer)) (is_begin_call entry.call) begins).1 e.plan_is
          of_entry (Refuses refusal same stays) = absurd (let none : None ≡ Some true = sym (ap (λ a. waits_step a entry.call) same) ∙ is in cc)

      calm_by : (who : Who) → IsActor limits who → (b : Bool) → is_same_actor entry.who who ≡ b → cond (is_same_actor entry.who who) (waits_after (waits_of who before) entry.call entry.answer) (waits_of who before) ≡ true
          → is_in_part (cond (is_same_actor entry.who who) (stage_after (stage_of who before) entry.call entry.answer) (stage_of who before)) ≡ true
      calm_by who actor false apart e =
          ap (λ b. is_in_part (cond b (stage_after (stage_of who before) entry.call entry.answer) (stage_of who before))) apart
          ∙ p.calm who actor (sym (ap (λ b. cond b (waits_after (waits_of who before) entry.call entry.answer) (waits_of who before)) apart) ∙ e)
      calm_by who actor true same e =
          let is : entry.who ≡ who = same_actor_is entry.who who same in
          let free : is_in_wait w entry.who ≡ false → waits_of who before ≡ false = λ h. sym (p.waits who) ∙ ap (is_in_wait w) (sym is) ∙ h in
          ap (λ b. is_in_part (cond b (stage_after (stage_of who before) entry.call entry.answer) (stage_of who before))) same
          ∙ calm_step (stage_of who before) (waits_of who before) move waiting (p.calm who actor)
          (λ begins. (ready_part w who (stage_of who before) (p.stages who actor) (subst (IsReady w) is (begin_calm begins)), begins_same entry.answer entry.call begins))
          (λ f. free (finish_calm f)) (λ r. free (return_calm r))
          (sym (ap (λ b. cond b (waits_after (waits_of who before) entry.call entry.answer) (waits_of who before)) same) ∙ e)

  opening_standing : AreStanding limits [] (opening limits)
  opening_standing = record { sound = opening_sound limits; stages = first; waits = λ who. refl; calm = λ who actor e. absurd (false_true e) }
    where
      replicated : {X : Type 0} (x : X) (n i : ℕ) → i < n → slice_get (replicate n x) i ≡ Some x
      replicated x zero i lt = absurd (omega (arith, lt))
      replicated x (suc n) zero lt = refl
      replicated x (suc n) (suc i) lt = replicated x n i (omega (arith, lt))

      row_of : {X : Type 0} (x : X) (n number : ℕ) → (1 ≤ number) × (number ≤ n) → numbered (replicate n x) number ≡ Some x
      row_of x n number made = numbered_at (replicate n x) number x made.0 (replicated x n (number - 1) (omega (arith, made.0, made.1)))

      first : (who : Who) → IsActor limits who → stage_in (opening limits) who ≡ Some (stage_of who [])
      first (Client number) actor = ap (option_map client_stage) (row_of unfinished limits.clients number actor)
      first (Worker number) actor = ap (stage_at []) (row_of unattached limits.workers number actor)

  pub standing : (capacity : ℕ) (history : List Entry) → IsLegal limits capacity history → AreStanding limits history (after limits history)
  standing capacity history legal = kept_to_end (AreStanding limits) keeps_standing capacity 0 [] history (opening limits) opening_standing legal
