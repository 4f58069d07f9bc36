-- What the machine gives each actor behind a legal history.
use Rattle.std.proofs.Common.{◌≡◌, ℕ, suc, zero, ◌+◌, ◌-◌, Bool, true, false, cond, not, ◌||◌, List, [], ◌∷◌, slice_get, nat_le, Option, Some, None, option_map, is_none, is_some, refl, sym, ap, ◌∙◌, find}
use Rattle.std.specs.List.{list_all, list_any}
use Rattle.tp_base.specs.Actors.{is_same_actor}
use Rattle.tp_base.specs.declared.answers.Answer.{Answer}
use Rattle.tp_base.specs.declared.answers.Answer.TheVariants as answer
use Rattle.tp_base.specs.declared.answers.Entry.{Entry}
use Rattle.tp_base.specs.declared.answers.Look.TheVariants as look
use Rattle.tp_base.specs.declared.answers.Outcome.TheVariants as outcome
use Rattle.tp_base.specs.declared.calls.Call.TheVariants.{Attach, Detach, End, Finish, Return, Take}
use Rattle.tp_base.specs.declared.ids.PoolId.{PoolId}
use Rattle.tp_base.specs.declared.ids.RoutineId.{RoutineId}
use Rattle.tp_base.specs.declared.ids.Who.{Who}
use Rattle.tp_base.specs.declared.ids.Who.TheVariants.{Client, Worker}
use Rattle.tp_base.specs.declared.limits.Limits.{Limits}
use Rattle.tp_base.specs.declared.plans.Change.TheVariants as change
use Rattle.tp_base.specs.declared.plans.Idle.{Idle}
use Rattle.tp_base.specs.declared.plans.Plan.TheVariants as plans
use Rattle.tp_base.specs.declared.plans.Stage.TheVariants as stage
use Rattle.tp_base.specs.declared.rows.CallbackRow.{CallbackRow}
use Rattle.tp_base.specs.declared.rows.ClientRow.{ClientRow}
use Rattle.tp_base.specs.declared.rows.Status.{Status}
use Rattle.tp_base.specs.declared.rows.WorkerRow.{WorkerRow}
use Rattle.tp_model.specs.Calls.Waits.{end_wait}
use Rattle.tp_model.specs.Calls.End.{end_unless_stalled}
use Rattle.tp_model.specs.Calls.Workers.{attach_to, detach, may_leave, pool_to_join, return, return_plan, take, take_callback}
use Rattle.tp_model.specs.Conditions.{is_in_wait}
use Rattle.tp_model.specs.Counts.{maximum, next, numbered, running}
use Rattle.tp_model.specs.History.{IsLegal, after}
use Rattle.tp_model.specs.Over.{goes_on, is_over}
use Rattle.tp_model.specs.Stages.{IsActor, IsAtStage, MachineFacts, is_at_pool, is_busy_stage, is_over_stage, is_return, is_wait_outcome, stage_of, waits_of}
use Rattle.tp_model.specs.Laws.Entries.{attached_by, taken_by}
use Rattle.tp_model.specs.Step.{outcome_of}
use Rattle.tp_model.specs.Support.Sound.{IsWorkerSound}
use Rattle.tp_model.specs.Support.Standing.{AreStanding, client_stage, stage_at, worker_stage}
use Rattle.tp_model.specs.Table.{step}
use Rattle.tp_model.specs.Waits.{wait_of}
use Rattle.tp_model.specs.World.{BegunWait, World}
use Rattle.tp_model.proofs.Entries.{next_number_in}
use Rattle.tp_model.proofs.Refusals.{both, false_true, numbered_some}
use Rattle.tp_model.proofs.Releasing.{any_found, not_true_false}
use Rattle.tp_model.proofs.SoundWorkers.{worker_at}
use Rattle.tp_model.proofs.Standing.{standing}
use Rattle.tp_model.proofs.AtStage.{at_stage, client_stages, is_client_stage, part_ready, worker_stages}
use Rattle.tp_model.proofs.Unrefused.{attach_is, detach_is, end_is, end_waits, finish_is, free_done, IsTelling, return_is, take_is, telling, waited}

-- ---- behind a world in which actors stand

found_wait : (w : World) (who : Who) → is_in_wait w who ≡ true → (b : BegunWait) × (wait_of w who ≡ Some b)
found_wait w who e = among w.waits e
  where
    among : (bs : List BegunWait) → list_any (λ (b : BegunWait). is_same_actor b.actor who) bs ≡ true → (b : BegunWait) × (find (λ (x : BegunWait). is_same_actor x.actor who) bs ≡ Some b)
    among [] h = absurd (false_true h)
    among (b ∷ bs) h = one (is_same_actor b.actor who) refl (λ g. among bs g) h
      where
        one : (t : Bool) → is_same_actor b.actor who ≡ t → (list_any (λ (x : BegunWait). is_same_actor x.actor who) bs ≡ true → (d : BegunWait) × (find (λ (x : BegunWait). is_same_actor x.actor who) bs ≡ Some d))
            → (is_same_actor b.actor who || list_any (λ (x : BegunWait). is_same_actor x.actor who) bs) ≡ true → (d : BegunWait) × (find (λ (x : BegunWait). is_same_actor x.actor who) (b ∷ bs) ≡ Some d)
        one true is later g = (b, ap (λ t. cond t (Some b) (find (λ (x : BegunWait). is_same_actor x.actor who) bs)) is)
        one false is later g =
            let rest = later (sym (ap (λ t. t || list_any (λ (x : BegunWait). is_same_actor x.actor who) bs) is) ∙ g) in
            (rest.0, ap (λ t. cond t (Some b) (find (λ (x : BegunWait). is_same_actor x.actor who) bs)) is ∙ rest.1)

all_numbered : {X : Type 0} (test : X → Bool) (rows : List X) (number : ℕ) (row : X) → list_all test rows ≡ true → numbered rows number ≡ Some row → test row ≡ true
all_numbered {X} test rows number row all is = at_place rows (number - 1) all (numbered_some rows number row is).0
  where
    at_place : (xs : List X) (i : ℕ) → list_all test xs ≡ true → slice_get xs i ≡ Some row → test row ≡ true
    at_place [] i h e = absurd cc
    at_place (x ∷ xs) zero h e = let same : x ≡ row = cc in ap test (sym same) ∙ (both (test x) (list_all test xs) h).0
    at_place (x ∷ xs) (suc i) h e = at_place xs i (both (test x) (list_all test xs) h).1 e

module _ (limits : Limits) (history : List Entry) (p : AreStanding limits history (after limits history)) where
  -- the world behind the history
  abbrev w : World
  w = after limits history

  here : (who : Who) → IsActor limits who → IsAtStage w who (stage_of who history) (waits_of who history)
  here who actor = at_stage w (waits_of who history) who (stage_of who history) (p.stages who actor) (p.waits who)

  finishes : (who : Who) → IsActor limits who → stage_of who history ≡ stage.Playing → waits_of who history ≡ false → (left : ℕ) → outcome_of (step w left who Finish) ≡ outcome.Done answer.Done
  finishes (Client number) actor at waits left =
      let h = here (Client number) actor in
      free_done w left (Client number) Finish p.sound (plans.Does answer.Done (change.Finish number)) answer.Done (change.Finish number)
      (finish_is w number h.actor (h.finished ∙ ap is_over_stage at) (h.wait ∙ waits)) refl refl
  finishes (Worker number) actor at waits left = absurd ((worker_stages w number (stage_of (Worker number) history) (p.stages (Worker number) actor)).0 at)

  returns : (who : Who) (routine : RoutineId) → IsActor limits who → stage_of who history ≡ stage.Busy routine → waits_of who history ≡ false → (left : ℕ) → is_return (outcome_of (step w left who Return)) ≡ true
  returns (Client number) routine actor at waits left = absurd (false_true (sym (ap is_client_stage at) ∙ client_stages w number (stage_of (Client number) history) (p.stages (Client number) actor)))
  returns (Worker number) routine actor at waits left =
      let h = here (Worker number) actor in
      let b = h.busy routine at in
      let is : return_plan w (next_number_in w) (Worker number) ≡ return w (next_number_in w) (Worker number) (Some b.by) =
      return_is w (next_number_in w) number h.actor (h.runs ∙ ap is_busy_stage at) (h.wait ∙ waits) ∙ ap (return w (next_number_in w) (Worker number)) b.is in
      ap is_return (free_done w left (Worker number) Return p.sound (return w (next_number_in w) (Worker number) (Some b.by)) _ _ is refl refl)

  ends : (who : Who) → IsActor limits who → waits_of who history ≡ true → (left : ℕ) → is_wait_outcome (outcome_of (step w left who End)) ≡ true
  ends who actor waits left =
      let ready = part_ready w who (stage_of who history) (p.stages who actor) (p.calm who actor waits) in
      let wait = found_wait w who (p.waits who ∙ waits) in
      waited w left who End p.sound (end_unless_stalled w left who (end_wait w left who (Some wait.0)))
      (end_is w left who (here who actor).actor ready.0 ready.1 (ap is_none wait.1) ∙ ap (λ b. end_unless_stalled w left who (end_wait w left who b)) wait.1) (end_waits w left who p.sound wait.0)

  attaches : (who : Who) → IsActor limits who → stage_of who history ≡ stage.Away → (left : ℕ) (told : Answer) → outcome_of (step w left who Attach) ≡ outcome.Done told → is_some (attached_by told) ≡ true
  attaches (Client number) actor at left told e = absurd (false_true (sym (ap is_client_stage at) ∙ client_stages w number (stage_of (Client number) history) (p.stages (Client number) actor)))
  attaches (Worker number) actor at left told e =
      let h = here (Worker number) actor in
      telling w left (Worker number) Attach p.sound (λ a. is_some (attached_by a) ≡ true) (attach_to (Worker number) (pool_to_join w)) told
      (attach_is w number h.actor (h.runs ∙ ap is_busy_stage at) (h.attached ∙ ap is_at_pool at)) (of_pool (pool_to_join w)) e
    where
      of_pool : (pool : Option ℕ) → IsTelling w left (Worker number) Attach p.sound (λ a. is_some (attached_by a) ≡ true) (attach_to (Worker number) pool)
      of_pool None = tt
      of_pool (Some pool) = refl

  takes : (who : Who) → IsActor limits who → stage_of who history ≡ stage.Idle → (left : ℕ) (told : Answer) → outcome_of (step w left who Take) ≡ outcome.Done told → is_some (taken_by told) ≡ true
  takes (Client number) actor at left told e = absurd (false_true (sym (ap is_client_stage at) ∙ client_stages w number (stage_of (Client number) history) (p.stages (Client number) actor)))
  takes (Worker number) actor at left told e =
      let h = here (Worker number) actor in
      let i = h.idle at in
      telling w left (Worker number) Take p.sound (λ a. is_some (taken_by a) ≡ true) (take_callback w i.by (next w i.by.pool.0 i.by.persistent)) told
      (take_is w number h.actor (h.runs ∙ ap is_busy_stage at) (h.attached ∙ ap is_at_pool at) ∙ ap (take w) i.is) (of_next i.by (next w i.by.pool.0 i.by.persistent)) e
    where
      of_next : (by : Idle) (c : Option CallbackRow) → IsTelling w left (Worker number) Take p.sound (λ a. is_some (taken_by a) ≡ true) (take_callback w by c)
      of_next by None = tt
      of_next by (Some c) =
          elim (nat_le (maximum w by.pool.0) (running w by.pool.0))
          as (λ b. IsTelling w left (Worker number) Take p.sound (λ a. is_some (taken_by a) ≡ true) (cond b (plans.Looked (look.AtMaximum (running w by.pool.0))) (plans.Does (answer.Taken c.number c.object c.routine c.context c.result) (change.Take by c)))) [
            | true ↦ tt
            | false ↦ refl
          ]

  leaves : (who : Who) → IsActor limits who → stage_of who history ≡ stage.Idle → (left : ℕ) (told : Answer) → outcome_of (step w left who Detach) ≡ outcome.Done told → told ≡ answer.Done
  leaves (Client number) actor at left told e = absurd (false_true (sym (ap is_client_stage at) ∙ client_stages w number (stage_of (Client number) history) (p.stages (Client number) actor)))
  leaves (Worker number) actor at left told e =
      let h = here (Worker number) actor in
      let i = h.idle at in
      telling w left (Worker number) Detach p.sound (λ a. a ≡ answer.Done) (detach w (Some i.by)) told
      (detach_is w number h.actor (h.runs ∙ ap is_busy_stage at) (h.attached ∙ ap is_at_pool at) ∙ ap (detach w) i.is) (of_pool i.by) e
    where
      of_pool : (by : Idle) → IsTelling w left (Worker number) Detach p.sound (λ a. a ≡ answer.Done) (detach w (Some by))
      of_pool by = elim (may_leave w by) as (λ b. IsTelling w left (Worker number) Detach p.sound (λ a. a ≡ answer.Done) (cond b (plans.Does answer.Done (change.Detach by)) (plans.Looked look.Stay))) [ true ↦ refl | false ↦ tt ]

  over_clients : (left : ℕ) → is_over w left ≡ true → (number : ℕ) → IsActor limits (Client number) → stage_of (Client number) history ≡ stage.Over
  over_clients left over number actor = of_row (numbered w.clients number) refl (p.stages (Client number) actor)
    where
      all : list_all (λ (r : ClientRow). r.finished) w.clients ≡ true
      all = (both (list_all (λ (r : ClientRow). r.finished) w.clients) (not (list_any (goes_on w left) w.callbacks)) over).0

      of_row : (o : Option ClientRow) → numbered w.clients number ≡ o → option_map client_stage o ≡ Some (stage_of (Client number) history) → stage_of (Client number) history ≡ stage.Over
      of_row None is e = absurd cc
      of_row (Some r) is e =
          let same : client_stage r ≡ stage_of (Client number) history = cc in
          sym same ∙ ap (λ f. cond f stage.Over stage.Playing) (all_numbered (λ (x : ClientRow). x.finished) w.clients number r all is)

  over_workers : (left : ℕ) → is_over w left ≡ true → (number : ℕ) → IsActor limits (Worker number) → is_busy_stage (stage_of (Worker number) history) ≡ false
  over_workers left over number actor = of_row (numbered w.workers number) refl (p.stages (Worker number) actor)
    where
      none : list_any (goes_on w left) w.callbacks ≡ false
      none = not_true_false (list_any (goes_on w left) w.callbacks) (both (list_all (λ (r : ClientRow). r.finished) w.clients) (not (list_any (goes_on w left) w.callbacks)) over).1

      of_parts : (pool : Option PoolId) (callback : Option ℕ) (worker : ℕ) → IsWorkerSound w.callbacks worker pool callback → worker_stage w.callbacks pool callback ≡ Some (stage_of (Worker number) history) → is_busy_stage (stage_of (Worker number) history) ≡ false
      of_parts None None worker sound e = let same : stage.Away ≡ stage_of (Worker number) history = cc in ap is_busy_stage (sym same)
      of_parts None (Some n) worker sound e = absurd cc
      of_parts (Some pool) None worker sound e = let same : stage.Idle ≡ stage_of (Worker number) history = cc in ap is_busy_stage (sym same)
      of_parts (Some pool) (Some n) worker sound e =
          absurd (false_true (sym none ∙ any_found (goes_on w left) n sound.callback w.callbacks sound.found (ap (λ (t : Status). goes_on w left (record sound.callback { status = t })) sound.runs)))

      of_row : (o : Option WorkerRow) → numbered w.workers number ≡ o → stage_at w.callbacks o ≡ Some (stage_of (Worker number) history) → is_busy_stage (stage_of (Worker number) history) ≡ false
      of_row None is e = absurd cc
      of_row (Some row) is e = of_parts row.pool row.callback (1 + (number - 1)) (worker_at w.callbacks 1 (number - 1) w.workers row p.sound.workers (numbered_some w.workers number row is).0) e

  facts : MachineFacts limits history
  facts =
      record {
        stands = here;
        calm = p.calm;
        finishes = finishes;
        returns = returns;
        ends = ends;
        attaches = attaches;
        takes = takes;
        leaves = leaves;
        over_clients = over_clients;
        over_workers = over_workers;
      }

pub machine_facts : (limits : Limits) (capacity : ℕ) (history : List Entry) → IsLegal limits capacity history → MachineFacts limits history
machine_facts limits capacity history legal = facts limits history (standing limits capacity history legal)
