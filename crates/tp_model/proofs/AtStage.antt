-- What conditions find of an actor at a stage.
use Rattle.std.proofs.Common.{◌≡◌, ℕ, Bool, true, false, cond, ◌||◌, Option, Some, None, option_map, is_none, is_some, refl, sym, ap, ◌∙◌, subst, find}
use Rattle.std.specs.Option.{option_map_or}
use Rattle.tp_base.specs.declared.ids.PoolId.{PoolId}
use Rattle.tp_base.specs.declared.ids.RoutineId.{RoutineId}
use Rattle.tp_base.specs.declared.ids.Who.{Who}
use Rattle.tp_base.specs.declared.ids.Who.TheVariants.{Client, Worker}
use Rattle.tp_base.specs.declared.plans.Stage.{Stage}
use Rattle.tp_base.specs.declared.plans.Stage.TheVariants as stage
use Rattle.tp_base.specs.declared.rows.CallbackRow.{CallbackRow}
use Rattle.tp_base.specs.declared.rows.ClientRow.{ClientRow}
use Rattle.tp_base.specs.declared.rows.WorkerRow.{WorkerRow}
use Rattle.tp_model.specs.Conditions.{busy_in, idle_in, is_actor, is_attached, is_finished, is_in_wait, is_without_callback, runs_callback}
use Rattle.tp_model.specs.Counts.{callback_of, has_number, numbered}
use Rattle.tp_model.specs.Stages.{IsAtStage, is_at_pool, is_busy_stage, is_in_part, is_over_stage}
use Rattle.tp_model.specs.Support.Standing.{client_stage, routine_at, stage_at, stage_in, worker_stage}
use Rattle.tp_model.specs.World.{World}
use Rattle.tp_model.proofs.Refusals.{false_true}

module _ (w : World) (waits : Bool) where
  client_at : (number : ℕ) (r : ClientRow) → numbered w.clients number ≡ Some r → is_in_wait w (Client number) ≡ waits → IsAtStage w (Client number) (client_stage r) waits
  client_at number r is wait =
      record {
        actor = ap (λ (o : Option ClientRow). is_some o || false) is;
        finished = ap (λ (o : Option ClientRow). option_map_or (λ (x : ClientRow). x.finished) o false) is ∙ over r.finished;
        attached = no_pool r.finished;
        runs = no_run r.finished;
        idle = λ e. absurd (not_idle r.finished e);
        busy = λ routine e. absurd (not_busy r.finished routine e);
        wait = wait;
      }
    where
      over : (f : Bool) → f ≡ is_over_stage (cond f stage.Over stage.Playing)
      over true = refl
      over false = refl

      no_pool : (f : Bool) → false ≡ is_at_pool (cond f stage.Over stage.Playing)
      no_pool true = refl
      no_pool false = refl

      no_run : (f : Bool) → false ≡ is_busy_stage (cond f stage.Over stage.Playing)
      no_run true = refl
      no_run false = refl

      not_idle : (f : Bool) → cond f stage.Over stage.Playing ≡ stage.Idle → ⊥
      not_idle true e = cc
      not_idle false e = cc

      not_busy : (f : Bool) (routine : RoutineId) → cond f stage.Over stage.Playing ≡ stage.Busy routine → ⊥
      not_busy true routine e = cc
      not_busy false routine e = cc

  -- of a worker's row
  actor_row : (number : ℕ) (row : WorkerRow) → numbered w.workers number ≡ Some row → is_actor w (Worker number) ≡ true
  actor_row number row is = ap (λ (o : Option WorkerRow). is_some o) is

  attached_row : (number : ℕ) (row : WorkerRow) → numbered w.workers number ≡ Some row → is_attached w (Worker number) ≡ is_some row.pool
  attached_row number row is = ap (λ (o : Option WorkerRow). option_map_or (λ (x : WorkerRow). is_some x.pool) o false) is

  runs_row : (number : ℕ) (row : WorkerRow) → numbered w.workers number ≡ Some row → runs_callback w (Worker number) ≡ is_some row.callback
  runs_row number row is = ap (λ (o : Option WorkerRow). option_map_or (λ (x : WorkerRow). is_some x.callback) o false) is

  worker_at_stage : (number : ℕ) (pool : Option PoolId) (callback : Option ℕ) (persistent : Bool) (at : Stage) → numbered w.workers number ≡ Some (record { pool = pool; callback = callback; persistent = persistent }) → worker_stage w.callbacks pool callback ≡ Some at
      → is_in_wait w (Worker number) ≡ waits → IsAtStage w (Worker number) at waits
  worker_at_stage number None None persistent at is e wait =
      let same : stage.Away ≡ at = cc in
      subst (λ s. IsAtStage w (Worker number) s waits) same
      (record { actor = actor_row number _ is; finished = refl; attached = attached_row number _ is; runs = runs_row number _ is; idle = λ h. absurd cc; busy = λ routine h. absurd cc; wait = wait })
  worker_at_stage number None (Some n) persistent at is e wait = absurd cc
  worker_at_stage number (Some pool) None persistent at is e wait =
      let same : stage.Idle ≡ at = cc in
      subst (λ s. IsAtStage w (Worker number) s waits) same
      (record {
        actor = actor_row number _ is;
        finished = refl;
        attached = attached_row number _ is;
        runs = runs_row number _ is;
        idle = λ h. record { by = record { worker = number; pool = pool; persistent = persistent }; is = ap (λ (o : Option WorkerRow). idle_in number o) is };
        busy = λ routine h. absurd cc;
        wait = wait;
      })
  worker_at_stage number (Some pool) (Some n) persistent at is e wait = of_row (find (has_number n) w.callbacks) refl e
    where
      of_row : (o : Option CallbackRow) → callback_of w n ≡ o → option_map (λ (routine : RoutineId). stage.Busy routine) (option_map (λ (c : CallbackRow). c.routine) o) ≡ Some at → IsAtStage w (Worker number) at waits
      of_row None there h = absurd cc
      of_row (Some c) there h =
          let same : stage.Busy c.routine ≡ at = cc in
          subst (λ s. IsAtStage w (Worker number) s waits) same
          (record {
            actor = actor_row number _ is;
            finished = refl;
            attached = attached_row number _ is;
            runs = runs_row number _ is;
            idle = λ g. absurd cc;
            busy = λ routine g.
                record {
                  by = record { worker = number; pool = pool; callback = c; persistent = persistent };
                  is = ap (λ (o : Option WorkerRow). busy_in w number o) is ∙ ap (option_map (λ (x : CallbackRow). record { worker = number; pool = pool; callback = x; persistent = persistent })) there;
                  routine_is = cc;
                };
            wait = wait;
          })

  pub at_stage : (who : Who) (at : Stage) → stage_in w who ≡ Some at → is_in_wait w who ≡ waits → IsAtStage w who at waits
  at_stage (Client number) at is wait = of_row (numbered w.clients number) refl is
    where
      of_row : (o : Option ClientRow) → numbered w.clients number ≡ o → option_map client_stage o ≡ Some at → IsAtStage w (Client number) at waits
      of_row None there e = absurd cc
      of_row (Some r) there e = let same : client_stage r ≡ at = cc in subst (λ s. IsAtStage w (Client number) s waits) same (client_at number r there wait)
  at_stage (Worker number) at is wait = of_row (numbered w.workers number) refl is
    where
      of_row : (o : Option WorkerRow) → numbered w.workers number ≡ o → stage_at w.callbacks o ≡ Some at → IsAtStage w (Worker number) at waits
      of_row None there e = absurd cc
      of_row (Some row) there e = worker_at_stage number row.pool row.callback row.persistent at there e wait

-- a worker neither plays nor has finished, and a client is at no stage of a worker
pub worker_stages : (w : World) (number : ℕ) (at : Stage) → stage_in w (Worker number) ≡ Some at → (at ≡ stage.Playing → ⊥) × (at ≡ stage.Over → ⊥)
worker_stages w number at is = of_row (numbered w.workers number) is
  where
    of_parts : (pool : Option PoolId) (callback : Option ℕ) → worker_stage w.callbacks pool callback ≡ Some at → (at ≡ stage.Playing → ⊥) × (at ≡ stage.Over → ⊥)
    of_parts None None e = ((λ h. absurd cc), (λ h. absurd cc))
    of_parts None (Some n) e = absurd cc
    of_parts (Some pool) None e = ((λ h. absurd cc), (λ h. absurd cc))
    of_parts (Some pool) (Some n) e = of_routine (routine_at w.callbacks n) e
      where
        of_routine : (o : Option RoutineId) → option_map (λ (routine : RoutineId). stage.Busy routine) o ≡ Some at → (at ≡ stage.Playing → ⊥) × (at ≡ stage.Over → ⊥)
        of_routine None h = absurd cc
        of_routine (Some r) h = ((λ g. absurd cc), (λ g. absurd cc))

    of_row : (o : Option WorkerRow) → stage_at w.callbacks o ≡ Some at → (at ≡ stage.Playing → ⊥) × (at ≡ stage.Over → ⊥)
    of_row None e = absurd cc
    of_row (Some row) e = of_parts row.pool row.callback e

abbrev pub is_client_stage : Stage → Bool
is_client_stage stage.Playing = true
is_client_stage stage.Over = true
is_client_stage _ = false

pub client_stages : (w : World) (number : ℕ) (at : Stage) → stage_in w (Client number) ≡ Some at → is_client_stage at ≡ true
client_stages w number at is = of_row (numbered w.clients number) is
  where
    of_stage : (f : Bool) → cond f stage.Over stage.Playing ≡ at → is_client_stage at ≡ true
    of_stage true e = ap is_client_stage (sym e)
    of_stage false e = ap is_client_stage (sym e)

    of_row : (o : Option ClientRow) → option_map client_stage o ≡ Some at → is_client_stage at ≡ true
    of_row None e = absurd cc
    of_row (Some r) e = of_stage r.finished (cc)

-- who plays or is in a callback has not finished, and as a worker runs one
pub part_ready : (w : World) (who : Who) (at : Stage) → stage_in w who ≡ Some at → is_in_part at ≡ true → (is_finished w who ≡ false) × (is_without_callback w who ≡ false)
part_ready w (Client number) at is part = (of_row (numbered w.clients number) is, refl)
  where
    of_stage : (f : Bool) → cond f stage.Over stage.Playing ≡ at → f ≡ false
    of_stage true e = absurd (false_true (ap is_in_part e ∙ part))
    of_stage false e = refl

    of_row : (o : Option ClientRow) → option_map client_stage o ≡ Some at → option_map_or (λ (r : ClientRow). r.finished) o false ≡ false
    of_row None e = refl
    of_row (Some r) e = of_stage r.finished (cc)
part_ready w (Worker number) at is part = (refl, of_row (numbered w.workers number) is)
  where
    of_parts : (pool : Option PoolId) (callback : Option ℕ) → worker_stage w.callbacks pool callback ≡ Some at → is_none callback ≡ false
    of_parts pool (Some n) e = refl
    of_parts None None e = let same : stage.Away ≡ at = cc in absurd (false_true (ap is_in_part same ∙ part))
    of_parts (Some pool) None e = let same : stage.Idle ≡ at = cc in absurd (false_true (ap is_in_part same ∙ part))

    of_row : (o : Option WorkerRow) → stage_at w.callbacks o ≡ Some at → option_map_or (λ (r : WorkerRow). is_none r.callback) o false ≡ false
    of_row None e = refl
    of_row (Some row) e = of_parts row.pool row.callback e
