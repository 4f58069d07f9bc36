-- Each change moves its actor as its entry tells: the stage that the rows give it, and its wait.
use Rattle.std.proofs.Common.{◌≡◌, ℕ, ◌+◌, ◌-◌, Bool, true, false, cond, not, ◌||◌, ◌==◌, List, [], ◌∷◌, ◌++◌, slice_get, slice_set, Option, Some, None, option_map, refl, sym, ap, ap₂, ◌∙◌, subst, filter, find, eqb-true, eq-eqb}
use Rattle.std.specs.List.{list_any}
use Rattle.std.proofs.lemmas.List.Folds.{list_any-append}
use Rattle.tp_base.specs.Actors.{is_same_actor}
use Rattle.tp_base.specs.declared.ids.PoolId.{PoolId}
use Rattle.tp_base.specs.declared.ids.RoutineId.{RoutineId}
use Rattle.tp_base.specs.declared.ids.Who.{Who}
use Rattle.tp_base.specs.declared.ids.Who.TheVariants.{Client, Worker}
use Rattle.tp_base.specs.declared.plans.Change.{Change}
use Rattle.tp_base.specs.declared.plans.Change.TheVariants as change
use Rattle.tp_base.specs.declared.plans.Mark.TheVariants.{Long, Loose, Asks}
use Rattle.tp_base.specs.declared.plans.Stage.{Stage}
use Rattle.tp_base.specs.declared.plans.Stage.TheVariants as stage
use Rattle.tp_base.specs.declared.rows.CallbackRow.{CallbackRow}
use Rattle.tp_base.specs.declared.rows.ClientRow.{ClientRow}
use Rattle.tp_base.specs.declared.rows.ObjectRow.{ObjectRow}
use Rattle.tp_base.specs.declared.rows.PoolRow.{PoolRow}
use Rattle.tp_base.specs.declared.rows.WaitTarget.TheVariants.{Group}
use Rattle.tp_base.specs.declared.rows.WorkerRow.{WorkerRow}
use Rattle.tp_model.specs.Actions.{returning, slots_of}
use Rattle.tp_model.specs.Changes.{change_pool, changed, finished, give_notice, marked, notified, operated, release_object, replaced, returned, taken}
use Rattle.tp_model.specs.Conditions.{is_in_wait}
use Rattle.tp_model.specs.Counts.{has_number, numbered}
use Rattle.tp_model.specs.Sources.{firing, rows_of, sources_of}
use Rattle.tp_model.specs.Stages.{Finishes, Joins, Leaves, Returns, Same, StageStep, Starts, stage_by}
use Rattle.tp_model.specs.Support.Allowed.{IsAllowed, IsMadeBy}
use Rattle.tp_model.specs.Support.Sound.{IsSound, IsWorkerSound}
use Rattle.tp_model.specs.Support.Standing.{Moved, client_stage, moved_stage, moved_wait, routine_at, stage_at, stage_in, worker_stage}
use Rattle.tp_model.specs.Support.Told.{told_by_change}
use Rattle.tp_model.specs.Waits.{target_of, cancel_where, cancelled, is_cancelled_by}
use Rattle.tp_model.specs.World.{BegunWait, World, unattached, unfinished}
use Rattle.tp_model.proofs.Callbacks.{find_replaced, find_replaced_other}
use Rattle.tp_model.proofs.Cancelling.{cancelled_found, find_cancelled}
use Rattle.tp_model.proofs.Lists.{find_more, get_set}
use Rattle.tp_model.proofs.Refusals.{false_true, is_own_actor, numbered_at, numbered_some, or_false, or_true, same_actor_is}
use Rattle.tp_model.proofs.Releasing.{numbered_set_other}
use Rattle.tp_model.proofs.SoundWorkers.{worker_at}

-- ---- nothing moves

stage_stays : (at : Stage) → stage_by at Same ≡ at
stage_stays stage.Playing = refl
stage_stays stage.Over = refl
stage_stays stage.Away = refl
stage_stays stage.Idle = refl
stage_stays (stage.Busy routine) = refl

same_moved : (own : Bool) (at : Option Stage) → at ≡ moved_stage own Same at
same_moved own None = refl
same_moved true (Some at) = ap (λ s. Some s) (sym (stage_stays at))
same_moved false (Some at) = refl

other_moved : (move : StageStep) (at : Option Stage) → at ≡ moved_stage false move at
other_moved move None = refl
other_moved move (Some at) = refl

wait_stays : (own waits : Bool) → waits ≡ moved_wait own None waits
wait_stays true waits = refl
wait_stays false waits = refl

-- ---- the routines of callbacks

module _ (w : World) where
  -- what is found has its routine still
  abbrev pub KeepsRoutines : List CallbackRow → Type 0
  KeepsRoutines now = (n : ℕ) (c : CallbackRow) → find (has_number n) w.callbacks ≡ Some c → routine_at now n ≡ Some c.routine

  pub same_routines : KeepsRoutines w.callbacks
  same_routines n c found = ap (option_map (λ (x : CallbackRow). x.routine)) found

  more_routines : (now new : List CallbackRow) → KeepsRoutines now → KeepsRoutines (now ++ new)
  more_routines now new keeps n c found = of_row (find (has_number n) now) refl (keeps n c found)
    where
      of_row : (o : Option CallbackRow) → find (has_number n) now ≡ o → option_map (λ (x : CallbackRow). x.routine) o ≡ Some c.routine → routine_at (now ++ new) n ≡ Some c.routine
      of_row None is e = absurd cc
      of_row (Some d) is e = ap (option_map (λ (x : CallbackRow). x.routine)) (find_more (has_number n) d now new is) ∙ e

  replaced_routines : (r old : CallbackRow) → find (has_number r.number) w.callbacks ≡ Some old → r.routine ≡ old.routine → KeepsRoutines (replaced r w.callbacks)
  replaced_routines r old there same n c found = known (has_number n r) refl
    where
      known : (b : Bool) → has_number n r ≡ b → routine_at (replaced r w.callbacks) n ≡ Some c.routine
      known false other = ap (option_map (λ (x : CallbackRow). x.routine)) (find_replaced_other r n w.callbacks other ∙ found)
      known true e =
          let is : r.number ≡ n = eqb-true r.number n e in
          let both_found : Some old ≡ Some c = sym there ∙ ap (λ k. find (has_number k) w.callbacks) is ∙ found in
          let its : old ≡ c = cc in
          ap (routine_at (replaced r w.callbacks)) (sym is) ∙ ap (option_map (λ (x : CallbackRow). x.routine)) (find_replaced r old w.callbacks there)
          ∙ ap (λ k. Some k) (same ∙ ap (λ (x : CallbackRow). x.routine) its)

  cancelled_routines : (test : CallbackRow → Bool) → KeepsRoutines (cancel_where test w.callbacks)
  cancelled_routines test n c found =
      ap (option_map (λ (x : CallbackRow). x.routine)) (find_cancelled test w.callbacks n ∙ ap (cancelled_found test) found)
      ∙ elim (test c) as (λ b. ◌≡◌ {A = Option RoutineId} (Some (cond b (cancelled c) c).routine) (Some c.routine)) [ true ↦ refl | false ↦ refl ]

  -- ---- stages

  row_stage : (now : List CallbackRow) (worker : ℕ) (pool : Option PoolId) (callback : Option ℕ) → KeepsRoutines now → IsWorkerSound w.callbacks worker pool callback → worker_stage now pool callback ≡ worker_stage w.callbacks pool callback
  row_stage now worker None None keeps sound = refl
  row_stage now worker None (Some n) keeps sound = refl
  row_stage now worker (Some pool) None keeps sound = refl
  row_stage now worker (Some pool) (Some n) keeps sound =
      ap (option_map (λ (routine : RoutineId). stage.Busy routine)) (keeps n sound.callback sound.found ∙ sym (ap (option_map (λ (x : CallbackRow). x.routine)) sound.found))

  -- where the callbacks keep their routines, a row says what it said
  same_stage : (next_number number : ℕ) (now : List CallbackRow) → IsSound next_number w → KeepsRoutines now → stage_at now (numbered w.workers number) ≡ stage_at w.callbacks (numbered w.workers number)
  same_stage next_number number now s keeps = of_row (numbered w.workers number) refl
    where
      of_row : (row : Option WorkerRow) → numbered w.workers number ≡ row → stage_at now row ≡ stage_at w.callbacks row
      of_row None is = refl
      of_row (Some row) is = row_stage now (1 + (number - 1)) row.pool row.callback keeps (worker_at w.callbacks 1 (number - 1) w.workers row s.workers (numbered_some w.workers number row is).0)

  module _ (next_number : ℕ) (actor : Who) (after : World) (s : IsSound next_number w) where
    abbrev StagesMove : StageStep → Type 0
    StagesMove move = (who : Who) → stage_in after who ≡ moved_stage (is_same_actor actor who) move (stage_in w who)

    abbrev WaitsMove : Option Bool → Type 0
    WaitsMove waiting = (who : Who) → is_in_wait after who ≡ moved_wait (is_same_actor actor who) waiting (is_in_wait w who)

    stages_kept : after.clients ≡ w.clients → after.workers ≡ w.workers → KeepsRoutines after.callbacks → StagesMove Same
    stages_kept clients workers keeps (Client n) = ap (λ (rows : List ClientRow). option_map client_stage (numbered rows n)) clients ∙ same_moved (is_same_actor actor (Client n)) (stage_in w (Client n))
    stages_kept clients workers keeps (Worker n) =
        ap (λ (rows : List WorkerRow). stage_at after.callbacks (numbered rows n)) workers ∙ same_stage next_number n after.callbacks s keeps
        ∙ same_moved (is_same_actor actor (Worker n)) (stage_in w (Worker n))

    waits_kept : after.waits ≡ w.waits → WaitsMove None
    waits_kept same who = ap (list_any (λ (b : BegunWait). is_same_actor b.actor who)) same ∙ wait_stays (is_same_actor actor who) (is_in_wait w who)

    pub kept : after.clients ≡ w.clients → after.workers ≡ w.workers → KeepsRoutines after.callbacks → after.waits ≡ w.waits → Moved w actor Same None after
    kept clients workers keeps waits = record { stages = stages_kept clients workers keeps; waits = waits_kept waits }

    -- the row of the actor, which is a worker, is put in the place of another
    stage_put : (number : ℕ) (old new : WorkerRow) (move : StageStep) (at : Stage) → actor ≡ Worker number → numbered w.workers number ≡ Some old → after.clients ≡ w.clients → after.workers ≡ slice_set w.workers (number - 1) new → KeepsRoutines after.callbacks
        → worker_stage w.callbacks old.pool old.callback ≡ Some at → worker_stage after.callbacks new.pool new.callback ≡ Some (stage_by at move) → StagesMove move
    stage_put number old new move at by stands clients workers keeps was now (Client n) =
        ap (λ (rows : List ClientRow). option_map client_stage (numbered rows n)) clients
        ∙ other_moved move (stage_in w (Client n)) ∙ ap (λ (a : Who). moved_stage (is_same_actor a (Client n)) move (stage_in w (Client n))) (sym by)
    stage_put number old new move at by stands clients workers keeps was now (Worker n) =
        ap (λ (rows : List WorkerRow). stage_at after.callbacks (numbered rows n)) workers ∙ known (n == number) refl
        ∙ ap (λ (a : Who). moved_stage (is_same_actor a (Worker n)) move (stage_in w (Worker n))) (sym by)
      where
        known : (b : Bool) → (n == number) ≡ b → stage_at after.callbacks (numbered (slice_set w.workers (number - 1) new) n) ≡ moved_stage (is_same_actor (Worker number) (Worker n)) move (stage_in w (Worker n))
        known true e =
            let is : number ≡ n = sym (eqb-true n number e) in
            let there = numbered_some w.workers number old stands in
            let put : numbered (slice_set w.workers (number - 1) new) number ≡ Some new = numbered_at (slice_set w.workers (number - 1) new) number new there.1 (get_set w.workers (number - 1) old new there.0) in
            subst (λ k. stage_at after.callbacks (numbered (slice_set w.workers (number - 1) new) k) ≡ moved_stage (is_same_actor (Worker number) (Worker k)) move (stage_in w (Worker k))) is
            (ap (stage_at after.callbacks) put ∙ now
            ∙ sym (ap (λ b. moved_stage b move (stage_in w (Worker number))) (is_own_actor (Worker number)) ∙ ap (λ o. moved_stage true move (stage_at w.callbacks o)) stands ∙ ap (moved_stage true move) was))
        known false e =
            let there = numbered_some w.workers number old stands in
            let apart : is_same_actor (Worker number) (Worker n) ≡ false = not_same (is_same_actor (Worker number) (Worker n)) refl in
            ap (stage_at after.callbacks) (numbered_set_other w.workers number n new there.1 e) ∙ same_stage next_number n after.callbacks s keeps
            ∙ other_moved move (stage_in w (Worker n)) ∙ ap (λ b. moved_stage b move (stage_in w (Worker n))) (sym apart)
          where
            not_same : (b : Bool) → is_same_actor (Worker number) (Worker n) ≡ b → b ≡ false
            not_same false is = refl
            not_same true is = absurd (false_true (sym e ∙ eq-eqb n number (sym (eqb-true number n is))))

    -- and of a client that finishes
    stage_end : (number : ℕ) → actor ≡ Client number → numbered w.clients number ≡ Some unfinished → after.clients ≡ slice_set w.clients (number - 1) finished → after.workers ≡ w.workers → KeepsRoutines after.callbacks → StagesMove Finishes
    stage_end number by stands clients workers keeps (Worker n) =
        ap (λ (rows : List WorkerRow). stage_at after.callbacks (numbered rows n)) workers ∙ same_stage next_number n after.callbacks s keeps
        ∙ other_moved Finishes (stage_in w (Worker n)) ∙ ap (λ (a : Who). moved_stage (is_same_actor a (Worker n)) Finishes (stage_in w (Worker n))) (sym by)
    stage_end number by stands clients workers keeps (Client n) =
        ap (λ (rows : List ClientRow). option_map client_stage (numbered rows n)) clients ∙ known (n == number) refl
        ∙ ap (λ (a : Who). moved_stage (is_same_actor a (Client n)) Finishes (stage_in w (Client n))) (sym by)
      where
        known : (b : Bool) → (n == number) ≡ b → option_map client_stage (numbered (slice_set w.clients (number - 1) finished) n) ≡ moved_stage (is_same_actor (Client number) (Client n)) Finishes (stage_in w (Client n))
        known true e =
            let is : number ≡ n = sym (eqb-true n number e) in
            let there = numbered_some w.clients number unfinished stands in
            let put : numbered (slice_set w.clients (number - 1) finished) number ≡ Some finished = numbered_at (slice_set w.clients (number - 1) finished) number finished there.1 (get_set w.clients (number - 1) unfinished finished there.0) in
            subst (λ k. option_map client_stage (numbered (slice_set w.clients (number - 1) finished) k) ≡ moved_stage (is_same_actor (Client number) (Client k)) Finishes (stage_in w (Client k))) is
            (ap (option_map client_stage) put
            ∙ sym (ap (λ b. moved_stage b Finishes (stage_in w (Client number))) (is_own_actor (Client number)) ∙ ap (λ o. moved_stage true Finishes (option_map client_stage o)) stands))
        known false e =
            let there = numbered_some w.clients number unfinished stands in
            let apart : is_same_actor (Client number) (Client n) ≡ false = not_same (is_same_actor (Client number) (Client n)) refl in
            ap (option_map client_stage) (numbered_set_other w.clients number n finished there.1 e)
            ∙ other_moved Finishes (stage_in w (Client n)) ∙ ap (λ b. moved_stage b Finishes (stage_in w (Client n))) (sym apart)
          where
            not_same : (b : Bool) → is_same_actor (Client number) (Client n) ≡ b → b ≡ false
            not_same false is = refl
            not_same true is = absurd (false_true (sym e ∙ eq-eqb n number (sym (eqb-true number n is))))

    -- ---- waits

    -- one more, of the actor
    waits_more : (wait : BegunWait) → wait.actor ≡ actor → after.waits ≡ w.waits ++ wait ∷ [] → WaitsMove (Some true)
    waits_more wait by more who =
        ap (list_any (λ (b : BegunWait). is_same_actor b.actor who)) more ∙ list_any-append (λ (b : BegunWait). is_same_actor b.actor who) w.waits (wait ∷ [])
        ∙ ap (λ (a : Who). is_in_wait w who || (is_same_actor a who || false)) by
        ∙ elim (is_same_actor actor who) as (λ b. (is_in_wait w who || (b || false)) ≡ moved_wait b (Some true) (is_in_wait w who)) [ true ↦ or_true (is_in_wait w who) | false ↦ or_false (is_in_wait w who) ]

    -- those of the actor are over
    waits_fewer : after.waits ≡ filter (λ (b : BegunWait). not (is_same_actor b.actor actor)) w.waits → WaitsMove (Some false)
    waits_fewer fewer who = ap (list_any (λ (b : BegunWait). is_same_actor b.actor who)) fewer ∙ known (is_same_actor actor who) refl
      where
        none_own : (bs : List BegunWait) → list_any (λ (b : BegunWait). is_same_actor b.actor actor) (filter (λ (b : BegunWait). not (is_same_actor b.actor actor)) bs) ≡ false
        none_own [] = refl
        none_own (b ∷ bs) = one (is_same_actor b.actor actor) refl (none_own bs)
          where
            one : (t : Bool) → is_same_actor b.actor actor ≡ t → list_any (λ (x : BegunWait). is_same_actor x.actor actor) (filter (λ (x : BegunWait). not (is_same_actor x.actor actor)) bs) ≡ false
                → list_any (λ (x : BegunWait). is_same_actor x.actor actor) (cond (not t) (b ∷ filter (λ (x : BegunWait). not (is_same_actor x.actor actor)) bs) (filter (λ (x : BegunWait). not (is_same_actor x.actor actor)) bs)) ≡ false
            one true is rest = rest
            one false is rest = ap (λ t. t || list_any (λ (x : BegunWait). is_same_actor x.actor actor) (filter (λ (x : BegunWait). not (is_same_actor x.actor actor)) bs)) is ∙ rest

        others : (bs : List BegunWait) → is_same_actor actor who ≡ false → list_any (λ (b : BegunWait). is_same_actor b.actor who) (filter (λ (b : BegunWait). not (is_same_actor b.actor actor)) bs) ≡ list_any (λ (b : BegunWait). is_same_actor b.actor who) bs
        others [] apart = refl
        others (b ∷ bs) apart = one (is_same_actor b.actor actor) refl (others bs apart)
          where
            one : (t : Bool) → is_same_actor b.actor actor ≡ t → list_any (λ (x : BegunWait). is_same_actor x.actor who) (filter (λ (x : BegunWait). not (is_same_actor x.actor actor)) bs) ≡ list_any (λ (x : BegunWait). is_same_actor x.actor who) bs
                → list_any (λ (x : BegunWait). is_same_actor x.actor who) (cond (not t) (b ∷ filter (λ (x : BegunWait). not (is_same_actor x.actor actor)) bs) (filter (λ (x : BegunWait). not (is_same_actor x.actor actor)) bs)) ≡ list_any (λ (x : BegunWait). is_same_actor x.actor who) (b ∷ bs)
            one true is rest =
                rest ∙ sym (ap (λ t. t || list_any (λ (x : BegunWait). is_same_actor x.actor who) bs) (ap (λ (a : Who). is_same_actor a who) (same_actor_is b.actor actor is) ∙ apart))
            one false is rest = ap (λ l. is_same_actor b.actor who || l) rest

        known : (own : Bool) → is_same_actor actor who ≡ own → list_any (λ (b : BegunWait). is_same_actor b.actor who) (filter (λ (b : BegunWait). not (is_same_actor b.actor actor)) w.waits) ≡ moved_wait own (Some false) (is_in_wait w who)
        known true e = ap (λ (a : Who). list_any (λ (b : BegunWait). is_same_actor b.actor a) (filter (λ (b : BegunWait). not (is_same_actor b.actor actor)) w.waits)) (sym (same_actor_is actor who e)) ∙ none_own w.waits
        known false e = others w.waits e

    -- each is its actor's still
    waits_given : (giver : Who) → after.waits ≡ give_notice giver w.waits → WaitsMove None
    waits_given giver given who = ap (list_any (λ (b : BegunWait). is_same_actor b.actor who)) given ∙ still w.waits ∙ wait_stays (is_same_actor actor who) (is_in_wait w who)
      where
        still : (bs : List BegunWait) → list_any (λ (b : BegunWait). is_same_actor b.actor who) (give_notice giver bs) ≡ list_any (λ (b : BegunWait). is_same_actor b.actor who) bs
        still [] = refl
        still (b ∷ bs) =
            elim (is_same_actor b.actor giver) as (λ t. (is_same_actor (cond t (notified b) b).actor who || list_any (λ (x : BegunWait). is_same_actor x.actor who) (give_notice giver bs)) ≡ list_any (λ (x : BegunWait). is_same_actor x.actor who) (b ∷ bs)) [
              | true ↦ ap (λ l. is_same_actor b.actor who || l) (still bs)
              | false ↦ ap (λ l. is_same_actor b.actor who || l) (still bs)
            ]

-- ---- each change

pub change_moved : (next_number : ℕ) (w : World) (actor : Who) (ch : Change) → IsSound next_number w → IsAllowed next_number w ch → IsMadeBy w actor ch
    → Moved w actor (told_by_change next_number w ch).stage (told_by_change next_number w ch).waiting (changed w ch)
change_moved next_number w actor change.Keep s a by = kept w next_number actor w s refl refl (same_routines w) refl
change_moved next_number w actor change.CreatePool s a by = kept w next_number actor (changed w change.CreatePool) s refl refl (same_routines w) refl
change_moved next_number w actor (change.ChangePool pool how) s a by = of_row (slice_get w.pools pool.0)
  where
    of_row : (row : Option PoolRow) → Moved w actor Same None (change_pool w pool.0 how row)
    of_row None = kept w next_number actor w s refl refl (same_routines w) refl
    of_row (Some row) = kept w next_number actor (change_pool w pool.0 how (Some row)) s refl refl (same_routines w) refl
change_moved next_number w actor change.CreateGroup s a by = kept w next_number actor (changed w change.CreateGroup) s refl refl (same_routines w) refl
change_moved next_number w actor (change.CloseGroup group) s a by = kept w next_number actor (changed w (change.CloseGroup group)) s refl refl (same_routines w) refl
change_moved next_number w actor (change.CreateObject row) s a by = kept w next_number actor (changed w (change.CreateObject row)) s refl refl (same_routines w) refl
change_moved next_number w actor (change.ReleaseObject object) s a by = of_row (numbered w.objects object.0)
  where
    of_row : (row : Option ObjectRow) → Moved w actor Same None (release_object w object row)
    of_row None = kept w next_number actor w s refl refl (same_routines w) refl
    of_row (Some row) = kept w next_number actor (release_object w object (Some row)) s refl refl (same_routines w) refl
change_moved next_number w actor (change.QueueCallback c) s a by = kept w next_number actor (changed w (change.QueueCallback c)) s refl refl (more_routines w w.callbacks (c ∷ []) (same_routines w)) refl
change_moved next_number w actor (change.ExpectCallback c) s a by = kept w next_number actor (changed w (change.ExpectCallback c)) s refl refl (more_routines w w.callbacks (c ∷ []) (same_routines w)) refl
change_moved next_number w actor (change.Operate c how) s a by = kept w next_number actor (changed w (change.Operate c how)) s refl refl (replaced_routines w (operated how c) c a.found refl) refl
change_moved next_number w actor (change.Fire trigger first count) s a by =
    kept w next_number actor (changed w (change.Fire trigger first count)) s refl refl (more_routines w w.callbacks (rows_of w.objects first (firing trigger (sources_of w)).jobs) (same_routines w)) refl
change_moved next_number w actor (change.CreateKernel state) s a by = kept w next_number actor (changed w (change.CreateKernel state)) s refl refl (same_routines w) refl
change_moved next_number w actor (change.ChangeKernel kernel how) s a by = kept w next_number actor (changed w (change.ChangeKernel kernel how)) s refl refl (same_routines w) refl
change_moved next_number w actor (change.Attach worker pool) s a by =
    let after : World = changed w (change.Attach worker pool) in
    record {
      stages = stage_put w next_number actor after s worker a.row (record { pool = Some pool; callback = None; persistent = false }) Joins stage.Away by a.stands refl refl (same_routines w) (ap₂ (worker_stage w.callbacks) a.away a.idle) refl;
      waits = waits_kept w next_number actor after s refl;
    }
change_moved next_number w actor (change.Detach at) s a by =
    let after : World = changed w (change.Detach at) in
    record {
      stages = stage_put w next_number actor after s at.worker (record { pool = Some at.pool; callback = None; persistent = at.persistent }) unattached Leaves stage.Idle by a.idles refl refl (same_routines w) refl refl;
      waits = waits_kept w next_number actor after s refl;
    }
change_moved next_number w actor (change.Take at c) s a by =
    let after : World = changed w (change.Take at c) in
    let keeps = replaced_routines w (taken c at.worker) c a.found refl in
    record {
      stages = stage_put w next_number actor after s at.worker (record { pool = Some at.pool; callback = None; persistent = at.persistent })
          (record { pool = Some at.pool; callback = Some c.number; persistent = at.persistent || c.persistent }) (Starts c.routine) stage.Idle by a.idles refl refl keeps refl
          (ap (option_map (λ (routine : RoutineId). stage.Busy routine)) (keeps c.number c a.found));
      waits = waits_kept w next_number actor after s refl;
    }
change_moved next_number w actor (change.Mark at Long) s a by = kept w next_number actor (changed w (change.Mark at Long)) s refl refl (replaced_routines w (marked Long at.callback) at.callback a.runs.found refl) refl
change_moved next_number w actor (change.Mark at Loose) s a by = kept w next_number actor (changed w (change.Mark at Loose)) s refl refl (replaced_routines w (marked Loose at.callback) at.callback a.runs.found refl) refl
change_moved next_number w actor (change.Mark at (Asks kind action)) s a by =
    kept w next_number actor (changed w (change.Mark at (Asks kind action))) s refl refl (replaced_routines w (marked (Asks kind action) at.callback) at.callback a.runs.found refl) refl
change_moved next_number w actor (change.Return at words first count) s a by =
    let after : World = changed w (change.Return at words first count) in
    let jobs = (returning w words (slots_of at.callback.status)).jobs in
    record {
      stages = stage_put w next_number actor after s at.worker (record { pool = Some at.pool; callback = Some at.callback.number; persistent = at.persistent })
          (record { pool = Some at.pool; callback = None; persistent = at.persistent }) Returns (stage.Busy at.callback.routine) by a.runs.stands refl refl
          (more_routines w (replaced (returned at.callback) w.callbacks) (rows_of w.objects first jobs) (replaced_routines w (returned at.callback) at.callback a.runs.found refl))
          (ap (option_map (λ (routine : RoutineId). stage.Busy routine)) (same_routines w at.callback.number at.callback a.runs.found)) refl;
      waits = waits_kept w next_number actor after s refl;
    }
change_moved next_number w actor (change.BeginWait who awaited cancel) s a by =
    let after : World = changed w (change.BeginWait who awaited cancel) in
    record {
      stages = stages_kept w next_number actor after s refl refl (cancelled_routines w (is_cancelled_by (target_of awaited) cancel));
      waits = waits_more w next_number actor after s _ (sym by) refl;
    }
change_moved next_number w actor (change.BeginClose who group cancel context notices) s a by =
    let after : World = changed w (change.BeginClose who group cancel context notices) in
    record {
      stages = stages_kept w next_number actor after s refl refl (cancelled_routines w (is_cancelled_by (Group group) cancel));
      waits = waits_more w next_number actor after s _ (sym by) refl;
    }
change_moved next_number w actor (change.GiveNotice who) s a by =
    let after : World = changed w (change.GiveNotice who) in
    record { stages = stages_kept w next_number actor after s refl refl (same_routines w); waits = waits_given w next_number actor after s who refl }
change_moved next_number w actor (change.EndWait who how) s a by =
    let after : World = changed w (change.EndWait who how) in
    record {
      stages = stages_kept w next_number actor after s refl refl (same_routines w);
      waits = waits_fewer w next_number actor after s (ap (λ (x : Who). filter (λ (b : BegunWait). not (is_same_actor b.actor x)) w.waits) (sym by));
    }
change_moved next_number w actor (change.Finish client) s a by =
    let after : World = changed w (change.Finish client) in
    record { stages = stage_end w next_number actor after s client by a refl refl (same_routines w); waits = waits_kept w next_number actor after s refl }
