-- Where no actor moves, all is over.
use Rattle.std.proofs.Common.{◌≡◌, ℕ, ◌+◌, ◌<◌, ◌≤◌, Bool, true, false, cond, not, ◌&&◌, ◌||◌, ◌==◌, ◌⊎◌, inl, inr, nat_le, List, length, Option, Some, None, is_some, option_map, slice_get, refl, sym, ap, ◌∙◌, subst, arith, eq-eqb}
use Rattle.std.specs.List.{list_all, list_any, range_with_len}
use Rattle.std.specs.Option.{option_map_or}
use Rattle.std.proofs.lemmas.Bool.{and_from, both_ways, eqb-true, lt-leb, ne_eqb, not-true, not_from_false, or_cases, or_from}
use Rattle.tp_base.specs.declared.ids.Who.{Who}
use Rattle.tp_base.specs.declared.ids.Who.TheVariants.{Client, Worker}
use Rattle.tp_base.specs.declared.limits.Limits.{Limits}
use Rattle.tp_base.specs.declared.answers.Entry.{Entry}
use Rattle.tp_base.specs.declared.plans.Stage.{Stage}
use Rattle.tp_base.specs.declared.plans.Stage.TheVariants.{Away, Busy, Idle, Over, Playing}
use Rattle.tp_base.specs.declared.rows.CallbackRow.{CallbackRow}
use Rattle.tp_base.specs.declared.rows.ClientRow.{ClientRow}
use Rattle.tp_base.specs.declared.rows.WorkerRow.{WorkerRow}
use Rattle.tp_model.specs.Counts.{is_attached_to, is_pending, is_pending_in, is_persistent_in, is_running, is_running_in, maximum, numbered, pending, running, takeable}
use Rattle.tp_model.specs.History.{after, IsLegal}
use Rattle.tp_model.specs.Over.{goes_on, is_over}
use Rattle.tp_model.specs.Stages.{is_busy_stage, is_in_part, stage_of, IsActor, MachineFacts}
use Rattle.tp_model.specs.Stalled.{is_client_stuck, is_kept_waiting, is_pool_stuck, is_stalled, is_worker_stuck, lacks_room_to_run, waits_on}
use Rattle.tp_model.specs.Support.Standing.{client_stage, stage_at, AreStanding}
use Rattle.tp_model.specs.World.{World}
use Rattle.tp_model.proofs.Facts.{machine_facts}
use Rattle.tp_model.proofs.Few.{few_actor}
use Rattle.tp_model.proofs.Lists.{all_get}
use Rattle.tp_model.proofs.Refusals.{both}
use Rattle.tp_model.proofs.Standing.{standing}
use Rattle.worker_gate.proofs.Elements.{all_in_range, any_at, counted, one_fails, one_passes, row_at}
use Rattle.worker_gate.proofs.Going.{away_at, idle_at, some_goes, Joins, SomeGoes, Works}
use Rattle.worker_gate.proofs.Manned.{attached_is, manned, some_may_run, IsManned}
use Rattle.worker_gate.proofs.Staying.{StaysAt}

some_none : {X : Type 0} (x : X) → None ≡ Some x → ⊥
some_none x e = cc

module _ (limits : Limits) (capacity : ℕ) (history : List Entry) (legal : IsLegal limits capacity history) (room : ℕ) where
  abbrev w : World
  w = after limits history

  facts : MachineFacts limits history
  facts = machine_facts limits capacity history legal

  stands : AreStanding limits history w
  stands = standing limits capacity history legal

  crew : IsManned limits history w
  crew = manned limits capacity history legal

  -- an actor of a row
  worker_of_row : (number : ℕ) (row : WorkerRow) → numbered w.workers number ≡ Some row → IsActor limits (Worker number)
  worker_of_row number row is = few_actor limits w crew.few (Worker number) (ap (λ (o : Option WorkerRow). is_some o) is)

  client_of_row : (number : ℕ) (row : ClientRow) → numbered w.clients number ≡ Some row → IsActor limits (Client number)
  client_of_row number row is = few_actor limits w crew.few (Client number) (ap (λ (o : Option ClientRow). is_some o || false) is)

  stage_by_row : (number : ℕ) (row : WorkerRow) (at : Stage) → numbered w.workers number ≡ Some row → stage_at w.callbacks (Some row) ≡ Some at → stage_of (Worker number) history ≡ at
  stage_by_row number row at is there =
      let e : Some (stage_of (Worker number) history) ≡ Some at = sym (stands.stages (Worker number) (worker_of_row number row is)) ∙ (ap (stage_at w.callbacks) is ∙ there) in
      cc

  module _ (stays : (who : Who) → IsActor limits who → StaysAt w room who (stage_of who history)) where
    -- so no worker goes
    none_goes : SomeGoes w room → ⊥
    none_goes (number, Joins mark is done) =
        let s = subst (StaysAt w room (Worker number)) (stage_by_row number (away_at mark) Away is refl) (stays (Worker number) (worker_of_row number (away_at mark) is)) in
        both_ways _ s done
    none_goes (number, Works pool mark is (inl done)) =
        let s = subst (StaysAt w room (Worker number)) (stage_by_row number (idle_at pool mark) Idle is refl) (stays (Worker number) (worker_of_row number (idle_at pool mark) is)) in
        both_ways _ s.0 done
    none_goes (number, Works pool mark is (inr done)) =
        let s = subst (StaysAt w room (Worker number)) (stage_by_row number (idle_at pool mark) Idle is refl) (stays (Worker number) (worker_of_row number (idle_at pool mark) is)) in
        both_ways _ s.1 done

    pools_stuck : list_all (is_pool_stuck w room) (range_with_len 0 (length w.pools)) ≡ true
    pools_stuck = of_all (list_all (is_pool_stuck w room) (range_with_len 0 (length w.pools))) refl
      where
        of_all : (b : Bool) → list_all (is_pool_stuck w room) (range_with_len 0 (length w.pools)) ≡ b → b ≡ true
        of_all true is = refl
        of_all false is =
            let at = one_fails (is_pool_stuck w room) (range_with_len 0 (length w.pools)) is in
            absurd (none_goes (some_goes w room crew.sound (attached_is limits history w crew) at.element at.tests))

    client_stuck : (number : ℕ) → 1 ≤ number → number < 1 + length w.clients → is_client_stuck w room number ≡ true
    client_stuck number low high =
        let actor : IsActor limits (Client number) = let few = crew.few.clients in (low, omega (arith, high, few)) in
        of_row (numbered w.clients number) refl (stands.stages (Client number) actor) (stays (Client number) actor)
      where
        of_finished : (finished : Bool) (at : Stage) → cond finished Over Playing ≡ at → StaysAt w room (Client number) at → (finished || waits_on w room (Client number)) ≡ true
        of_finished true at is s = refl
        of_finished false at is s = (subst (StaysAt w room (Client number)) (sym is) s).waits

        of_row : (o : Option ClientRow) → numbered w.clients number ≡ o → option_map client_stage o ≡ Some (stage_of (Client number) history) → StaysAt w room (Client number) (stage_of (Client number) history) → is_client_stuck w room number ≡ true
        of_row None is at s = absurd (some_none _ at)
        of_row (Some row) is at s =
            ap (λ (o : Option ClientRow). option_map_or (λ (r : ClientRow). r.finished) o false || waits_on w room (Client number)) is
            ∙ of_finished row.finished (stage_of (Client number) history) (cc) s

    worker_stuck : (number : ℕ) → 1 ≤ number → number < 1 + length w.workers → is_worker_stuck w room number ≡ true
    worker_stuck number low high =
        let actor : IsActor limits (Worker number) = let few = crew.few.workers in (low, omega (arith, high, few)) in
        ap (λ (b : Bool). not b || waits_on w room (Worker number)) (facts.stands (Worker number) actor).runs ∙ of_stage (stage_of (Worker number) history) (stays (Worker number) actor)
      where
        of_stage : (at : Stage) → StaysAt w room (Worker number) at → (not (is_busy_stage at) || waits_on w room (Worker number)) ≡ true
        of_stage (Busy routine) s = s.waits
        of_stage _ s = refl

    -- the machine is stalled, so no actor is in a part
    stalled : is_stalled w room ≡ true
    stalled =
        and_from _ _ (and_from _ _ (all_in_range (is_client_stuck w room) 1 (length w.clients) client_stuck) (all_in_range (is_worker_stuck w room) 1 (length w.workers) worker_stuck)) pools_stuck

    none_in_part : (who : Who) → IsActor limits who → is_in_part (stage_of who history) ≡ true → ⊥
    none_in_part who actor = of_stage (stage_of who history) (stays who actor)
      where
        of_stage : (at : Stage) → StaysAt w room who at → is_in_part at ≡ true → ⊥
        of_stage Playing s part = both_ways _ s.unstalled stalled
        of_stage (Busy routine) s part = both_ways _ s.unstalled stalled
        of_stage Over s part = cc
        of_stage Away s part = cc
        of_stage Idle s part = cc

    none_busy : (i : ℕ) (row : WorkerRow) → slice_get w.workers i ≡ Some row → is_some row.callback ≡ true → ⊥
    none_busy i row there runs =
        let is = row_at w.workers i row there in
        let actor = worker_of_row (i + 1) row is in
        let busy : is_busy_stage (stage_of (Worker (i + 1)) history) ≡ true = sym (facts.stands (Worker (i + 1)) actor).runs ∙ (ap (λ (o : Option WorkerRow). option_map_or (λ (r : WorkerRow). is_some r.callback) o false) is ∙ runs) in
        none_in_part (Worker (i + 1)) actor (in_part (stage_of (Worker (i + 1)) history) busy)
      where
        in_part : (at : Stage) → is_busy_stage at ≡ true → is_in_part at ≡ true
        in_part (Busy routine) is = refl
        in_part Playing is = absurd (cc)
        in_part Over is = absurd (cc)
        in_part Away is = absurd (cc)
        in_part Idle is = absurd (cc)

    none_runs : (pool : ℕ) → (running w pool == 0) ≡ true
    none_runs pool = of_count (running w pool == 0) refl
      where
        of_count : (b : Bool) → (running w pool == 0) ≡ b → b ≡ true
        of_count true is = refl
        of_count false is =
            let at = one_passes (λ (r : WorkerRow). is_attached_to pool r && is_some r.callback) w.workers (ap (λ (n : ℕ). n == 0) (crew.staffed.runs pool) ∙ is) in
            absurd (none_busy at.place at.element at.there (both (is_attached_to pool at.element) (is_some at.element.callback) at.tests).1)

    all_finished : list_all (λ (r : ClientRow). r.finished) w.clients ≡ true
    all_finished = of_all (list_all (λ (r : ClientRow). r.finished) w.clients) refl
      where
        of_all : (b : Bool) → list_all (λ (r : ClientRow). r.finished) w.clients ≡ b → b ≡ true
        of_all true is = refl
        of_all false is =
            let at = one_fails (λ (r : ClientRow). r.finished) w.clients is in
            let stands_at = row_at w.clients at.place at.element at.there in
            let actor = client_of_row (at.place + 1) at.element stands_at in
            let plays : Some (stage_of (Client (at.place + 1)) history) ≡ Some Playing =
            sym (stands.stages (Client (at.place + 1)) actor) ∙ (ap (option_map client_stage) stands_at ∙ ap (λ (b : Bool). Some (cond b Over Playing)) at.tests) in
            let playing : stage_of (Client (at.place + 1)) history ≡ Playing = cc in
            absurd (none_in_part (Client (at.place + 1)) actor (ap is_in_part playing))

    module _ (workers : 1 ≤ limits.workers) where
      -- who runs nothing keeps nobody waiting
      not_kept : (pool : ℕ) → is_kept_waiting w pool ≡ false
      not_kept pool = of_test (is_kept_waiting w pool) refl
        where
          of_test : (b : Bool) → is_kept_waiting w pool ≡ b → b ≡ false
          of_test false is = refl
          of_test true is =
              let at = any_at (λ (r : WorkerRow). is_persistent_in pool r && is_some r.callback) w.workers (both (takeable w pool false == 0) _ is).1 in
              absurd (none_busy at.place at.element at.there (both (is_persistent_in pool at.element) (is_some at.element.callback) at.tests).1)

      none_goes_on : (i : ℕ) (c : CallbackRow) → slice_get w.callbacks i ≡ Some c → goes_on w room c ≡ true → ⊥
      none_goes_on i c there goes = of_cases (or_cases (is_running c.status) _ goes)
        where
          own_pool : (c.pool.0 == c.pool.0) ≡ true
          own_pool = eq-eqb c.pool.0 c.pool.0 refl

          no_run : running w c.pool.0 ≡ 0
          no_run = eqb-true (running w c.pool.0) 0 (none_runs c.pool.0)

          made : c.pool.0 < length w.pools
          made = all_get (λ (x : CallbackRow). x.pool.0 < length w.pools) w.callbacks i c crew.sound.callback_pools there

          some_pends : is_pending c.status ≡ true → (pending w c.pool.0 == 0) ≡ false
          some_pends pends =
              let some = counted (is_pending_in c.pool.0) w.callbacks i c there (and_from (is_pending c.status) _ pends own_pool) in
              ne_eqb (pending w c.pool.0) 0 (λ (none : pending w c.pool.0 ≡ 0). omega (arith, some, none))

          below : nat_le (maximum w c.pool.0) (running w c.pool.0) ≡ false
          below = lt-leb (maximum w c.pool.0) (running w c.pool.0) (let most = some_may_run limits history w crew workers c.pool.0 made in omega (arith, most, no_run))

          of_cases : (is_running c.status ≡ true) ⊎ ((is_pending c.status && not (lacks_room_to_run w room c.pool.0)) ≡ true) → ⊥
          of_cases (inl runs) =
              let some = counted (is_running_in c.pool.0) w.callbacks i c there (and_from (is_running c.status) _ runs own_pool) in
              omega (arith, some, no_run)
          of_cases (inr waits) =
              let parts = both (is_pending c.status) _ waits in
              none_goes (some_goes w room crew.sound (attached_is limits history w crew) c.pool.0
              (or_from _ (lacks_room_to_run w room c.pool.0) (or_from _ (is_kept_waiting w c.pool.0) (or_from (pending w c.pool.0 == 0) _ (some_pends parts.0) below) (not_kept c.pool.0)) (not-true (lacks_room_to_run w room c.pool.0) parts.1)))

      nothing_goes_on : list_any (goes_on w room) w.callbacks ≡ false
      nothing_goes_on = of_any (list_any (goes_on w room) w.callbacks) refl
        where
          of_any : (b : Bool) → list_any (goes_on w room) w.callbacks ≡ b → b ≡ false
          of_any false is = refl
          of_any true is = let at = any_at (goes_on w room) w.callbacks is in absurd (none_goes_on at.place at.element at.there at.tests)

      pub over_together : is_over w room ≡ true
      over_together = and_from _ _ all_finished (not_from_false (list_any (goes_on w room) w.callbacks) nothing_goes_on)
