-- The law Maximum: what the entries so far tell of workers and pools is what the world says.
use Rattle.std.proofs.Common.{◌≡◌, ◌≢◌, ℕ, suc, zero, ◌+◌, ◌-◌, ◌<◌, ◌≤◌, Bool, true, false, cond, not, ◌&&◌, ◌||◌, ◌==◌}
use Rattle.std.proofs.Common.{option_map, List, [], ◌∷◌, ◌++◌, length, replicate, Option, Some, None, is_some, slice_get, slice_set, refl, sym, ap, ◌∙◌, subst, arith, filter, ne_eqb, eq-eqb, length-append, length-set}
use Rattle.std.specs.List.{range_with_len}
use Rattle.std.specs.Option.{option_map_or, option_or}
use Rattle.std.proofs.lemmas.List.{length-replicate}
use Rattle.std.proofs.lemmas.List.Elements.{filter-append}
use Rattle.std.proofs.lemmas.List.Sums.{fold-append}
use Rattle.tp_base.specs.declared.ids.Who.TheVariants.{Worker}
use Rattle.tp_base.specs.declared.ids.PoolId.{PoolId}
use Rattle.tp_base.specs.declared.rows.PoolRow.{PoolRow}
use Rattle.tp_base.specs.declared.rows.Status.{Status}
use Rattle.tp_base.specs.declared.rows.Status.TheVariants.{Running}
use Rattle.tp_base.specs.declared.rows.CallbackRow.{CallbackRow}
use Rattle.tp_base.specs.declared.rows.WorkerRow.{WorkerRow}
use Rattle.tp_base.specs.declared.answers.Entry.{Entry}
use Rattle.tp_base.specs.declared.limits.Limits.{Limits}
use Rattle.tp_model.specs.World.{World, opening, unattached}
use Rattle.tp_model.specs.Counts.{numbered, is_running, is_running_in, is_attached_to, running}
use Rattle.tp_base.specs.Actors.{is_same_actor}
use Rattle.tp_model.specs.Changes.{replaced, taken as taken_row, operated, returned}
use Rattle.tp_model.specs.Support.Sound.{IsSound, IsWorkerSound, AreWorkersSound}
use Rattle.tp_model.specs.Laws.Entries.{is_taken, is_returned, attached_by, taken_by, is_by, run_after, pool_after, is_within_run, last_pool, maximum_after, told_maximum}
use Rattle.tp_model.specs.Laws.Maximum.{runs_in, count_running, TakesBelowMaximum}
use Rattle.tp_model.specs.Support.Told.{Deed, deed_by, deed_of, nothing}
use Rattle.tp_model.specs.Support.Moves.{Asking, asked_slots, Move, Stay, Mark, Attach, Detach, Take, Return, Moves, AreNew, is_new, Leads, IsFree, maximum_at, put, Amend, Operate, Cancel}
use Rattle.tp_model.proofs.Lists.{length_filter_set}
use Rattle.tp_model.specs.Waits.{cancel_where}
use Rattle.tp_model.proofs.Cancelling.{count_uncancelled}
use Rattle.tp_model.proofs.Callbacks.{length_filter_replaced, pending_not_running, before_idle, after_idle}
use Rattle.tp_model.proofs.Refusals.{numbered_some, false_true, and_false}
use Rattle.tp_model.proofs.Agreeing.{one_if}

and_true : (b : Bool) → (b && true) ≡ b
and_true true = refl
and_true false = refl

-- ---- workers

-- the entries tell of a worker what its row says
pub record IsTold (before : List Entry) (worker : ℕ) (row : WorkerRow) : Type 0 where
  pub within : is_within_run before worker ≡ is_some row.callback
  pub joined : (pool : PoolId) → row.pool ≡ Some pool → last_pool before worker ≡ Some pool.0

-- of the workers from this number on
abbrev pub AreTold : List Entry → ℕ → List WorkerRow → Type 0
AreTold before worker [] = Unit {0}
AreTold before worker (r ∷ rs) = IsTold before worker r × AreTold before (worker + 1) rs

-- an entry tells nothing new of a worker
pub record IsSame (before : List Entry) (entry : Entry) (worker : ℕ) : Type 0 where
  pub within : is_within_run (before ++ entry ∷ []) worker ≡ is_within_run before worker
  pub joined : last_pool (before ++ entry ∷ []) worker ≡ last_pool before worker

module _ (before : List Entry) (entry : Entry) where
  run_told : (worker : ℕ) → is_within_run (before ++ entry ∷ []) worker ≡ run_after worker (is_within_run before worker) entry
  run_told worker = fold-append (run_after worker) false before (entry ∷ [])

  pool_told : (worker : ℕ) → last_pool (before ++ entry ∷ []) worker ≡ pool_after worker (last_pool before worker) entry
  pool_told worker = fold-append (pool_after worker) None before (entry ∷ [])

  -- of a worker that isn't its actor
  others_same : (worker other : ℕ) → entry.who ≡ Worker worker → other ≢ worker → IsSame before entry other
  others_same worker other by apart =
      let not_by : is_by other entry ≡ false = ap (λ w. is_same_actor w (Worker other)) by ∙ ne_eqb worker other (λ e. apart (sym e)) in
      record {
        within = run_told other ∙ ap (λ b. cond b (is_taken entry || (is_within_run before other && not (is_returned entry))) (is_within_run before other)) not_by;
        joined = pool_told other ∙ ap (λ b. cond b (option_or (attached_by entry.answer) (last_pool before other)) (last_pool before other)) not_by;
      }

  run_same : (worker : ℕ) → taken_by entry.answer ≡ None → is_returned entry ≡ false → is_within_run (before ++ entry ∷ []) worker ≡ is_within_run before worker
  run_same worker untaken unreturned =
      run_told worker
      ∙ elim (is_by worker entry) as (λ b. cond b (is_taken entry || (is_within_run before worker && not (is_returned entry))) (is_within_run before worker) ≡ is_within_run before worker) [
        | true ↦ ap (λ (o : Option ℕ). is_some o || (is_within_run before worker && not (is_returned entry))) untaken ∙ ap (λ b. is_within_run before worker && not b) unreturned ∙ and_true (is_within_run before worker)
        | false ↦ refl
      ]

  pool_same : (worker : ℕ) → attached_by entry.answer ≡ None → last_pool (before ++ entry ∷ []) worker ≡ last_pool before worker
  pool_same worker none =
      pool_told worker
      ∙ elim (is_by worker entry) as (λ b. cond b (option_or (attached_by entry.answer) (last_pool before worker)) (last_pool before worker) ≡ last_pool before worker) [
        | true ↦ ap (λ (o : Option ℕ). option_or o (last_pool before worker)) none
        | false ↦ refl
      ]

  told_same : (first : ℕ) (ws : List WorkerRow) → ((worker : ℕ) → first ≤ worker → IsSame before entry worker) → AreTold before first ws → AreTold (before ++ entry ∷ []) first ws
  told_same first [] same t = tt
  told_same first (r ∷ rs) same t =
      let here : IsSame before entry first = same first (omega arith) in (
        record { within = here.within ∙ t.0.within; joined = λ pool home. here.joined ∙ t.0.joined pool home },
        told_same (first + 1) rs (λ worker above. same worker (omega (arith, above))) t.1,
      )

  -- a row is put in the place of a worker of whom the entry tells what the row says
  told_put : (first place : ℕ) (ws : List WorkerRow) (new : WorkerRow) → ((worker : ℕ) → worker ≢ first + place → IsSame before entry worker) → IsTold (before ++ entry ∷ []) (first + place) new
      → AreTold before first ws → AreTold (before ++ entry ∷ []) first (slice_set ws place new)
  told_put first place [] new same here t = tt
  told_put first zero (r ∷ rs) new same here t =
      (subst (λ n. IsTold (before ++ entry ∷ []) n new) (omega arith) here, told_same (first + 1) rs (λ worker above. same worker (λ e. omega (arith, above, e))) t.1)
  told_put first (suc place) (r ∷ rs) new same here t =
      let old : IsSame before entry first = same first (λ e. omega (arith, e)) in (
        record { within = old.within ∙ t.0.within; joined = λ pool home. old.joined ∙ t.0.joined pool home },
        told_put (first + 1) place rs new (λ worker apart. same worker (λ e. apart (omega (arith, e)))) (subst (λ n. IsTold (before ++ entry ∷ []) n new) (omega arith) here) t.1,
      )

told_at : (before : List Entry) (first place : ℕ) (ws : List WorkerRow) (row : WorkerRow) → AreTold before first ws → slice_get ws place ≡ Some row → IsTold before (first + place) row
told_at before first place [] row t e = absurd cc
told_at before first zero (r ∷ rs) row t e =
    let same : r ≡ row = cc in
    subst (λ n. IsTold before n row) (omega arith) (subst (IsTold before first) same t.0)
told_at before first (suc place) (r ∷ rs) row t e =
    subst (λ n. IsTold before n row) (omega arith) (told_at before (first + 1) place rs row t.1 e)

-- ---- how many run

-- the worker is in the pool and runs a callback
abbrev is_busy_in : ℕ → WorkerRow → Bool
is_busy_in pool row = is_attached_to pool row && is_some row.callback

abbrev busy : ℕ → List WorkerRow → ℕ
busy pool ws = length (filter (is_busy_in pool) ws)

idle_not_busy : (pool : ℕ) (row : WorkerRow) → row.callback ≡ None → is_busy_in pool row ≡ false
idle_not_busy pool row idle = ap (λ (o : Option ℕ). is_attached_to pool row && is_some o) idle ∙ and_false (is_attached_to pool row)

-- what the entries tell of a worker and what its row says come to the same
runs_as_busy : (before : List Entry) (cs : List CallbackRow) (worker pool : ℕ) (row : WorkerRow) → IsTold before worker row → IsWorkerSound cs worker row.pool row.callback → runs_in before pool worker ≡ is_busy_in pool row
runs_as_busy before cs worker pool row t s = of_row row.pool row.callback refl refl s
  where
    of_row : (home : Option PoolId) (callback : Option ℕ) → row.pool ≡ home → row.callback ≡ callback → IsWorkerSound cs worker home callback → runs_in before pool worker ≡ is_busy_in pool row
    of_row home None at runs sound =
        ap (λ b. b && option_map_or (λ p. p == pool) (last_pool before worker) false) (t.within ∙ ap (λ (o : Option ℕ). is_some o) runs)
        ∙ sym (idle_not_busy pool row runs)
    of_row None (Some number) at runs sound = absurd sound
    of_row (Some p) (Some number) at runs sound =
        ap (λ b. b && option_map_or (λ q. q == pool) (last_pool before worker) false) (t.within ∙ ap (λ (o : Option ℕ). is_some o) runs)
        ∙ ap (λ (o : Option ℕ). option_map_or (λ q. q == pool) o false) (t.joined p at)
        ∙ sym (ap (λ (o : Option ℕ). is_attached_to pool row && is_some o) runs ∙ and_true (is_attached_to pool row) ∙ ap (λ (o : Option PoolId). option_map_or (λ (q : PoolId). q.0 == pool) o false) at)

count_busy : (before : List Entry) (cs : List CallbackRow) (pool first : ℕ) (ws : List WorkerRow) → AreTold before first ws → AreWorkersSound cs first ws → length (filter (runs_in before pool) (range_with_len first (length ws))) ≡ busy pool ws
count_busy before cs pool first [] t s = refl
count_busy before cs pool first (r ∷ rs) t s =
    ap (λ b. length (cond b (first ∷ filter (runs_in before pool) (range_with_len (first + 1) (length rs))) (filter (runs_in before pool) (range_with_len (first + 1) (length rs))))) (runs_as_busy before cs first pool r t.0 s.0)
    ∙ elim (is_busy_in pool r) as (λ b. length (cond b (first ∷ filter (runs_in before pool) (range_with_len (first + 1) (length rs))) (filter (runs_in before pool) (range_with_len (first + 1) (length rs)))) ≡ length (cond b (r ∷ filter (is_busy_in pool) rs) (filter (is_busy_in pool) rs))) [
      | true ↦ ap suc (count_busy before cs pool (first + 1) rs t.1 s.1)
      | false ↦ count_busy before cs pool (first + 1) rs t.1 s.1
    ]

-- ---- the entries and the world agree on workers and pools

pub record IsStaffed (limits : Limits) (before : List Entry) (w : World) : Type 0 where
  pub limit : w.limits.workers ≡ limits.workers
  pub maxima : (pool : ℕ) → maximum_at w pool ≡ told_maximum limits before pool
  pub told : AreTold before 1 w.workers
  pub many : length w.workers ≡ limits.workers
  pub runs : (pool : ℕ) → busy pool w.workers ≡ running w pool

-- every move keeps what is told of workers, and that as many are busy as callbacks run
abbrev count_runs : ℕ → List CallbackRow → ℕ
count_runs pool cs = length (filter (is_running_in pool) cs)

pub record StaysStaffed (before : List Entry) (entry : Entry) (w : World) (kept : List CallbackRow) (staff : List WorkerRow) : Type 0 where
  pub told : AreTold (before ++ entry ∷ []) 1 staff
  pub many : length staff ≡ length w.workers
  pub runs : (pool : ℕ) → busy pool staff ≡ count_runs pool kept

module _ (limits : Limits) (before : List Entry) (w : World) (entry : Entry) (kept : List CallbackRow) (staff : List WorkerRow) (s : IsSound (length w.callbacks + 1) w) (i : IsStaffed limits before w) where
  is_actor : (worker : ℕ) → entry.who ≡ Worker worker → is_by worker entry ≡ true
  is_actor worker by = ap (λ w. is_same_actor w (Worker worker)) by ∙ eq-eqb worker worker refl

  -- an entry that tells nothing of workers
  quiet : taken_by entry.answer ≡ None → attached_by entry.answer ≡ None → is_returned entry ≡ false → (worker : ℕ) → IsSame before entry worker
  quiet untaken unattached unreturned worker = record { within = run_same before entry worker untaken unreturned; joined = pool_same before entry worker unattached }

  by_tells : (deed : Deed) → deed_by entry ≡ deed → deed.taken ≡ None → deed.attached ≡ None → deed.returned ≡ false → (worker : ℕ) → IsSame before entry worker
  by_tells deed tells untaken unattached unreturned =
      quiet (ap (λ (t : Deed). t.taken) tells ∙ untaken) (ap (λ (t : Deed). t.attached) tells ∙ unattached) (ap (λ (t : Deed). t.returned) tells ∙ unreturned)

  -- where no worker changes
  staffed_same : (deed : Deed) → deed_by entry ≡ deed → deed.taken ≡ None → deed.attached ≡ None → deed.returned ≡ false → staff ≡ w.workers → ((pool : ℕ) → count_runs pool kept ≡ running w pool) → StaysStaffed before entry w kept staff
  staffed_same deed tells untaken unattached unreturned same running_same =
      record {
        told = subst (AreTold (before ++ entry ∷ []) 1) (sym same) (told_same before entry 1 w.workers (λ worker _. by_tells deed tells untaken unattached unreturned worker) i.told);
        many = ap length same;
        runs = λ pool. ap (busy pool) same ∙ i.runs pool ∙ sym (running_same pool);
      }

  -- where the actor's row changes
  staffed_put : (worker : ℕ) (row new : WorkerRow) → entry.who ≡ Worker worker → numbered w.workers worker ≡ Some row → staff ≡ put w worker new → (IsTold before worker row → IsTold (before ++ entry ∷ []) worker new)
      → ((pool : ℕ) → count_runs pool kept + one_if (is_busy_in pool row) ≡ running w pool + one_if (is_busy_in pool new)) → StaysStaffed before entry w kept staff
  staffed_put worker row new by stands changed told_new running_changed =
      let place = numbered_some w.workers worker row stands in
      let is : 1 + (worker - 1) ≡ worker = omega (arith, place.1) in
      let old : IsTold before worker row = subst (λ n. IsTold before n row) is (told_at before 1 (worker - 1) w.workers row i.told place.0) in
      record {
        told = subst (AreTold (before ++ entry ∷ []) 1) (sym changed)
            (told_put before entry 1 (worker - 1) w.workers new (λ other apart. others_same before entry worker other by (λ e. apart (e ∙ sym is)))
            (subst (λ n. IsTold (before ++ entry ∷ []) n new) (sym is) (told_new old)) i.told);
        many = ap length changed ∙ length-set w.workers (worker - 1) new;
        runs = λ pool. as_many pool (busy pool staff) (ap (busy pool) changed) (length_filter_set (is_busy_in pool) w.workers (worker - 1) row new place.0);
      }
    where
      as_many : (pool now : ℕ) → now ≡ busy pool (put w worker new) → busy pool (put w worker new) + cond (is_busy_in pool row) 1 0 ≡ busy pool w.workers + cond (is_busy_in pool new) 1 0 → now ≡ count_runs pool kept
      as_many pool now is filtered = omega (arith, is, filtered, i.runs pool, running_changed pool)

  running_callbacks : (cs : List CallbackRow) → kept ≡ cs → (pool : ℕ) → count_runs pool kept ≡ length (filter (is_running_in pool) cs)
  running_callbacks cs same pool = ap (λ l. length (filter (is_running_in pool) l)) same

  -- where a worker that runs nothing gets a row that runs nothing
  idle_put : (worker : ℕ) (actor : IsFree w entry worker) (new : WorkerRow) → new.callback ≡ None → kept ≡ w.callbacks → (pool : ℕ) → count_runs pool kept + one_if (is_busy_in pool actor.row) ≡ running w pool + one_if (is_busy_in pool new)
  idle_put worker actor new idle same pool =
      let was : one_if (is_busy_in pool actor.row) ≡ 0 = ap one_if (idle_not_busy pool actor.row actor.free) in
      let now : one_if (is_busy_in pool new) ≡ 0 = ap one_if (idle_not_busy pool new idle) in
      omega (arith, was, now, running_callbacks w.callbacks same pool)

  -- what the actor does is told of it
  joined_told : (worker : ℕ) (pool : Option ℕ) → entry.who ≡ Worker worker → attached_by entry.answer ≡ pool → last_pool (before ++ entry ∷ []) worker ≡ option_or pool (last_pool before worker)
  joined_told worker pool by tells =
      pool_told before entry worker
      ∙ ap (λ b. cond b (option_or (attached_by entry.answer) (last_pool before worker)) (last_pool before worker)) (is_actor worker by)
      ∙ ap (λ o. option_or o (last_pool before worker)) tells

  run_begun : (worker n : ℕ) → entry.who ≡ Worker worker → taken_by entry.answer ≡ Some n → is_within_run (before ++ entry ∷ []) worker ≡ true
  run_begun worker n by tells =
      run_told before entry worker
      ∙ ap (λ b. cond b (is_taken entry || (is_within_run before worker && not (is_returned entry))) (is_within_run before worker)) (is_actor worker by)
      ∙ ap (λ (o : Option ℕ). is_some o || (is_within_run before worker && not (is_returned entry))) tells

  run_ended : (worker : ℕ) → entry.who ≡ Worker worker → taken_by entry.answer ≡ None → is_returned entry ≡ true → is_within_run (before ++ entry ∷ []) worker ≡ false
  run_ended worker by untaken returns =
      run_told before entry worker
      ∙ ap (λ b. cond b (is_taken entry || (is_within_run before worker && not (is_returned entry))) (is_within_run before worker)) (is_actor worker by)
      ∙ ap (λ (o : Option ℕ). is_some o || (is_within_run before worker && not (is_returned entry))) untaken
      ∙ ap (λ b. is_within_run before worker && not b) returns ∙ and_false (is_within_run before worker)

  staffed_on : Move w entry kept staff → StaysStaffed before entry w kept staff
  staffed_on (Stay m) = staffed_same nothing m.tells refl refl refl m.workers (running_callbacks w.callbacks m.callbacks)
  staffed_on (Mark m) = staffed_same nothing m.tells refl refl refl m.workers (λ pool. running_callbacks (replaced m.new w.callbacks) m.callbacks pool ∙ as_many pool)
    where
      as_many : (pool : ℕ) → length (filter (is_running_in pool) (replaced m.new w.callbacks)) ≡ length (filter (is_running_in pool) w.callbacks)
      as_many pool =
          let alike : one_if (is_running_in pool m.new) ≡ one_if (is_running_in pool m.old) = ap (λ b. one_if (is_running b && (m.new.pool.0 == pool))) m.status ∙ ap (λ (p : PoolId). one_if (is_running m.old.status && (p.0 == pool))) m.pool in
          omega (arith, length_filter_replaced (is_running_in pool) m.new m.old 1 (length w.callbacks + 1) w.callbacks s.numbers m.found, alike)
  staffed_on (Amend m) = staffed_same (record nothing { loosened = m.loose; asked = option_map (λ (a : Asking). a.kind) m.asks }) m.tells refl refl refl m.workers (λ pool. running_callbacks (replaced d w.callbacks) m.callbacks pool ∙ as_many pool)
    where
      d : CallbackRow
      d = record m.callback { status = Running m.worker (m.associated && not m.loose) (asked_slots m.asks m.slots) }

      as_many : (pool : ℕ) → length (filter (is_running_in pool) (replaced d w.callbacks)) ≡ length (filter (is_running_in pool) w.callbacks)
      as_many pool =
          let alike : one_if (is_running_in pool d) ≡ one_if (is_running_in pool m.callback) = sym (ap (λ (t : Status). one_if (is_running t && (m.callback.pool.0 == pool))) m.running) in
          omega (arith, length_filter_replaced (is_running_in pool) d m.callback 1 (length w.callbacks + 1) w.callbacks s.numbers m.found, alike)
  staffed_on (Operate m) = staffed_same (deed_of m.callback.number m.how) m.tells refl refl refl m.workers (λ pool. running_callbacks (replaced d w.callbacks) m.callbacks pool ∙ as_many pool)
    where
      d : CallbackRow
      d = operated m.how m.callback

      as_many : (pool : ℕ) → length (filter (is_running_in pool) (replaced d w.callbacks)) ≡ length (filter (is_running_in pool) w.callbacks)
      as_many pool =
          let was : one_if (is_running_in pool m.callback) ≡ 0 = ap (λ b. one_if (b && (m.callback.pool.0 == pool))) (before_idle m.how m.callback.status m.status) in
          let now : one_if (is_running_in pool d) ≡ 0 = ap (λ b. one_if (b && (m.callback.pool.0 == pool))) (after_idle m.how) in
          omega (arith, length_filter_replaced (is_running_in pool) d m.callback 1 (length w.callbacks + 1) w.callbacks s.numbers m.found, was, now)
  staffed_on (Cancel m) =
      staffed_same (record nothing { count = length (filter m.test w.callbacks) }) m.tells refl refl refl m.workers
      (λ pool. running_callbacks (cancel_where m.test w.callbacks) m.callbacks pool
      ∙ count_uncancelled (is_running_in pool) m.test (λ c e. sym (ap (λ b. b && (c.pool.0 == pool)) (pending_not_running c.status (m.waits c e)))) w.callbacks)
  staffed_on (Attach m) =
      staffed_put m.worker m.actor.row (record { pool = Some m.pool; callback = None; persistent = false }) m.actor.by m.actor.stands m.workers
      (λ old. record {
        within = run_same before entry m.worker (ap (λ (t : Deed). t.taken) m.tells) (ap (λ (t : Deed). t.returned) m.tells) ∙ old.within ∙ ap (λ (o : Option ℕ). is_some o) m.actor.free;
        joined = λ pool home. joined_told m.worker (Some m.pool.0) m.actor.by (ap (λ (t : Deed). t.attached) m.tells) ∙ ap (λ (p : PoolId). Some p.0) (same_pool m.pool pool home);
      })
      (idle_put m.worker m.actor (record { pool = Some m.pool; callback = None; persistent = false }) refl m.callbacks)
    where
      same_pool : (p q : PoolId) → Some p ≡ Some q → p ≡ q
      same_pool p q e = cc
  staffed_on (Detach m) =
      staffed_put m.worker m.actor.row (record { pool = None; callback = None; persistent = false }) m.actor.by m.actor.stands m.workers
      (λ old. record {
        within = run_same before entry m.worker (ap (λ (t : Deed). t.taken) m.tells) (ap (λ (t : Deed). t.returned) m.tells) ∙ old.within ∙ ap (λ (o : Option ℕ). is_some o) m.actor.free;
        joined = λ pool home. absurd (none_some pool home);
      })
      (idle_put m.worker m.actor (record { pool = None; callback = None; persistent = false }) refl m.callbacks)
    where
      none_some : (p : PoolId) → None ≡ Some p → ⊥
      none_some p e = cc
  staffed_on (Take m) =
      staffed_put m.worker m.actor.row (record { pool = Some m.pool; callback = Some m.callback.number; persistent = m.actor.row.persistent || m.callback.persistent }) m.actor.by m.actor.stands m.workers
      (λ old. record {
        within = run_begun m.worker m.callback.number m.actor.by (ap (λ (t : Deed). t.taken) m.tells);
        joined = λ pool home. pool_same before entry m.worker (ap (λ (t : Deed). t.attached) m.tells) ∙ old.joined pool (m.home ∙ home);
      })
      more_run
    where
      more_run : (pool : ℕ) → count_runs pool kept + one_if (is_busy_in pool m.actor.row) ≡ running w pool + one_if (is_busy_in pool (record { pool = Some m.pool; callback = Some m.callback.number; persistent = m.actor.row.persistent || m.callback.persistent }))
      more_run pool =
          let d : CallbackRow = taken_row m.callback m.worker in
          let was : one_if (is_busy_in pool m.actor.row) ≡ 0 = ap one_if (idle_not_busy pool m.actor.row m.actor.free) in
          let now : one_if (is_busy_in pool (record { pool = Some m.pool; callback = Some m.callback.number; persistent = m.actor.row.persistent || m.callback.persistent })) ≡ one_if (m.pool.0 == pool) = ap one_if (and_true (m.pool.0 == pool)) in
          let begins : one_if (is_running_in pool d) ≡ one_if (m.pool.0 == pool) = ap (λ (p : PoolId). one_if (p.0 == pool)) m.pool_same in
          let still : one_if (is_running_in pool m.callback) ≡ 0 = ap (λ b. one_if (b && (m.callback.pool.0 == pool))) (pending_not_running m.callback.status m.waits) in
          omega (arith, was, now, begins, still, running_callbacks (replaced d w.callbacks) m.callbacks pool, length_filter_replaced (is_running_in pool) d m.callback 1 (length w.callbacks + 1) w.callbacks s.numbers m.found)
  staffed_on (Return m) =
      staffed_put m.worker m.row (record m.row { callback = None }) m.by m.stands m.workers
      (λ old. record {
        within = run_ended m.worker m.by (ap (λ (t : Deed). t.taken) m.tells) (ap (λ (t : Deed). t.returned) m.tells);
        joined = λ pool home. pool_same before entry m.worker (ap (λ (t : Deed). t.attached) m.tells) ∙ old.joined pool home;
      })
      fewer_run
    where
      fewer_run : (pool : ℕ) → count_runs pool kept + one_if (is_busy_in pool m.row) ≡ running w pool + one_if (is_busy_in pool (record m.row { callback = None }))
      fewer_run pool =
          let d : CallbackRow = returned m.callback in
          let was : one_if (is_busy_in pool m.row) ≡ one_if (m.pool.0 == pool) =
          ap (λ (o : Option ℕ). one_if (is_attached_to pool m.row && is_some o)) m.busy ∙ ap one_if (and_true (is_attached_to pool m.row)) ∙ ap (λ (o : Option PoolId). one_if (option_map_or (λ (p : PoolId). p.0 == pool) o false)) m.home in
          let now : one_if (is_busy_in pool (record m.row { callback = None })) ≡ 0 = ap one_if (and_false (is_attached_to pool m.row)) in
          let ran : one_if (is_running_in pool m.callback) ≡ one_if (m.pool.0 == pool) =
          ap (λ (t : Status). one_if (is_running t && (m.callback.pool.0 == pool))) m.running ∙ ap (λ (p : PoolId). one_if (p.0 == pool)) m.pool_same in
          omega (arith, was, now, ran, running_callbacks (replaced d w.callbacks) m.callbacks pool, length_filter_replaced (is_running_in pool) d m.callback 1 (length w.callbacks + 1) w.callbacks s.numbers m.found)

-- none of the callbacks that are made runs
none_run : (pool next_number : ℕ) (new : List CallbackRow) → AreNew next_number new → length (filter (is_running_in pool) new) ≡ 0
none_run pool next_number [] rows = refl
none_run pool next_number (c ∷ cs) rows = ap (λ b. length (cond (b && (c.pool.0 == pool)) (c ∷ filter (is_running_in pool) cs) (filter (is_running_in pool) cs))) (new_still c.status rows.0.unbegun) ∙ none_run pool (next_number + 1) cs rows.1
  where
    new_still : (status : Status) → is_new status ≡ true → is_running status ≡ false
    new_still (Running worker associated slots) e = cc
    new_still _ e = refl

module _ (limits : Limits) (before : List Entry) (w : World) (entry : Entry) (after : World) (s : IsSound (length w.callbacks + 1) w) (i : IsStaffed limits before w) where
  running_after : (moves : Moves (length w.callbacks + 1) w entry after) (pool : ℕ) → running after pool ≡ count_runs pool moves.kept
  running_after moves pool =
      ap (count_runs pool) moves.callbacks ∙ ap length (filter-append (is_running_in pool) moves.kept moves.new) ∙ length-append (filter (is_running_in pool) moves.kept) (filter (is_running_in pool) moves.new)
      ∙ ap (λ n. count_runs pool moves.kept + n) (none_run pool (length w.callbacks + 1) moves.new moves.rows) ∙ omega arith

  pub is_staffed_on : Leads (length w.callbacks + 1) w entry after → IsStaffed limits (before ++ entry ∷ []) after
  is_staffed_on leads =
      let on = staffed_on limits before w entry leads.moves.kept after.workers s i leads.moves.move in
      record {
        limit = ap (λ (l : Limits). l.workers) leads.limits ∙ i.limit;
        maxima = λ pool. leads.maxima pool ∙ ap (λ m. maximum_after pool m entry) (i.maxima pool) ∙ sym (fold-append (maximum_after pool) limits.workers before (entry ∷ []));
        told = on.told;
        many = on.many ∙ i.many;
        runs = λ pool. on.runs pool ∙ sym (running_after leads.moves pool);
      }

  -- a worker that takes a callback does so where fewer run than its pool's maximum
  takes_by : (kept : List CallbackRow) (staff : List WorkerRow) → Move w entry kept staff → TakesBelowMaximum limits before entry
  takes_by kept staff (Take m) worker pool by takes home =
      subst (λ p. count_running limits before p < told_maximum limits before p) pool_is
      (omega (arith, counted, i.runs m.pool.0, i.maxima m.pool.0, below_some m.pool.0 (slice_get w.pools m.pool.0) (running w m.pool.0) m.below))
    where
      same_worker : (j k : ℕ) → Worker j ≡ Worker k → j ≡ k
      same_worker j k e = cc

      same_number : (j k : ℕ) → Some j ≡ Some k → j ≡ k
      same_number j k e = cc

      below_some : (p : ℕ) (row : Option PoolRow) (n : ℕ) → n < option_map_or (λ (r : PoolRow). r.maximum) row 0 → n < option_map_or (λ (r : PoolRow). r.maximum) row w.limits.workers
      below_some p None n lt = absurd (omega (arith, lt))
      below_some p (Some row) n lt = lt

      pool_is : m.pool.0 ≡ pool
      pool_is =
          let place = numbered_some w.workers m.worker m.actor.row m.actor.stands in
          let is : 1 + (m.worker - 1) ≡ m.worker = omega (arith, place.1) in
          let told : IsTold before m.worker m.actor.row = subst (λ n. IsTold before n m.actor.row) is (told_at before 1 (m.worker - 1) w.workers m.actor.row i.told place.0) in
          let actor : m.worker ≡ worker = same_worker m.worker worker (sym m.actor.by ∙ by) in
          same_number m.pool.0 pool (sym (told.joined m.pool m.home) ∙ ap (last_pool before) actor ∙ home)

      counted : count_running limits before m.pool.0 ≡ busy m.pool.0 w.workers
      counted = ap (λ n. length (filter (runs_in before m.pool.0) (range_with_len 1 n))) (sym i.many) ∙ count_busy before w.callbacks m.pool.0 1 w.workers i.told s.workers
  takes_by kept staff (Stay m) worker pool by takes home = absurd (false_true (sym (ap (λ (t : Deed). is_some t.taken) m.tells) ∙ takes))
  takes_by kept staff (Mark m) worker pool by takes home = absurd (false_true (sym (ap (λ (t : Deed). is_some t.taken) m.tells) ∙ takes))
  takes_by kept staff (Attach m) worker pool by takes home = absurd (false_true (sym (ap (λ (t : Deed). is_some t.taken) m.tells) ∙ takes))
  takes_by kept staff (Detach m) worker pool by takes home = absurd (false_true (sym (ap (λ (t : Deed). is_some t.taken) m.tells) ∙ takes))
  takes_by kept staff (Amend m) worker pool by takes home = absurd (false_true (sym (ap (λ (t : Deed). is_some t.taken) m.tells) ∙ takes))
  takes_by kept staff (Operate m) worker pool by takes home = absurd (false_true (sym (ap (λ (t : Deed). is_some t.taken) m.tells) ∙ takes))
  takes_by kept staff (Cancel m) worker pool by takes home = absurd (false_true (sym (ap (λ (t : Deed). is_some t.taken) m.tells) ∙ takes))
  takes_by kept staff (Return m) worker pool by takes home = absurd (false_true (sym (ap (λ (t : Deed). is_some t.taken) m.tells) ∙ takes))

  pub takes_below : Moves (length w.callbacks + 1) w entry after → TakesBelowMaximum limits before entry
  takes_below moves = takes_by moves.kept after.workers moves.move

-- ---- of the opening world

pub opening_staffed : (limits : Limits) → IsStaffed limits [] (opening limits)
opening_staffed limits =
    record {
      limit = refl;
      maxima = at_first;
      told = idle_told 1 limits.workers;
      many = length-replicate limits.workers unattached;
      runs = λ pool. none_busy pool limits.workers;
    }
  where
    at_first : (pool : ℕ) → maximum_at (opening limits) pool ≡ limits.workers
    at_first zero = refl
    at_first (suc pool) = refl

    none_some : (p : PoolId) → None ≡ Some p → ⊥
    none_some p e = cc

    idle_told : (first count : ℕ) → AreTold [] first (replicate count unattached)
    idle_told first zero = tt
    idle_told first (suc count) = (record { within = refl; joined = λ pool home. absurd (none_some pool home) }, idle_told (first + 1) count)

    none_busy : (pool count : ℕ) → busy pool (replicate count unattached) ≡ 0
    none_busy pool zero = refl
    none_busy pool (suc count) = none_busy pool count
