-- What is known of an actor that is an idle or a busy worker, and of the callback that it takes next.
use Rattle.std.specs.List.{range_with_len}
use Rattle.std.specs.Option.{option_or}
use Rattle.std.proofs.Common.{◌≡◌, ℕ, suc, zero, ◌+◌, ◌-◌, ◌<◌, Bool, true, false, cond, length, ◌&&◌, List, [], ◌∷◌, ◌++◌, slice_get, Option, Some, None, option_map, refl, sym, ap, ◌∙◌, append_assoc, subst, arith, find, eqb-true}
use Rattle.tp_base.specs.declared.ids.Who.{Who}
use Rattle.tp_base.specs.declared.ids.Who.TheVariants.{Client, Worker}
use Rattle.tp_base.specs.declared.ids.PoolId.{PoolId}
use Rattle.tp_base.specs.declared.calls.Priority.{Priority}
use Rattle.tp_base.specs.declared.plans.Idle.{Idle}
use Rattle.tp_base.specs.declared.plans.Busy.{Busy}
use Rattle.tp_base.specs.declared.rows.CallbackRow.{CallbackRow}
use Rattle.tp_base.specs.declared.rows.WorkerRow.{WorkerRow}
use Rattle.tp_model.specs.World.{World}
use Rattle.tp_model.specs.Counts.{numbered, callback_of, has_number, is_open_to, is_high, is_normal, is_low, waiting, next, least_pool, is_in_need, is_below_minimum}
use Rattle.tp_model.specs.Conditions.{idle_row, idle_in, idle_of, busy_row, busy_in, busy_of}
use Rattle.tp_model.specs.Calls.Workers.{pool_to_join}
use Rattle.tp_model.specs.Support.Sound.{IsSound, RunsOn}
use Rattle.tp_model.specs.Support.Allowed.{Idles, Runs}
use Rattle.tp_model.proofs.Lists.{find_passes}
use Rattle.tp_model.proofs.Callbacks.{kept_found}
use Rattle.tp_model.proofs.SoundWorkers.{worker_at}
use Rattle.tp_model.proofs.Refusals.{both, numbered_some}

-- the actor is this worker, which is attached and runs nothing
pub record IsIdle (w : World) (who : Who) (by : Idle) : Type 0 where
  pub actor : who ≡ Worker by.worker
  pub idles : Idles w by

idle_row_stands : (w : World) (number : ℕ) (pool : Option PoolId) (callback : Option ℕ) (persistent : Bool) (by : Idle) → numbered w.workers number ≡ Some (record { pool = pool; callback = callback; persistent = persistent })
    → idle_row number pool callback persistent ≡ Some by → IsIdle w (Worker number) by
idle_row_stands w number (Some pool) None persistent by stands is =
    let same : record { worker = number; pool = pool; persistent = persistent } ≡ by = cc in
    subst (IsIdle w (Worker number)) same (record { actor = refl; idles = stands })
idle_row_stands w number (Some pool) (Some callback) persistent by stands is = absurd cc
idle_row_stands w number None callback persistent by stands is = absurd cc

idle_in_stands : (w : World) (number : ℕ) (row : Option WorkerRow) (by : Idle) → numbered w.workers number ≡ row → idle_in number row ≡ Some by → IsIdle w (Worker number) by
idle_in_stands w number None by stands is = absurd cc
idle_in_stands w number (Some row) by stands is = idle_row_stands w number row.pool row.callback row.persistent by stands is

pub idle_stands : (w : World) (who : Who) (by : Idle) → idle_of w who ≡ Some by → IsIdle w who by
idle_stands w (Client number) by is = absurd cc
idle_stands w (Worker number) by is = idle_in_stands w number (numbered w.workers number) by refl is

-- the actor is this worker, which runs this callback
pub record IsBusy (w : World) (who : Who) (by : Busy) : Type 0 where
  pub actor : who ≡ Worker by.worker
  pub runs : Runs w by

busy_stands_at : (next_number : ℕ) (w : World) (number : ℕ) (pool : PoolId) (callback : ℕ) (persistent : Bool) (c : Option CallbackRow) (by : Busy) → IsSound next_number w → numbered w.workers number ≡ Some (record { pool = Some pool; callback = Some callback; persistent = persistent })
    → callback_of w callback ≡ c → option_map (λ (x : CallbackRow). record { worker = number; pool = pool; callback = x; persistent = persistent }) c ≡ Some by → IsBusy w (Worker number) by
busy_stands_at next_number w number pool callback persistent None by s stands found is = absurd cc
busy_stands_at next_number w number pool callback persistent (Some c) by s stands found is =
    let same : record { worker = number; pool = pool; callback = c; persistent = persistent } ≡ by = cc in
    let row : WorkerRow = record { pool = Some pool; callback = Some callback; persistent = persistent } in
    let at = numbered_some w.workers number row stands in
    let on : RunsOn w.callbacks number pool callback = subst (λ n. RunsOn w.callbacks n pool callback) (omega (arith, at.1)) (worker_at w.callbacks 1 (number - 1) w.workers row s.workers at.0) in
    let is_c : on.callback ≡ c = same_row on.callback c on.found found in
    let number_is : c.number ≡ callback = eqb-true c.number callback (find_passes (has_number callback) c w.callbacks found) in
    subst (IsBusy w (Worker number)) same
    (record {
      actor = refl;
      runs = record {
        stands = stands ∙ ap (λ n. Some (record { pool = Some pool; callback = Some n; persistent = persistent })) (sym number_is);
        found = ap (callback_of w) number_is ∙ found;
        associated = on.associated;
        slots = on.slots;
        running = ap (λ (x : CallbackRow). x.status) (sym is_c) ∙ on.runs;
        home = ap (λ (x : CallbackRow). x.pool) (sym is_c) ∙ on.at_home;
      };
    })
  where
    same_row : (x y : CallbackRow) → find (has_number callback) w.callbacks ≡ Some x → find (has_number callback) w.callbacks ≡ Some y → x ≡ y
    same_row x y fx fy = let both_found : Some x ≡ Some y = sym fx ∙ fy in cc

busy_row_stands : (next_number : ℕ) (w : World) (number : ℕ) (pool : Option PoolId) (callback : Option ℕ) (persistent : Bool) (by : Busy) → IsSound next_number w → numbered w.workers number ≡ Some (record { pool = pool; callback = callback; persistent = persistent })
    → busy_row w number pool callback persistent ≡ Some by → IsBusy w (Worker number) by
busy_row_stands next_number w number (Some pool) (Some callback) persistent by s stands is = busy_stands_at next_number w number pool callback persistent (callback_of w callback) by s stands refl is
busy_row_stands next_number w number (Some pool) None persistent by s stands is = absurd cc
busy_row_stands next_number w number None callback persistent by s stands is = absurd cc

busy_in_stands : (next_number : ℕ) (w : World) (number : ℕ) (row : Option WorkerRow) (by : Busy) → IsSound next_number w → numbered w.workers number ≡ row → busy_in w number row ≡ Some by → IsBusy w (Worker number) by
busy_in_stands next_number w number None by s stands is = absurd cc
busy_in_stands next_number w number (Some row) by s stands is = busy_row_stands next_number w number row.pool row.callback row.persistent by s stands is

pub busy_stands : (next_number : ℕ) (w : World) (who : Who) (by : Busy) → IsSound next_number w → busy_of w who ≡ Some by → IsBusy w who by
busy_stands next_number w (Client number) by s is = absurd cc
busy_stands next_number w (Worker number) by s is = busy_in_stands next_number w number (numbered w.workers number) by s refl is

abbrev IsNextIn : World → ℕ → Bool → CallbackRow → Type 0
IsNextIn w pool persistent c = (find (has_number c.number) w.callbacks ≡ Some c) × (is_open_to w pool persistent c ≡ true)

-- what the worker takes next is one that it may take, and found by its number
pub next_open : (next_number : ℕ) (w : World) (pool : ℕ) (persistent : Bool) (c : CallbackRow) → IsSound next_number w → next w pool persistent ≡ Some c → (find (has_number c.number) w.callbacks ≡ Some c) × (is_open_to w pool persistent c ≡ true)
next_open next_number w pool persistent c s e = in_front (waiting w pool persistent is_high) (waiting w pool persistent is_normal ++ waiting w pool persistent is_low) (λ h. in_waiting is_high h)
    (λ h. in_front (waiting w pool persistent is_normal) (waiting w pool persistent is_low) (λ k. in_waiting is_normal k) (λ k. in_waiting is_low k) h) (regroup e)
  where
    in_waiting : (test : Priority → Bool) → slice_get (waiting w pool persistent test) 0 ≡ Some c → IsNextIn w pool persistent c
    in_waiting test h =
        let kept = kept_found (λ x. is_open_to w pool persistent x && test x.priority) 1 next_number w.callbacks 0 c s.numbers h in
        (kept.0, (both (is_open_to w pool persistent c) (test c.priority) kept.1).0)

    in_front : (xs ys : List CallbackRow) → (slice_get xs 0 ≡ Some c → IsNextIn w pool persistent c) → (slice_get ys 0 ≡ Some c → IsNextIn w pool persistent c) → slice_get (xs ++ ys) 0 ≡ Some c → IsNextIn w pool persistent c
    in_front [] ys f g h = g h
    in_front (x ∷ xs) ys f g h = f h

    regroup : next w pool persistent ≡ Some c → slice_get (waiting w pool persistent is_high ++ (waiting w pool persistent is_normal ++ waiting w pool persistent is_low)) 0 ≡ Some c
    regroup h = ap (λ l. slice_get l 0) (sym (append_assoc (waiting w pool persistent is_high) (waiting w pool persistent is_normal) (waiting w pool persistent is_low))) ∙ h

-- the pool that a worker is to join was made
found_below : (test : ℕ → Bool) (first n p : ℕ) → find test (range_with_len first n) ≡ Some p → p < first + n
found_below test first zero p e = absurd cc
found_below test first (suc n) p e =
    elim (test first) as (λ b. cond b (Some first) (find test (range_with_len (first + 1) n)) ≡ Some p → p < first + suc n) [
      | true ↦ λ h. let same : first ≡ p = cc in omega (arith, same)
      | false ↦ λ h. omega (arith, found_below test (first + 1) n p h)
    ] e

pub pool_found : (w : World) (pool : ℕ) → pool_to_join w ≡ Some pool → pool < length w.pools
pool_found w pool e = among (least_pool w (is_in_need w)) refl e
  where
    below : (test : ℕ → Bool) (p : ℕ) → least_pool w test ≡ Some p → p < length w.pools
    below test p h = omega (arith, found_below test 0 (length w.pools) p h)

    among : (first : Option ℕ) → least_pool w (is_in_need w) ≡ first → option_or first (least_pool w (is_below_minimum w)) ≡ Some pool → pool < length w.pools
    among (Some p) is h = below (is_in_need w) pool (is ∙ h)
    among None is h = below (is_below_minimum w) pool h
