-- What a worker runs is still found, where rows of callbacks and of workers change.
use Rattle.std.proofs.Common.{◌≡◌, ◌≢◌, ℕ, suc, zero, ◌+◌, ◌<◌, Bool, true, false, List, [], ◌∷◌, ◌++◌, slice_get, slice_set, Option, Some, None, refl, sym, ap, ◌∙◌, subst, arith, find, eqb-true}
use Rattle.tp_base.specs.declared.ids.PoolId.{PoolId}
use Rattle.tp_base.specs.declared.rows.Slots.{Slots}
use Rattle.tp_base.specs.declared.rows.Status.{Status}
use Rattle.tp_base.specs.declared.rows.Status.TheVariants.{Running}
use Rattle.tp_base.specs.declared.rows.CallbackRow.{CallbackRow}
use Rattle.tp_base.specs.declared.rows.WorkerRow.{WorkerRow}
use Rattle.tp_model.specs.Waits.{cancel_where}
use Rattle.tp_model.specs.Counts.{has_number, is_running}
use Rattle.tp_model.specs.Changes.{replaced}
use Rattle.tp_model.specs.Support.Sound.{RunsOn, IsWorkerSound, AreWorkersSound}
use Rattle.tp_model.proofs.Cancelling.{IsPendingTest, running_passed, find_uncancelled}
use Rattle.tp_model.proofs.Callbacks.{find_replaced, find_replaced_other, find_appended}

-- what a worker runs is still found in longer lists of callbacks
worker_appended : (c : CallbackRow) (cs : List CallbackRow) (worker : ℕ) (pool : Option PoolId) (callback : Option ℕ) → IsWorkerSound cs worker pool callback → IsWorkerSound (cs ++ c ∷ []) worker pool callback
worker_appended c cs worker pool None s = tt
worker_appended c cs worker None (Some number) s = s
worker_appended c cs worker (Some pool) (Some number) s =
    record { callback = s.callback; associated = s.associated; slots = s.slots; found = find_appended number cs s.callback c s.found; runs = s.runs; at_home = s.at_home }

pub workers_appended : (c : CallbackRow) (cs : List CallbackRow) (worker : ℕ) (ws : List WorkerRow) → AreWorkersSound cs worker ws → AreWorkersSound (cs ++ c ∷ []) worker ws
workers_appended c cs worker [] s = tt
workers_appended c cs worker (r ∷ rs) s = (worker_appended c cs worker r.pool r.callback s.0, workers_appended c cs (worker + 1) rs s.1)

-- a worker that runs another callback than the row that is replaced
worker_kept : (r : CallbackRow) (cs : List CallbackRow) (worker : ℕ) (pool : Option PoolId) (callback : Option ℕ)
    → ((p : PoolId) (number : ℕ) → RunsOn cs worker p number → has_number number r ≡ false)
    → IsWorkerSound cs worker pool callback → IsWorkerSound (replaced r cs) worker pool callback
worker_kept r cs worker pool None other s = tt
worker_kept r cs worker None (Some number) other s = s
worker_kept r cs worker (Some pool) (Some number) other s =
    record { callback = s.callback; associated = s.associated; slots = s.slots; found = find_replaced_other r number cs (other pool number s) ∙ s.found; runs = s.runs; at_home = s.at_home }

-- a row of callbacks and a row of workers are replaced, and each other worker runs another callback
pub workers_changed : (r : CallbackRow) (cs : List CallbackRow) (new : WorkerRow) (first place : ℕ) (ws : List WorkerRow)
    → ((worker : ℕ) → worker ≢ first + place → (p : PoolId) (number : ℕ) → RunsOn cs worker p number → has_number number r ≡ false)
    → IsWorkerSound (replaced r cs) (first + place) new.pool new.callback
    → AreWorkersSound cs first ws → AreWorkersSound (replaced r cs) first (slice_set ws place new)
workers_changed r cs new first place [] other here s = tt
workers_changed r cs new first zero (w ∷ ws) other here s = (
  subst (λ n. IsWorkerSound (replaced r cs) n new.pool new.callback) (omega arith) here,
  workers_kept (first + 1) ws (λ worker h. other worker (λ e. omega (arith, e, h))) s.1,
)
  where
    workers_kept : (from : ℕ) (rest : List WorkerRow) → ((worker : ℕ) → first < worker → (p : PoolId) (number : ℕ) → RunsOn cs worker p number → has_number number r ≡ false) → AreWorkersSound cs (first + 1) rest → AreWorkersSound (replaced r cs) (first + 1) rest
    workers_kept from rest above s = from_place (first + 1) rest (omega arith) above s
      where
        from_place : (at : ℕ) (rows : List WorkerRow) → first < at → ((worker : ℕ) → first < worker → (p : PoolId) (number : ℕ) → RunsOn cs worker p number → has_number number r ≡ false) → AreWorkersSound cs at rows → AreWorkersSound (replaced r cs) at rows
        from_place at [] lt h t = tt
        from_place at (x ∷ xs) lt h t = (worker_kept r cs at x.pool x.callback (h at lt) t.0, from_place (at + 1) xs (omega (arith, lt)) h t.1)
workers_changed r cs new first (suc place) (w ∷ ws) other here s = (
  worker_kept r cs first w.pool w.callback (other first (λ e. omega (arith, e))) s.0,
  workers_changed r cs new (first + 1) place ws
      (λ worker h. other worker (λ e. h (omega (arith, e))))
      (subst (λ n. IsWorkerSound (replaced r cs) n new.pool new.callback) (omega arith) here) s.1,
)

-- a worker that runs nothing may be put in any place
pub workers_freed : (cs : List CallbackRow) (new : WorkerRow) (first place : ℕ) (ws : List WorkerRow) → new.callback ≡ None → AreWorkersSound cs first ws → AreWorkersSound cs first (slice_set ws place new)
workers_freed cs new first place [] e s = tt
workers_freed cs new first zero (w ∷ ws) e s = (subst (λ c. IsWorkerSound cs first new.pool c) (sym e) tt, s.1)
workers_freed cs new first (suc place) (w ∷ ws) e s = (s.0, workers_freed cs new (first + 1) place ws e s.1)

-- the worker at a place
pub worker_at : (cs : List CallbackRow) (first place : ℕ) (ws : List WorkerRow) (row : WorkerRow) → AreWorkersSound cs first ws → slice_get ws place ≡ Some row → IsWorkerSound cs (first + place) row.pool row.callback
worker_at cs first place [] row s e = absurd cc
worker_at cs first zero (w ∷ ws) row s e =
    let same : w ≡ row = cc in
    subst (λ n. IsWorkerSound cs n row.pool row.callback) (omega arith) (subst (λ (x : WorkerRow). IsWorkerSound cs first x.pool x.callback) same s.0)
worker_at cs first (suc place) (w ∷ ws) row s e =
    subst (λ n. IsWorkerSound cs n row.pool row.callback) (omega arith) (worker_at cs (first + 1) place ws row s.1 e)

-- a row that runs where the one before it ran
abbrev pub RunsWhere : Status → Status → Type 0
RunsWhere old new = (worker : ℕ) (associated : Bool) (slots : Slots) → old ≡ Running worker associated slots → (b : Bool) × (t : Slots) × (new ≡ Running worker b t)

worker_same : (r c : CallbackRow) (cs : List CallbackRow) (worker : ℕ) (pool : Option PoolId) (callback : Option ℕ) → find (has_number r.number) cs ≡ Some c → RunsWhere c.status r.status → r.pool ≡ c.pool
    → IsWorkerSound cs worker pool callback → IsWorkerSound (replaced r cs) worker pool callback
worker_same r c cs worker pool None found status at s = tt
worker_same r c cs worker None (Some number) found status at s = s
worker_same r c cs worker (Some pool) (Some number) found status at s =
    elim (has_number number r) as (λ b. has_number number r ≡ b → RunsOn (replaced r cs) worker pool number) [
      | true ↦ λ e.
          let is : r.number ≡ number = eqb-true r.number number e in
          let same : s.callback ≡ c = same_row number r.number s.callback c is s.found found in
          let goes_on = status worker s.associated s.slots (ap (λ (x : CallbackRow). x.status) (sym same) ∙ s.runs) in
          record {
            callback = r;
            associated = goes_on.0;
            slots = goes_on.1;
            found = ap (λ n. find (has_number n) (replaced r cs)) (sym is) ∙ find_replaced r c cs found;
            runs = goes_on.2;
            at_home = at ∙ ap (λ (x : CallbackRow). x.pool) (sym same) ∙ s.at_home;
          }
      | false ↦ λ e. record { callback = s.callback; associated = s.associated; slots = s.slots; found = find_replaced_other r number cs e ∙ s.found; runs = s.runs; at_home = s.at_home }
    ] refl
  where
    same_row : (m n : ℕ) (x y : CallbackRow) → n ≡ m → find (has_number m) cs ≡ Some x → find (has_number n) cs ≡ Some y → x ≡ y
    same_row m n x y e fx fy = let both_found : Some x ≡ Some y = sym fx ∙ ap (λ k. find (has_number k) cs) (sym e) ∙ fy in cc

pub workers_same : (r c : CallbackRow) (cs : List CallbackRow) (worker : ℕ) (ws : List WorkerRow) → find (has_number r.number) cs ≡ Some c → RunsWhere c.status r.status → r.pool ≡ c.pool → AreWorkersSound cs worker ws → AreWorkersSound (replaced r cs) worker ws
workers_same r c cs worker [] found status at s = tt
workers_same r c cs worker (w ∷ ws) found status at s = (worker_same r c cs worker w.pool w.callback found status at s.0, workers_same r c cs (worker + 1) ws found status at s.1)

-- a worker that runs nothing that is cancelled
worker_cancelled : (test : CallbackRow → Bool) (cs : List CallbackRow) → IsPendingTest test → (worker : ℕ) (pool : Option PoolId) (callback : Option ℕ) → IsWorkerSound cs worker pool callback → IsWorkerSound (cancel_where test cs) worker pool callback
worker_cancelled test cs only worker pool None s = tt
worker_cancelled test cs only worker None (Some number) s = s
worker_cancelled test cs only worker (Some pool) (Some number) s =
    record {
      callback = s.callback;
      associated = s.associated;
      slots = s.slots;
      found = find_uncancelled test cs number s.callback s.found (running_passed test only s.callback (ap is_running s.runs));
      runs = s.runs;
      at_home = s.at_home;
    }

pub workers_cancelled : (test : CallbackRow → Bool) (cs : List CallbackRow) → IsPendingTest test → (worker : ℕ) (ws : List WorkerRow) → AreWorkersSound cs worker ws → AreWorkersSound (cancel_where test cs) worker ws
workers_cancelled test cs only worker [] s = tt
workers_cancelled test cs only worker (w ∷ ws) s = (worker_cancelled test cs only worker w.pool w.callback s.0, workers_cancelled test cs only (worker + 1) ws s.1)
