-- What a worker runs.
use Rattle.std.proofs.Common.{◌≡◌, ℕ, zero, suc, ◌+◌, ◌-◌, true, List, [], ◌∷◌, map, Option, Some, None, option_map, refl, sym, ap, ◌∙◌, find, slice_get}
use Rattle.tp_base.specs.declared.ids.PoolId.{PoolId}
use Rattle.tp_base.specs.declared.rows.CallbackRow.{CallbackRow}
use Rattle.tp_base.specs.declared.rows.WorkerRow.{WorkerRow}
use Rattle.tp_model.specs.Counts.{has_number, is_running, numbered}
use Rattle.tp_model.specs.Support.Sound.{IsSound, IsWorkerSound}
use Rattle.tp_model.specs.World.{World}
use Rattle.tp_model.proofs.Refusals.{numbered_some}
use Rattle.tp_model.proofs.SoundWorkers.{worker_at}
use Rattle.tp_library.specs.Counted.{runs_of}
use Rattle.tp_library.proofs.Moving.{some_same}

-- it has a row, and runs
pub record IsRun (w : World) (number : ℕ) : Type 0 where
  pub row : CallbackRow
  pub found : find (has_number number) w.callbacks ≡ Some row
  pub running : is_running row.status ≡ true

pub run_found : (next_number : ℕ) (w : World) → IsSound next_number w → (worker number : ℕ) → numbered (runs_of w) worker ≡ Some (Some number) → IsRun w number
run_found next_number w sound worker number busy =
    let at = numbered_some (runs_of w) worker (Some number) busy in
    of_row (slice_get w.workers (worker - 1)) refl (sym (mapped w.workers (worker - 1)) ∙ at.0)
  where
    mapped : (rs : List WorkerRow) (i : ℕ) → slice_get (map (λ (r : WorkerRow). r.callback) rs) i ≡ option_map (λ (r : WorkerRow). r.callback) (slice_get rs i)
    mapped [] zero = refl
    mapped [] (suc i) = refl
    mapped (r ∷ rs) zero = refl
    mapped (r ∷ rs) (suc i) = mapped rs i

    of_sound : (pool : Option PoolId) (callback : Option ℕ) → callback ≡ Some number → IsWorkerSound w.callbacks (1 + (worker - 1)) pool callback → IsRun w number
    of_sound pool None e s = absurd cc
    of_sound None (Some n) e s = absurd s
    of_sound (Some pool) (Some n) e s = record { row = s.callback; found = ap (λ m. find (has_number m) w.callbacks) (sym (some_same n number e)) ∙ s.found; running = ap is_running s.runs }

    of_row : (row : Option WorkerRow) → slice_get w.workers (worker - 1) ≡ row → option_map (λ (r : WorkerRow). r.callback) row ≡ Some (Some number) → IsRun w number
    of_row None there e = absurd cc
    of_row (Some row) there e = of_sound row.pool row.callback (some_same row.callback (Some number) e) (worker_at w.callbacks 1 (worker - 1) w.workers row sound.workers there)
