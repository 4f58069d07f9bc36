-- How many workers run a callback, told by their numbers.
use Rattle.std.proofs.Common.{◌≡◌, ℕ, suc, zero, ◌+◌, ◌-◌, ◌<◌, ◌==◌, nat_lt, List, cond, filter, get_or, length, map, option_map, slice_get, None, Some, is_some, false, refl, sym, ap, ◌∙◌, arith, ne_eqb, lt-ltb}
use Rattle.std.specs.List.{range_with_len}
use Rattle.std.specs.Option.{option_map_or}
use Rattle.std.proofs.lemmas.List.{length-map}
use Rattle.std.proofs.lemmas.Option.{slice_get-get_or, slice_get-map}
use Rattle.tp_base.specs.declared.ids.Who.TheVariants.{Worker}
use Rattle.tp_base.specs.declared.rows.WorkerRow.{WorkerRow}
use Rattle.tp_model.specs.Conditions.{runs_callback}
use Rattle.tp_model.specs.Counts.{numbered}
use Rattle.tp_model.specs.World.{World}
use Rattle.tp_model.proofs.Refusals.{numbered_at}
use Rattle.begun_waits.proofs.Waiting.{counted_by}
use Rattle.pool_rows.specs.Workers.{runs, unattached}
use Rattle.pool_rows.specs.declared.WorkerRow as kept
use Rattle.live_world.specs.Parts.{shown_worker}

pub shows : (n : ℕ) → nat_lt 0 n ≡ is_some (cond (n == 0) None (Some n))
shows zero = refl
shows (suc n) = lt-ltb 0 (suc n) (omega arith) ∙ ap (λ b. is_some (cond b None (Some (suc n)))) (sym (ne_eqb (suc n) 0 (λ e. omega (arith, e))))

module _ (w : World) (ws : List kept.WorkerRow) (shown : w.workers ≡ map shown_worker ws) where
  found : (i : ℕ) → i < length ws → numbered w.workers (1 + i) ≡ Some (shown_worker (get_or ws i unattached))
  found i there =
      ap (λ rows. numbered rows (1 + i)) shown
      ∙ numbered_at (map shown_worker ws) (1 + i) (shown_worker (get_or ws i unattached)) (omega arith)
      (ap (slice_get (map shown_worker ws)) one_back ∙ slice_get-map shown_worker ws i ∙ ap (option_map shown_worker) (slice_get-get_or ws i unattached there))
    where
      one_back : (1 + i) - 1 ≡ i
      one_back = omega arith

  same : (i : ℕ) → i < length ws → runs (get_or ws i unattached) ≡ runs_callback w (Worker (1 + i))
  same i there = shows (get_or ws i unattached).callback ∙ ap (λ o. option_map_or (λ (r : WorkerRow). is_some r.callback) o false) (sym (found i there))

  pub busy_by_number : length (filter runs ws) ≡ length (filter (λ number. runs_callback w (Worker number)) (range_with_len 1 (length w.workers)))
  busy_by_number =
      counted_by runs (λ number. runs_callback w (Worker number)) unattached ws 1 same
      ∙ ap (λ n. length (filter (λ number. runs_callback w (Worker number)) (range_with_len 1 n))) (sym (ap length shown ∙ length-map ws shown_worker))
