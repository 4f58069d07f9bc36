-- The law Maximum: no more callbacks of a pool are begun at once than its maximum allows.
use Rattle.std.specs.Prelude.{◌≡◌, ℕ, ◌<◌, Bool, true, false, ◌&&◌, ◌==◌, List, length, Some}
use Rattle.std.specs.List.{filter, range_with_len}
use Rattle.std.specs.Option.{option_map_or}
use Rattle.tp_base.specs.declared.ids.Who.TheVariants.{Worker}
use Rattle.tp_base.specs.declared.answers.Entry.{Entry}
use Rattle.tp_base.specs.declared.limits.Limits.{Limits}
use Rattle.tp_model.specs.Laws.Entries.{AtEach, is_within_run, last_pool, is_taken, told_maximum}

-- the worker was last attached to the pool, and stands within a run
abbrev pub runs_in : List Entry → ℕ → ℕ → Bool
runs_in history pool worker = is_within_run history worker && option_map_or (λ p. p == pool) (last_pool history worker) false

-- how many of the workers do
abbrev pub count_running : Limits → List Entry → ℕ → ℕ
count_running limits history pool = length (filter (runs_in history pool) (range_with_len 1 limits.workers))

-- a worker takes a callback only where fewer run than the maximum of its pool
abbrev pub TakesBelowMaximum : Limits → List Entry → Entry → Type 0
TakesBelowMaximum limits before entry =
    (worker pool : ℕ) → entry.who ≡ Worker worker → is_taken entry ≡ true → last_pool before worker ≡ Some pool
    → count_running limits before pool < told_maximum limits before pool

pub record IsWithinMaximum (limits : Limits) (history : List Entry) : Type 0 where
  pub at_each : AtEach (TakesBelowMaximum limits) history
