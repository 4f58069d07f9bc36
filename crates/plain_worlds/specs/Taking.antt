-- The first callback of a priority that a worker of a pool may take, and what is taken where none of high priority is
-- there.
use Rattle.std.specs.Prelude.{ℕ, Bool, ◌&&◌, ◌++◌, slice_get, Option}
use Rattle.std.specs.List.{find}
use Rattle.tp_base.specs.declared.calls.Priority.{Priority}
use Rattle.tp_base.specs.declared.calls.Priority.TheVariants.{High, Normal, Low}
use Rattle.tp_base.specs.declared.rows.CallbackRow.{CallbackRow}
use Rattle.tp_model.specs.World.{World}
use Rattle.tp_model.specs.Counts.{is_high, is_normal, is_low, is_open_to, waiting}

abbrev pub is_of_priority : Priority → Priority → Bool
is_of_priority High = is_high
is_of_priority Normal = is_normal
is_of_priority Low = is_low

abbrev pub first_open : World → ℕ → Bool → Priority → Option CallbackRow
first_open w pool persistent priority = find (λ c. is_open_to w pool persistent c && is_of_priority priority c.priority) w.callbacks

abbrev pub next_below_high : World → ℕ → Bool → Option CallbackRow
next_below_high w pool persistent = slice_get (waiting w pool persistent is_normal ++ waiting w pool persistent is_low) 0
