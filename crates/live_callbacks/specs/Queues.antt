-- The two halves of a pool's queues: what is persistent, and what isn't.
use Rattle.std.specs.Prelude.{ℕ, ◌&&◌, ◌||◌, ◌==◌, Bool, not, nat_le, nat_lt, List, ◌++◌, Option, None, Some, if◌then◌else◌}
use Rattle.std.specs.List.{filter}
use Rattle.tp_base.specs.declared.calls.Priority.{Priority}
use Rattle.tp_base.specs.declared.rows.CallbackRow.{CallbackRow}
use Rattle.tp_model.specs.Counts.{is_high, is_low, is_normal, is_pending_in}
use Rattle.live_callbacks.specs.Lists.{priority_number}

-- it is of this half
abbrev pub is_of_half : Bool → CallbackRow → Bool
is_of_half persistent c = if persistent then c.persistent else not c.persistent

abbrev pub is_pending_half : ℕ → Bool → CallbackRow → Bool
is_pending_half pool persistent c = is_pending_in pool c && is_of_half persistent c

abbrev pub is_queued : ℕ → Bool → (Priority → Bool) → CallbackRow → Bool
is_queued pool persistent test c = is_pending_half pool persistent c && test c.priority

-- a half in the order in which it is taken
abbrev pub half_among : List CallbackRow → ℕ → Bool → List CallbackRow
half_among rows pool persistent =
    filter (is_queued pool persistent is_high) rows ++ filter (is_queued pool persistent is_normal) rows ++ filter (is_queued pool persistent is_low) rows

-- of a higher priority, or of the same one and with a number that isn't greater
abbrev pub is_sooner : CallbackRow → CallbackRow → Bool
is_sooner a b =
    nat_lt (priority_number a.priority) (priority_number b.priority) || ((priority_number a.priority == priority_number b.priority) && nat_le a.number b.number)

-- of the firsts of the two halves the one that is taken before the other
abbrev pub sooner_of : Option CallbackRow → Option CallbackRow → Option CallbackRow
sooner_of None b = b
sooner_of (Some a) None = Some a
sooner_of (Some a) (Some b) = if is_sooner a b then Some a else Some b
