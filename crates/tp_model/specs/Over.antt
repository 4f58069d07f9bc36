-- Whether all is over in a world whose history has some room, and what is left of its callbacks.
use Rattle.std.specs.Prelude.{ℕ, Bool, not, ◌&&◌, ◌||◌, nat_lt, Option}
use Rattle.std.specs.List.{find, list_all, list_any}
use Rattle.tp_base.specs.declared.ids.ObjectId.{ObjectId}
use Rattle.tp_base.specs.declared.rows.CallbackRow.{CallbackRow}
use Rattle.tp_base.specs.declared.rows.ClientRow.{ClientRow}
use Rattle.tp_base.specs.declared.rows.Status.{Status}
use Rattle.tp_base.specs.declared.rows.Status.TheVariants as status
use Rattle.tp_model.specs.declared.Left.{Left}
use Rattle.tp_model.specs.declared.Left.TheVariants.{Expected, Issued, Pending}
use Rattle.tp_model.specs.Counts.{is_pending, is_running}
use Rattle.tp_model.specs.Laws.Once.{left}
use Rattle.tp_model.specs.Stalled.{lacks_room_to_run}
use Rattle.tp_model.specs.World.{World}

-- the callback runs, or waits for a worker and can still be run
abbrev pub goes_on : World → ℕ → CallbackRow → Bool
goes_on w room c = is_running c.status || (is_pending c.status && not (lacks_room_to_run w room c.pool.0))

-- every client has finished, and no callback goes on
abbrev pub is_over : World → ℕ → Bool
is_over w room = list_all (λ (r : ClientRow). r.finished) w.clients && not (list_any (goes_on w room) w.callbacks)

abbrev pub status_of : Left → Status
status_of Expected = status.Expected
status_of Issued = status.Issued
status_of Pending = status.Pending

-- a callback that is left, as a row of `left`
abbrev pub row_of : (ℕ × ObjectId × Left) → (ℕ × ObjectId × Status)
row_of told = (told.0, told.1, status_of told.2)

-- of the callbacks that are left the least one above a number
abbrev pub left_after : World → ℕ → Option (ℕ × ObjectId × Status)
left_after w number = find (λ (row : ℕ × ObjectId × Status). nat_lt number row.0) (left w)
