-- What is outstanding for an object, and what an actor's wait holds.
use Rattle.std.specs.Prelude.{ℕ, Bool, ◌&&◌, ◌==◌, List, [], Option, None, Some}
use Rattle.std.specs.List.{filter}
use Rattle.std.specs.Option.{option_map_or}
use Rattle.tp_base.specs.declared.ids.Who.{Who}
use Rattle.tp_base.specs.declared.ids.ObjectId.{ObjectId}
use Rattle.tp_base.specs.declared.rows.CallbackRow.{CallbackRow}
use Rattle.live_callbacks.specs.Callbacks.{outstanding_among}
use Rattle.tp_model.specs.World.{World, BegunWait}
use Rattle.tp_model.specs.Counts.{is_pending}
use Rattle.tp_model.specs.Waits.{wait_of, held}
use Rattle.world_reads.specs.Progress.{progress_left}
use Rattle.world_reads.specs.declared.waiting.Progress.{Progress}
use Rattle.world_reads.specs.declared.waiting.Progress.TheVariants.{NotBegun}

-- by rising number
abbrev pub outstanding_of : World → ObjectId → List CallbackRow
outstanding_of w object = outstanding_among w.callbacks object

-- the callback is pending, and of the object
abbrev pub is_pending_for : ObjectId → CallbackRow → Bool
is_pending_for object c = is_pending c.status && (c.object.0 == object.0)

abbrev pub pending_of : World → ObjectId → List CallbackRow
pending_of w object = filter (is_pending_for object) w.callbacks

-- what an actor's wait holds, if it has begun one
abbrev pub held_by : World → Who → List ℕ
held_by w who = option_map_or (held w) (wait_of w who) []

-- what is left of a wait that holds nothing
abbrev pub progress_free : World → Option BegunWait → Progress
progress_free w None = NotBegun
progress_free w (Some b) = progress_left w b.cleanup b.notices
