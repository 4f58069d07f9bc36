-- Sources and sinks in memory.
use Rattle.std.specs.Prelude.{ℕ, Bool, ◌-◌, ◌==◌, ◌||◌, if◌then◌else◌, List, length, min}
use Rattle.tp_edge.specs.Plan.{Plan, names_next}
use Rattle.tp_edge.specs.declared.source.Took.{Took}
use Rattle.tp_edge.specs.declared.source.Took.TheVariants as took
use Rattle.tp_edge.specs.declared.sink.Gave.{Gave}
use Rattle.tp_edge.specs.declared.sink.Gave.TheVariants as gave

-- bytes that are given out, at most a piece at a time
pub record Unread : Type 0 where
  pub left : List ℕ
  pub piece : ℕ

-- the next bytes, as many as the piece and the room allow, or the end where none are left
abbrev pub next_of : Unread → ℕ → Took
next_of unread room = (if length unread.left == 0 then took.End else took.Bytes (min (length unread.left) (min unread.piece room)))

-- bytes that are given out but for the calls that fail
pub record Input : Type 0 where
  pub unread : Unread
  pub plan : Plan

abbrev pub took_of : Input → ℕ → Took
took_of input room = (if names_next input.plan then took.Failed else next_of input.unread room)

-- bytes that are held, at most so many, and taken in at most a piece at a time
pub record Output : Type 0 where
  pub held : List ℕ
  pub capacity : ℕ
  pub piece : ℕ
  pub plan : Plan

-- all of the capacity is used
abbrev pub is_full : Output → Bool
is_full output = output.capacity - length output.held == 0

abbrev pub gave_of : Output → ℕ → Gave
gave_of output n = (if is_full output || names_next output.plan then gave.Failed else gave.Bytes (min n (min output.piece (output.capacity - length output.held))))
