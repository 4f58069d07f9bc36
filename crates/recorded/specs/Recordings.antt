-- A history with the limits of its machine and its capacity, and what a call comes to behind it.
use Rattle.std.specs.Prelude.{◌≡◌, ℕ, Bool, List, [], ◌∷◌, ◌++◌, length, Option}
use Rattle.tp_base.specs.declared.answers.Entry.{Entry}
use Rattle.tp_base.specs.declared.answers.Outcome.{Outcome}
use Rattle.tp_base.specs.declared.answers.Outcome.TheVariants.{Done, Look, Full}
use Rattle.tp_base.specs.declared.calls.Call.{Call}
use Rattle.tp_base.specs.declared.ids.ObjectId.{ObjectId}
use Rattle.tp_base.specs.declared.ids.Who.{Who}
use Rattle.tp_base.specs.declared.limits.Limits.{Limits}
use Rattle.tp_base.specs.declared.rows.Status.{Status}
use Rattle.tp_base.specs.Timers.{next_deadline}
use Rattle.tp_model.specs.History.{after, play_from, room}
use Rattle.tp_model.specs.Over.{is_over, left_after}
use Rattle.tp_model.specs.Step.{outcome_of}
use Rattle.tp_model.specs.Table.{step}
use Rattle.tp_model.specs.World.{World}

pub record Recording : Type 0 where
  pub limits : Limits
  pub capacity : ℕ
  pub history : List Entry

-- the world after the history
abbrev pub world_behind : Recording → World
world_behind r = after r.limits r.history

-- the capacity, less the entries, less those that are owed
abbrev pub room_of : Recording → ℕ
room_of r = room r.capacity (world_behind r) (length r.history)

-- nothing more is to be done behind the history: every client has finished, no callback runs, and there is no room for
-- another one to be run
abbrev pub is_over_behind : Recording → Bool
is_over_behind r = is_over (world_behind r) (room_of r)

-- of the callbacks that may still run behind the history the least one above a number
abbrev pub left_behind : Recording → ℕ → Option (ℕ × ObjectId × Status)
left_behind r number = left_after (world_behind r) number

-- the clock behind the history, and the least deadline of what is set there with a time
abbrev pub now_behind : Recording → ℕ
now_behind r = (world_behind r).now

abbrev pub next_deadline_behind : Recording → Option ℕ
next_deadline_behind r = next_deadline (world_behind r).settings

-- the machine's outcome of a call behind the history
abbrev pub outcome_behind : Recording → Who → Call → Outcome
outcome_behind r who call = outcome_of (step (world_behind r) (room_of r) who call)

-- what is written down of a call and its outcome: its entry, and nothing for a look or Full
abbrev pub entries_told : Who → Call → Outcome → List Entry
entries_told who call (Done answer) = record { who = who; call = call; answer = answer } ∷ []
entries_told who call (Look look) = []
entries_told who call (Full room cost) = []

abbrev pub recorded : Recording → Who → Call → Outcome → Recording
recorded r who call told = record r { history = r.history ++ entries_told who call told }

-- the recording once a call, or one call after another, was made
abbrev pub made : Recording → Who × Call → Recording
made r call = recorded r call.0 call.1 (outcome_behind r call.0 call.1)

abbrev pub all_made : Recording → List (Who × Call) → Recording
all_made r [] = r
all_made r (call ∷ calls) = all_made (made r call) calls

-- what is written down of calls that come to these outcomes
abbrev pub entries_of : List (Who × Call) → List Outcome → List Entry
entries_of [] outcomes = []
entries_of (call ∷ calls) [] = []
entries_of (call ∷ calls) (told ∷ outcomes) = entries_told call.0 call.1 told ++ entries_of calls outcomes

-- what further calls come to behind the history
abbrev pub outcomes_behind : Recording → List (Who × Call) → List Outcome
outcomes_behind r calls = play_from (world_behind r) r.capacity (length r.history) calls

-- the outcome is told, and is the first of those that the call and further ones come to
abbrev pub IsFirstOf : Recording → Recording → Who → Call → Outcome → Type 0
IsFirstOf old new who call told = (more : List (Who × Call)) → outcomes_behind old ((who, call) ∷ more) ≡ told ∷ outcomes_behind new more
