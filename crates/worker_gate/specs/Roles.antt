-- What an actor does next, and a turn of it.
use Rattle.std.specs.Prelude.{◌≡◌, ℕ, Bool, true, false, List, [], ◌++◌, if◌then◌else◌, ◌||◌, Option, None, Some}
use Rattle.tp_base.specs.declared.answers.Entry.{Entry}
use Rattle.tp_base.specs.declared.answers.Outcome.{Outcome}
use Rattle.tp_base.specs.declared.answers.Outcome.TheVariants as outcome
use Rattle.tp_base.specs.declared.calls.Call.{Call}
use Rattle.tp_base.specs.declared.calls.Call.TheVariants.{Attach, Detach, End, Finish, Return, Take}
use Rattle.tp_base.specs.declared.ids.Who.{Who}
use Rattle.tp_base.specs.declared.ids.Who.TheVariants.{Client, Worker}
use Rattle.tp_base.specs.declared.limits.Limits.{Limits}
use Rattle.tp_base.specs.declared.plans.Stage.{Stage}
use Rattle.tp_base.specs.declared.plans.Stage.TheVariants as stage
use Rattle.tp_model.specs.History.{IsLegal}
use Rattle.tp_model.specs.Stages.{first_stage, is_in_part, stage_from, waits_from, IsActor}
use Rattle.recorded.specs.Recordings.{entries_told, Recording}
use Rattle.turn_lock.specs.Histories.{own}
use Rattle.part_places.specs.declared.place.Place.{Place}
use Rattle.worker_gate.specs.declared.role.Role.{Role}
use Rattle.worker_gate.specs.declared.role.Turn.{Turn}
use Rattle.worker_gate.specs.declared.role.Turn.TheVariants.{Moved, Waiting, Ended}
use Rattle.part_places.specs.Places.{Given, next_call, opening, place_after, place_from}
use Rattle.worker_gate.specs.Runs.{is_over_in}
use Rattle.worker_gate.specs.Walks.{comes_to, IsCut, Leads}

abbrev pub who_of : Role → Who
who_of r = r.who

-- a new one
abbrev pub new_role : Who → Role
new_role who = record { who = who; place = opening who; marked = false; ended = false }

-- the stages of a client, and those of a worker
abbrev pub is_of_client : Stage → Bool
is_of_client stage.Playing = true
is_of_client stage.Over = true
is_of_client _ = false

abbrev pub is_of_worker : Stage → Bool
is_of_worker stage.Playing = false
is_of_worker stage.Over = false
is_of_worker _ = true

abbrev pub is_stage_of : Who → Stage → Bool
is_stage_of (Client number) at = is_of_client at
is_stage_of (Worker number) at = is_of_worker at

-- whether it is that of a client that hasn't finished
abbrev pub is_open : Stage → Bool
is_open stage.Playing = true
is_open _ = false

-- these are the entries of its actor, as far as no routines have to be known
pub record StandsFor (r : Role) (entries : List Entry) : Type 0 where
  pub stage_is : r.place.stage ≡ stage_from (first_stage r.who) entries
  pub waits_is : r.place.waits ≡ waits_from false entries

-- these are the entries of its actor, who makes the calls of these routines, and it is where they lead. The history has
-- them, or will have them where it goes on
pub record IsOf (g : Given) (limits : Limits) (capacity : ℕ) (history entries : List Entry) (r : Role) : Type 0 where
  pub actor : IsActor limits r.who
  pub leads : Leads g limits capacity history r.who [] (opening r.who) entries
  pub place_is : r.place ≡ place_from g r.who (opening r.who) entries
  pub calm : is_in_part r.place.stage ≡ false → r.place.waits ≡ false
  pub sorted : is_stage_of r.who r.place.stage ≡ true
  -- marked in a part: that has been cut
  pub cut : is_in_part r.place.stage ≡ true → r.marked ≡ true → IsCut g limits capacity history r.who entries r.place
  pub rests : r.ended ≡ true → is_in_part r.place.stage ≡ false

-- ---- what is due

-- the part's next call, or the one that ends it
abbrev pub due_or : Call → Bool → Option Call → Call
due_or last marked None = last
due_or last marked (Some next) = if marked then last else next

abbrev pub due_at : Stage → Bool → Option Call → Call
due_at stage.Playing marked next = due_or Finish marked next
due_at (stage.Busy routine) marked next = due_or Return marked next
due_at stage.Over marked next = Finish
due_at stage.Away marked next = Attach
due_at stage.Idle marked next = if marked then Detach else Take

abbrev pub due_of : Given → Who → Place → Bool → Call
due_of g who p marked = if p.waits then End else due_at p.stage marked (next_call g who p)

-- ---- a turn

-- whether a look is one from the Take of a worker that runs nothing
abbrev pub is_take : Call → Bool
is_take Take = true
is_take _ = false

abbrev pub is_idle_take : Stage → Call → Bool
is_idle_take stage.Idle made = is_take made
is_idle_take _ made = false

-- the role behind the outcome of its call
abbrev pub took : Given → Role → Call → Outcome → Role
took g r made (outcome.Done answer) = record r { place = place_after g r.who r.place made answer; marked = false }
took g r made (outcome.Look look) = record r { marked = is_idle_take r.place.stage made }
took g r made (outcome.Full room cost) = record r { marked = true }

abbrev pub turn_by : Outcome → Turn
turn_by (outcome.Done answer) = Moved
turn_by (outcome.Look look) = Waiting
turn_by (outcome.Full room cost) = Waiting

abbrev pub is_last_turn : Turn → Bool
is_last_turn Ended = true
is_last_turn _ = false

-- whether an actor at a stage ends: a client that has finished, and a worker that runs nothing where all is over
abbrev pub ends_at : Stage → Bool → Bool
ends_at stage.Playing is_over = false
ends_at (stage.Busy routine) is_over = false
ends_at stage.Over is_over = true
ends_at stage.Away is_over = is_over
ends_at stage.Idle is_over = is_over

abbrev pub ends : Limits → ℕ → List Entry → Role → Bool
ends limits capacity history r = r.ended || ends_at r.place.stage (is_over_in limits capacity history)

pub record Turned : Type 0 where
  pub role : Role
  pub history : List Entry
  pub turn : Turn

abbrev pub ended_turn : List Entry → Role → Turned
ended_turn history r = record { role = record r { ended = true }; history = history; turn = Ended }

abbrev pub played_turn : Given → List Entry → Role → Call → Outcome → Turned
played_turn g history r made told = record { role = took g r made told; history = history ++ entries_told r.who made told; turn = turn_by told }

-- a turn of a role on a machine: it ends, or its due call is played
abbrev pub turned : Given → Limits → ℕ → List Entry → Role → Turned
turned g limits capacity history r =
    if ends limits capacity history r
    then ended_turn history r
    else (let due = due_of g r.who r.place r.marked in played_turn g history r due (comes_to limits capacity history r.who due))

-- a role has played a turn on a machine of its own
pub record HasTurned (g : Given) (old new : Recording) (r q : Role) (turn : Turn) : Type 0 where
  pub role_is : q ≡ (turned g old.limits old.capacity old.history r).role
  pub book_is : new ≡ record old { history = (turned g old.limits old.capacity old.history r).history }
  pub turn_is : turn ≡ (turned g old.limits old.capacity old.history r).turn
  pub of : IsOf g new.limits new.capacity new.history (own (who_of q) new.history) q
  pub legal : is_last_turn turn ≡ false → IsLegal new.limits new.capacity new.history
