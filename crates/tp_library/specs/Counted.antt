-- How many callbacks of a library may still run and how many run, and what a call's answer makes of the lists that the
-- counters beside a machine follow.
use Rattle.std.specs.Prelude.{◌≡◌, ℕ, ◌+◌, ◌-◌, ◌<◌, Bool, true, ◌&&◌, ◌==◌, List, [], ◌∷◌, ◌++◌, length, map, slice_set, if◌then◌else◌, Option, None, Some}
use Rattle.std.specs.List.{AllByRecursion, count_by, zip}
use Rattle.tp_base.specs.declared.answers.Answer.{Answer}
use Rattle.tp_base.specs.declared.answers.Answer.TheVariants.{Closed, Closing, Done, Made, Returned, Taken}
use Rattle.tp_base.specs.declared.calls.Call.{Call}
use Rattle.tp_base.specs.declared.calls.Call.TheVariants.{BeginClose, CloseObject, Create, Finish}
use Rattle.tp_base.specs.declared.ids.GroupId.{GroupId}
use Rattle.tp_base.specs.declared.ids.ObjectId.{ObjectId}
use Rattle.tp_base.specs.declared.ids.Who.{Who}
use Rattle.tp_base.specs.declared.ids.Who.TheVariants.{Client, Worker}
use Rattle.tp_base.specs.declared.rows.CallbackRow.{CallbackRow}
use Rattle.tp_base.specs.declared.rows.ClientRow.{ClientRow}
use Rattle.tp_base.specs.declared.rows.ObjectRow.{ObjectRow}
use Rattle.tp_base.specs.declared.rows.WorkerRow.{WorkerRow}
use Rattle.tp_model.specs.Counts.{is_running, numbered}
use Rattle.tp_model.specs.Groups.{is_member, released_from}
use Rattle.tp_model.specs.Laws.Once.{is_left}
use Rattle.tp_model.specs.Sources.{new_object}
use Rattle.tp_model.specs.World.{World}
use Rattle.tp_library.specs.Shelves.{library_of, Shelf}

-- ---- callbacks

abbrev pub one_in : ℕ → ℕ → ℕ
one_in mine library = if mine == library then 1 else 0

abbrev pub is_left_in : Shelf → ℕ → CallbackRow → Bool
is_left_in s library c = is_left c.status && (library_of s c == library)

abbrev pub is_run_in : Shelf → ℕ → CallbackRow → Bool
is_run_in s library c = is_running c.status && (library_of s c == library)

-- those that may still run
abbrev pub left_in : Shelf → ℕ → List CallbackRow → ℕ
left_in s library cs = count_by (is_left_in s library) cs

-- those that run
abbrev pub runs_in : Shelf → ℕ → List CallbackRow → ℕ
runs_in s library cs = count_by (is_run_in s library) cs

-- ---- objects

-- what becomes of the objects
pub data OnObjects : Type 0 where
  Keeps : OnObjects
  Makes : ObjectRow → OnObjects
  Closes : ObjectId → OnObjects
  Releases : GroupId → OnObjects

abbrev pub released_row : List ObjectRow → ℕ → Option ObjectRow → List ObjectRow
released_row os object None = os
released_row os object (Some row) = slice_set os (object - 1) (record row { released = true })

abbrev pub applied : OnObjects → List ObjectRow → List ObjectRow
applied Keeps os = os
applied (Makes row) os = os ++ row ∷ []
applied (Closes object) os = released_row os object.0 (numbered os object.0)
applied (Releases group) os = map (released_from group.0) os

abbrev pub made_object : Call → OnObjects
made_object (Create kind routine context env) = Makes (new_object kind routine context env)
made_object call = Keeps

abbrev pub closed_object : Call → OnObjects
closed_object (CloseObject kind object) = Closes object
closed_object call = Keeps

abbrev pub closed_group : Call → OnObjects
closed_group (BeginClose group cancel context) = Releases group
closed_group call = Keeps

abbrev pub on_objects : Call → Answer → OnObjects
on_objects call (Made number) = made_object call
on_objects call (Closed later) = closed_object call
on_objects call (Closing covered cancelled notices) = closed_group call
on_objects call answer = Keeps

abbrev pub objects_told : Call → Answer → List ObjectRow → List ObjectRow
objects_told call answer os = applied (on_objects call answer) os

-- the members of a group that are of a library
abbrev pub is_member_in : ℕ → ℕ → ObjectRow × ℕ → Bool
is_member_in group library made = is_member group made.0 && (made.1 == library)

abbrev pub members_in : List ObjectRow → Shelf → ℕ → ℕ → ℕ
members_in os s group library = count_by (is_member_in group library) (zip os s.of_object)

-- ---- clients and workers

abbrev pub finished_in : World → List Bool
finished_in w = map (λ (r : ClientRow). r.finished) w.clients

abbrev pub finishing : Call → Option ℕ → Option ℕ
finishing Finish client = client
finishing call client = None

abbrev pub client_number : Who → Option ℕ
client_number (Client number) = Some number
client_number (Worker number) = None

-- the client that finishes
abbrev pub finished_by : Who → Call → Answer → Option ℕ
finished_by who call Done = finishing call (client_number who)
finished_by who call answer = None

abbrev pub with_finished : Option ℕ → List Bool → List Bool
with_finished None clients = clients
with_finished (Some client) clients = slice_set clients (client - 1) true

abbrev pub finished_told : Who → Call → Answer → List Bool → List Bool
finished_told who call answer clients = with_finished (finished_by who call answer) clients

-- by worker the number of the callback that it runs
abbrev pub runs_of : World → List (Option ℕ)
runs_of w = map (λ (r : WorkerRow). r.callback) w.workers

abbrev pub with_run : Who → Option ℕ → List (Option ℕ) → List (Option ℕ)
with_run (Client number) callback runs = runs
with_run (Worker number) callback runs = slice_set runs (number - 1) callback

abbrev pub runs_told : Who → Answer → List (Option ℕ) → List (Option ℕ)
runs_told who (Taken callback object routine context result) runs = with_run who (Some callback) runs
runs_told who (Returned section mutex semaphore event first count) runs = with_run who None runs
runs_told who answer runs = runs

-- ---- shelves

-- the shelf has a place for each object, and its simple callbacks were made
pub record IsShelfOf (s : Shelf) (w : World) : Type 0 where
  pub objects : length s.of_object ≡ length w.objects
  pub simples : AllByRecursion (λ (made : ℕ × ℕ). made.0 < length w.callbacks + 1) s.of_simple
