-- What one call that is answered makes of the objects, the clients, the workers and the callbacks of a machine.
use Rattle.std.specs.Prelude.{◌≡◌, ℕ, ◌+◌, false, true, List, ◌++◌, length, slice_get, if◌then◌else◌, None, Some, ◌==◌}
use Rattle.std.specs.List.{AllByRecursion, count_by, find, range_with_len}
use Rattle.tp_base.specs.declared.answers.Answer.{Answer}
use Rattle.tp_base.specs.declared.answers.Answer.TheVariants.{Begun, Cancelled, Closed, Closing, Made, Queued, Returned, Taken}
use Rattle.tp_base.specs.declared.answers.Outcome.TheVariants.{Done}
use Rattle.tp_base.specs.declared.calls.Call.{Call}
use Rattle.tp_base.specs.declared.calls.Call.TheVariants.{BeginWait, CancelIo, CloseObject, Create, SubmitSimple}
use Rattle.tp_base.specs.declared.ids.ObjectId.{ObjectId}
use Rattle.tp_base.specs.declared.ids.Who.{Who}
use Rattle.tp_base.specs.declared.ids.Who.TheVariants.{Worker}
use Rattle.tp_base.specs.declared.limits.Limits.{Limits}
use Rattle.tp_base.specs.declared.rows.CallbackRow.{CallbackRow}
use Rattle.tp_base.specs.declared.rows.ObjectRow.{ObjectRow}
use Rattle.tp_model.specs.Counts.{has_number, numbered}
use Rattle.tp_model.specs.Laws.Entries.{made_by}
use Rattle.tp_model.specs.Laws.Once.{is_left}
use Rattle.tp_model.specs.Over.{left_after}
use Rattle.tp_model.specs.Support.Sound.{IsMade, IsSound}
use Rattle.tp_model.specs.World.{World}
use Rattle.tp_model.proofs.Few.{AreFew}
use Rattle.recorded.specs.Recordings.{Recording, recorded, world_behind}
use Rattle.tp_library.specs.Counted.{finished_in, finished_told, IsShelfOf, left_in, objects_told, one_in, runs_in, runs_of, runs_told}
use Rattle.tp_library.specs.Libraries.{shelf_answered}
use Rattle.tp_library.specs.Shelves.{library_at, library_of, library_of_object, Shelf}

-- ---- the callbacks that there were; `kept` is what becomes of them

-- of each library as many may still run as before
abbrev pub IsLeftSame : World → List CallbackRow → Type 0
IsLeftSame w kept = (s : Shelf) (library : ℕ) → left_in s library kept ≡ left_in s library w.callbacks

-- and as many run
abbrev pub AreRunsSame : World → List CallbackRow → Type 0
AreRunsSame w kept = (s : Shelf) (library : ℕ) → runs_in s library kept ≡ runs_in s library w.callbacks

pub record IsSame (w : World) (kept : List CallbackRow) : Type 0 where
  pub left : IsLeftSame w kept
  pub runs : AreRunsSame w kept

-- a callback of this number and object is taken by the worker
pub record IsTaken (w : World) (who : Who) (number : ℕ) (object : ObjectId) (kept : List CallbackRow) : Type 0 where
  pub worker : ℕ
  pub callback : CallbackRow
  pub by : who ≡ Worker worker
  pub idle : numbered (runs_of w) worker ≡ Some None
  pub found : find (has_number number) w.callbacks ≡ Some callback
  pub of : callback.object ≡ object
  pub left : (s : Shelf) (library : ℕ) → left_in s library kept + one_in (library_at s number object.0) library ≡ left_in s library w.callbacks
  pub runs : (s : Shelf) (library : ℕ) → runs_in s library kept ≡ runs_in s library w.callbacks + one_in (library_at s number object.0) library

-- the callback that the worker runs returns
pub record IsReturned (w : World) (who : Who) (kept : List CallbackRow) : Type 0 where
  pub worker : ℕ
  pub callback : CallbackRow
  pub by : who ≡ Worker worker
  pub busy : numbered (runs_of w) worker ≡ Some (Some callback.number)
  pub found : find (has_number callback.number) w.callbacks ≡ Some callback
  pub left : IsLeftSame w kept
  pub runs : (s : Shelf) (library : ℕ) → runs_in s library kept + one_in (library_of s callback) library ≡ runs_in s library w.callbacks

-- so many callbacks of an object that may still run are cancelled
pub record IsCut (w : World) (object : ObjectId) (count : ℕ) (kept : List CallbackRow) : Type 0 where
  pub stands : IsMade (length w.objects) object.0
  pub left : (s : Shelf) (library : ℕ) → left_in s library kept + (if library_of_object s object.0 == library then count else 0) ≡ left_in s library w.callbacks
  pub runs : AreRunsSame w kept

-- callbacks of a group are cancelled
pub record IsGroupCut (w : World) (count : ℕ) (kept : List CallbackRow) : Type 0 where
  pub left : count ≡ 0 → IsLeftSame w kept
  pub runs : AreRunsSame w kept

abbrev pub GivenUp : World → Call → List CallbackRow → Type 0
GivenUp w (CancelIo object) kept = IsCut w object 1 kept
GivenUp w call kept = IsSame w kept

abbrev pub WaitedFor : World → Call → ℕ → List CallbackRow → Type 0
WaitedFor w (BeginWait kind object cancel) count kept = IsCut w object count kept
WaitedFor w call count kept = IsSame w kept

abbrev pub IsKept : World → Who → Call → Answer → List CallbackRow → Type 0
IsKept w who call (Taken number object routine context result) kept = IsTaken w who number object kept
IsKept w who call (Returned section mutex semaphore event first count) kept = IsReturned w who kept
IsKept w who call (Cancelled number) kept = GivenUp w call kept
IsKept w who call (Begun covered cancelled) kept = WaitedFor w call cancelled kept
IsKept w who call (Closing covered cancelled notices) kept = IsGroupCut w cancelled kept
IsKept w who call answer kept = IsSame w kept

-- ---- the callbacks that are made

-- the one at a place may still run, and is the next that is left behind the number before its own
pub record IsNewAt (w after : World) (place : ℕ) (c : CallbackRow) : Type 0 where
  pub number : c.number ≡ length w.callbacks + 1 + place
  pub left : is_left c.status ≡ true
  pub told : left_after after (length w.callbacks + place) ≡ Some (c.number, c.object, c.status)

-- a simple callback has no object, and any other one is of an object that was made before
abbrev pub HasHome : World → Call → CallbackRow → Type 0
HasHome w (SubmitSimple routine context env) c = c.object.0 ≡ 0
HasHome w call c = IsMade (length w.objects) c.object.0

-- there is one simple callback, with the number that is told
abbrev pub IsSimple : World → Call → Answer → List CallbackRow → Type 0
IsSimple w (SubmitSimple routine context env) (Queued first count) new = (first ≡ length w.callbacks + 1) × (count ≡ 1) × (length new ≡ 1)
IsSimple w call answer new = Unit {0}

-- ---- objects

-- an object that is made is numbered on
abbrev pub IsNumberedOn : World → Call → Answer → Type 0
IsNumberedOn w (Create kind routine context env) (Made number) = number ≡ length w.objects + 1
IsNumberedOn w call answer = Unit {0}

pub record IsUnreleased (w : World) (object : ObjectId) : Type 0 where
  pub row : ObjectRow
  pub stands : numbered w.objects object.0 ≡ Some row
  pub unreleased : row.released ≡ false

-- an object that is closed wasn't released before
abbrev pub WasUnreleased : World → Call → Answer → Type 0
WasUnreleased w (CloseObject kind object) (Closed later) = IsUnreleased w object
WasUnreleased w call answer = Unit {0}

-- ---- all of it

-- the row of a number in a later world
pub record IsKeptRow (after : World) (number : ℕ) (c : CallbackRow) : Type 0 where
  pub row : CallbackRow
  pub found : find (has_number number) after.callbacks ≡ Some row
  pub object : row.object ≡ c.object

-- one more is on the shelf, or its loads or slots are other ones: what was there is of the libraries that it was of
pub record IsShelfKept (s now : Shelf) (w after : World) (kept : List CallbackRow) : Type 0 where
  pub left : (library : ℕ) → left_in now library kept ≡ left_in s library kept
  pub runs : (library : ℕ) → runs_in now library kept ≡ runs_in s library kept
  pub same : (number : ℕ) (c : CallbackRow) → find (has_number number) w.callbacks ≡ Some c → library_of now c ≡ library_of s c
  pub later : (number : ℕ) (c d : CallbackRow) → find (has_number number) w.callbacks ≡ Some c → find (has_number number) after.callbacks ≡ Some d → library_of now d ≡ library_of s c
  pub fits : IsShelfOf now after

-- from a world to the one after the call
pub record Moved (limits : Limits) (w : World) (who : Who) (call : Call) (answer : Answer) (after : World) : Type 0 where
  pub sound : IsSound (length w.callbacks + 1) w
  pub few : AreFew limits w
  pub sound_after : IsSound (length after.callbacks + 1) after
  pub few_after : AreFew limits after
  pub objects : after.objects ≡ objects_told call answer w.objects
  pub numbered_on : IsNumberedOn w call answer
  pub closed : WasUnreleased w call answer
  pub clients : finished_in after ≡ finished_told who call answer (finished_in w)
  pub workers : runs_of after ≡ runs_told who answer (runs_of w)
  pub kept : List CallbackRow
  pub new : List CallbackRow
  pub callbacks : after.callbacks ≡ kept ++ new
  pub kept_length : length kept ≡ length w.callbacks
  pub counts : IsKept w who call answer kept
  -- the numbers that the answer tells are those of the new ones
  pub numbers : made_by (record { who = who; call = call; answer = answer }) ≡ range_with_len (length w.callbacks + 1) (length new)
  pub new_left : (s : Shelf) (library : ℕ) → left_in s library new ≡ count_by (λ (c : CallbackRow). library_of s c == library) new
  pub new_runs : (s : Shelf) (library : ℕ) → runs_in s library new ≡ 0
  pub rows : (place : ℕ) (c : CallbackRow) → slice_get new place ≡ Some c → IsNewAt w after place c
  pub homes : AllByRecursion (HasHome w call) new
  pub simple : IsSimple w call answer new
  pub keeps : (number : ℕ) (c : CallbackRow) → find (has_number number) w.callbacks ≡ Some c → IsKeptRow after number c
  pub shelf : (s : Shelf) (library : ℕ) → IsShelfOf s w → IsShelfKept s (shelf_answered s who call library answer) w after kept

-- behind a recording
abbrev pub Effects : Recording → Who → Call → Answer → Type 0
Effects r who call answer = Moved r.limits (world_behind r) who call answer (world_behind (recorded r who call (Done answer)))
