-- The law Notices: a close of a group with cancel gives a notice of each member that has a cancel routine, in order of creation,
-- once the callbacks of the group have returned; and nothing else gives one.
use Rattle.std.specs.Prelude.{◌≡◌, ℕ, Bool, true, false, not, ◌&&◌, ◌==◌, nat_lt, List, [], ◌∷◌, ◌++◌, length, map, if◌then◌else◌, option_map, Option, None, Some}
use Rattle.std.specs.List.{filter_map, list_any, range_with_len}
use Rattle.std.specs.Option.{option_map_or}
use Rattle.tp_base.specs.declared.ids.Who.{Who}
use Rattle.tp_base.specs.declared.ids.ObjectId.{ObjectId}
use Rattle.tp_base.specs.declared.answers.Answer.TheVariants.{Ended}
use Rattle.tp_base.specs.declared.answers.Entry.{Entry}
use Rattle.tp_base.specs.declared.rows.WaitTarget.{WaitTarget}
use Rattle.tp_base.specs.declared.rows.WaitTarget.TheVariants.{Group}
use Rattle.tp_base.specs.Actors.{is_same_actor}
use Rattle.tp_model.specs.Waits.{is_group_target}
use Rattle.tp_model.specs.Laws.Entries.{Begins, begins_by, Creation, created_by, closed_by, Notice, notice_by}
use Rattle.tp_model.specs.Laws.Covered.{ends, end_in, is_spoken_of, AllLetGo, NoneTakes}

-- ---- the objects that a close of a group with cancel gives a notice of

-- the object is made with the group and a cancel routine
abbrev pub is_due : ℕ → Creation → Bool
is_due group c = (c.env.group.0 == group) && nat_lt 0 c.env.cancel.0

-- an accepted CloseObject of the object
abbrev pub closes : ℕ → Entry → Bool
closes object entry = option_map_or (λ (o : ObjectId). object == o.0) (closed_by entry) false

abbrev pub is_close_of : ℕ → WaitTarget → Bool
is_close_of group (Group other) = other.0 == group
is_close_of group _ = false

-- an accepted BeginClose on the group
abbrev pub clears : ℕ → Entry → Bool
clears group entry = option_map_or (λ (b : Begins). is_close_of group b.target) (begins_by entry) false

-- what is made and neither closed by any of the entries before the close, nor released by one behind its creation
abbrev pub is_due_behind : ℕ → List Entry → List Entry → Creation → Bool
is_due_behind group before later c = (is_due group c && not (list_any (closes c.object) before)) && not (list_any (clears group) later)

abbrev pub due_of : ℕ → List Entry → List Entry → Option Creation → List Creation
due_of group before later None = []
due_of group before later (Some c) = if is_due_behind group before later c then c ∷ [] else []

abbrev pub due_among : ℕ → List Entry → List Entry → List Creation
due_among group before [] = []
due_among group before (entry ∷ later) = due_of group before later (created_by entry) ++ due_among group before later

-- in order of creation
abbrev pub due : ℕ → List Entry → List Creation
due group before = due_among group before before

-- ---- notices

abbrev pub notice_for : ℕ → Creation → Notice
notice_for cleanup c = record { object = record { 0 = c.object }; routine = c.env.cancel; context = c.context; cleanup = cleanup }

abbrev pub due_to : WaitTarget → ℕ → List Entry → List Notice
due_to (Group group) cleanup before = map (notice_for cleanup) (due group.0 before)
due_to _ cleanup before = []

-- those that a wait which begins behind `before` has to give
abbrev pub notices_due : Begins → List Entry → List Notice
notices_due b before = if b.cancel then due_to b.target b.cleanup before else []

abbrev pub given_by : Who → Entry → Option Notice
given_by who entry = if is_same_actor entry.who who then notice_by entry.answer else None

-- those that the actor's Ends have given
abbrev pub given : Who → List Entry → List Notice
given who entries = filter_map (given_by who) entries

-- one list is the front of another
pub record IsFront (front whole : List Notice) : Type 0 where
  pub rest : List Notice
  pub split : front ++ rest ≡ whole

-- where a wait has given a notice, the callbacks that it speaks of have returned, and none is taken any more
pub record IsSettled (b : Begins) (before : List Entry) (begin : Entry) (between later : List Entry) : Type 0 where
  pub let_go : AllLetGo b.target (is_spoken_of b before) (before ++ begin ∷ between)
  pub none_later : NoneTakes (is_spoken_of b before) later

-- a wait that gives notices: a close of a group with cancel that its actor has begun and not ended
pub record IsClosing (history : List Entry) (who : Who) : Type 0 where
  pub before : List Entry
  pub begin : Entry
  pub between : List Entry
  pub b : Begins
  pub place : before ++ begin ∷ between ≡ history
  pub begins : begins_by begin ≡ Some b
  pub by : is_same_actor begin.who who ≡ true
  pub group : is_group_target b.target ≡ true
  pub cancels : b.cancel ≡ true
  pub unended : end_in who between ≡ None

-- the objects that are made
abbrev pub created_number : Entry → Option ℕ
created_number entry = option_map (λ (c : Creation). c.object) (created_by entry)

abbrev pub numbers_created : List Entry → List ℕ
numbers_created history = filter_map created_number history

pub record AreNoticed (history : List Entry) : Type 0 where
  -- objects are numbered in order of creation
  pub in_order : numbers_created history ≡ range_with_len 1 (length (numbers_created history))
  -- as long as a wait goes on, its notices are the first of those that it has to give
  pub first : (before between later : List Entry) (begin : Entry) (b : Begins) → (before ++ begin ∷ between) ++ later ≡ history → begins_by begin ≡ Some b
      → end_in begin.who between ≡ None → IsFront (given begin.who between) (notices_due b before)
  -- and all of them where it ends freely
  pub all : (before between later : List Entry) (begin end : Entry) (b : Begins) → (before ++ begin ∷ between) ++ end ∷ later ≡ history → begins_by begin ≡ Some b
      → end_in begin.who between ≡ None → ends begin.who end ≡ true → end.answer ≡ Ended → given begin.who between ≡ notices_due b before
  pub settled : (before between later : List Entry) (begin entry : Entry) (b : Begins) (notice : Notice) → (before ++ begin ∷ between) ++ entry ∷ later ≡ history → begins_by begin ≡ Some b
      → end_in begin.who between ≡ None → given_by begin.who entry ≡ Some notice → IsSettled b before begin between later
  -- no other entry gives a notice
  pub no_other : (before later : List Entry) (entry : Entry) (notice : Notice) → before ++ entry ∷ later ≡ history → notice_by entry.answer ≡ Some notice → IsClosing before entry.who
