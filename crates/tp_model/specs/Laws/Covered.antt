-- The laws Covered and Closed: what may still run once a wait for the callbacks of an object has returned, or a close of a
-- group.
use Rattle.std.specs.Prelude.{◌≡◌, Bool, true, false, ◌&&◌, ◌||◌, ◌==◌, List, ◌∷◌, ◌++◌, if◌then◌else◌, is_some, Option, None, Some}
use Rattle.std.specs.List.{find, list_any}
use Rattle.tp_base.specs.declared.ids.Who.{Who}
use Rattle.tp_base.specs.declared.answers.Answer.TheVariants.{Ended}
use Rattle.tp_base.specs.declared.answers.Entry.{Entry}
use Rattle.tp_base.specs.declared.rows.WaitTarget.{WaitTarget}
use Rattle.tp_base.specs.declared.rows.WaitTarget.TheVariants.{Object, Group, Kernel}
use Rattle.tp_base.specs.Actors.{is_same_actor}
use Rattle.tp_model.specs.Waits.{is_object_target, is_group_target}
use Rattle.tp_model.specs.Laws.Entries.{Run, Begins, begins_by, is_among, is_ending, is_loosened, is_returned, born, ready, objects_of, simples_of, run_by}

-- the entry ends the actor's wait
abbrev pub ends : Who → Entry → Bool
ends who entry = is_same_actor entry.who who && is_ending entry

-- the first of the entries that does
abbrev pub end_in : Who → List Entry → Option Entry
end_in who entries = find (ends who) entries

-- of a wait for an object the callbacks of the object that were made before the wait; with cancel those that were ready to
-- be taken before it. Of a close of a group the callbacks of the objects that were made before it with the group, and the
-- simple ones of the group that were
abbrev pub is_spoken_for : WaitTarget → Bool → List Entry → Run → Bool
is_spoken_for (Object object) cancel before run = (run.object.0 == object.0) && is_some (if cancel then ready before run.number else born before run.number)
is_spoken_for (Group group) cancel before run = is_among run.object.0 (objects_of group.0 before) || ((run.object.0 == 0) && is_among run.number (simples_of group.0 before))
is_spoken_for (Kernel kernel) cancel before run = false

abbrev pub is_spoken_of : Begins → List Entry → Run → Bool
is_spoken_of b before run = is_spoken_for b.target b.cancel before run

-- the actor's callback returns
abbrev pub returns : Who → Entry → Bool
returns who entry = is_same_actor entry.who who && is_returned entry

-- the actor disassociates the callback that it runs
abbrev pub loosens : Who → Entry → Bool
loosens who entry = is_same_actor entry.who who && is_loosened entry

-- a disassociated callback may outlive a wait for its object, and no close of its group
abbrev pub lets_go : WaitTarget → Who → Entry → Bool
lets_go (Object object) who entry = returns who entry || loosens who entry
lets_go _ who entry = returns who entry

-- none of the entries takes a callback of those
abbrev pub NoneTakes : (Run → Bool) → List Entry → Type 0
NoneTakes those entries = (earlier later : List Entry) (entry : Entry) (run : Run) → earlier ++ entry ∷ later ≡ entries → run_by entry.answer ≡ Some run → those run ≡ false

-- each callback of those that is taken is let go by the end of the entries
abbrev pub AllLetGo : WaitTarget → (Run → Bool) → List Entry → Type 0
AllLetGo target those entries =
    (earlier later : List Entry) (entry : Entry) (run : Run) → earlier ++ entry ∷ later ≡ entries → run_by entry.answer ≡ Some run → those run ≡ true
    → list_any (lets_go target entry.who) later ≡ true

-- a wait that began behind `before` and ended freely behind `between`
pub record IsCovered (b : Begins) (before : List Entry) (begin : Entry) (between later : List Entry) : Type 0 where
  pub let_go : AllLetGo b.target (is_spoken_of b before) (before ++ begin ∷ between)
  pub none_later : NoneTakes (is_spoken_of b before) later
  pub none_between : b.cancel ≡ true → NoneTakes (is_spoken_of b before) between

pub record AreKept (of : WaitTarget → Bool) (history : List Entry) : Type 0 where
  pub at_each : (before between later : List Entry) (begin end : Entry) (b : Begins)
      → (before ++ begin ∷ between) ++ end ∷ later ≡ history → begins_by begin ≡ Some b → of b.target ≡ true
      → end_in begin.who between ≡ None → ends begin.who end ≡ true → end.answer ≡ Ended
      → IsCovered b before begin between later

-- of waits for the callbacks of objects
abbrev pub AreCovered : List Entry → Type 0
AreCovered history = AreKept is_object_target history

-- and of closes of groups
abbrev pub AreClosed : List Entry → Type 0
AreClosed history = AreKept is_group_target history
