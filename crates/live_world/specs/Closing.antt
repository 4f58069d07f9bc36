-- Closes of groups: which callbacks and objects are a group's, and what a close leaves.
use Rattle.std.specs.Prelude.{◌≡◌, ℕ, Bool, true, false, ◌&&◌, ◌==◌, nat_lt, List, [], ◌∷◌, ◌++◌, if◌then◌else◌, Option, None, Some}
use Rattle.std.specs.List.{AllByRecursion}
use Rattle.tp_base.specs.declared.ids.Who.{Who}
use Rattle.tp_base.specs.declared.ids.GroupId.{GroupId}
use Rattle.tp_base.specs.declared.ids.ObjectId.{ObjectId}
use Rattle.tp_base.specs.declared.rows.ObjectRow.{ObjectRow}
use Rattle.tp_base.specs.declared.rows.CallbackRow.{CallbackRow}
use Rattle.tp_base.specs.declared.rows.WaitTarget.TheVariants.{Group}
use Rattle.begun_waits.specs.Begun.{with_notices}
use Rattle.tp_model.specs.World.{World, BegunWait}
use Rattle.tp_base.specs.Actors.{is_same_actor}
use Rattle.tp_model.specs.Conditions.{is_in_wait}
use Rattle.tp_model.specs.Counts.{is_operating}
use Rattle.tp_model.specs.Changes.{new_close}
use Rattle.tp_model.specs.Groups.{is_member, is_object_that, notices_of, without_members}
use Rattle.tp_model.specs.Laws.Entries.{is_among}
use Rattle.tp_model.specs.Support.Sound.{is_left_among}
use Rattle.tp_model.specs.Waits.{cancel_where, is_cancelled_by, is_group_target}
use Rattle.live_world.specs.Live.{Live, with_world}

-- the callback is of the group
abbrev pub is_of_group : GroupId → CallbackRow → Bool
is_of_group group c = c.group.0 == group.0

-- an operation of a member of the group is expected or under way
abbrev pub operates : List ObjectRow → ℕ → CallbackRow → Bool
operates objects group c = is_operating c.status && is_object_that (is_member group) objects c.object.0

-- the lesser of two numbers, where there is a first one
abbrev pub lesser : Option ℕ → ℕ → Option ℕ
lesser None number = Some number
lesser (Some least) number = if nat_lt number least then Some number else Some least

-- ---- the steps of a close

-- what is pending of the group cancelled, if so it is asked
abbrev pub settled_group : Live → GroupId → Bool → Live
settled_group l group cancel = with_world l (record l.world { callbacks = cancel_where (is_cancelled_by (Group group) cancel) l.world.callbacks })

-- the wait begun, with no notices yet
abbrev pub begin_close_wait : World → Who → GroupId → Bool → ℕ → World
begin_close_wait w who group cancel context = record w { waits = w.waits ++ new_close who group cancel context [] w.callbacks ∷ [] }

-- its notices noted
abbrev pub noted : Live → Who → List ObjectId → Live
noted l who objects = with_world l (record l.world { waits = with_notices who objects l.world.waits })

-- the members released, and noted for the actor's wait, if they are to get notices
abbrev pub closed_members : Live → Who → GroupId → Bool → Live
closed_members l who group cancel = with_world l (record (without_members l.world group.0) { waits = with_notices who (notices_of l.world group.0 cancel) l.world.waits })

-- a wait may have notices where it is for a group, and covers nothing that may still be run
pub record MayHaveNotices (callbacks : List CallbackRow) (b : BegunWait) : Type 0 where
  pub closes : is_group_target b.target ≡ true
  pub settled : (number : ℕ) → is_left_among callbacks b.target number ≡ true → is_among number b.covered ≡ false

-- the actor has begun one, and it may
pub record MayNote (w : World) (who : Who) : Type 0 where
  pub begun : is_in_wait w who ≡ true
  pub may : AllByRecursion (λ (b : BegunWait). is_same_actor b.actor who ≡ true → MayHaveNotices w.callbacks b) w.waits
