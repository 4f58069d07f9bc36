-- Waits for callbacks: what is outstanding, what a wait covers, and what of that is still held.
use Rattle.std.specs.Prelude.{ℕ, Bool, true, false, not, ◌&&◌, ◌||◌, ◌==◌, List, length, map, if◌then◌else◌, Option}
use Rattle.std.specs.List.{filter, find}
use Rattle.std.specs.Option.{option_map_or}
use Rattle.tp_base.specs.declared.ids.Who.{Who}
use Rattle.tp_base.specs.declared.plans.Awaited.{Awaited}
use Rattle.tp_base.specs.declared.plans.Awaited.TheVariants as awaited
use Rattle.tp_base.specs.declared.rows.Status.{Status}
use Rattle.tp_base.specs.declared.rows.Status.TheVariants.{Expected, Issued, Pending, Running, Returned, Cancelled}
use Rattle.tp_base.specs.declared.rows.CallbackRow.{CallbackRow}
use Rattle.tp_base.specs.declared.rows.WaitTarget.{WaitTarget}
use Rattle.tp_base.specs.declared.rows.WaitTarget.TheVariants.{Object, Group, Kernel}
use Rattle.tp_model.specs.World.{World, BegunWait}
use Rattle.tp_model.specs.Counts.{callback_of, is_pending, is_running}
use Rattle.tp_base.specs.Actors.{is_same_actor}

-- what a wait is for, by what it was begun for
abbrev pub target_of : Awaited → WaitTarget
target_of (awaited.Object object) = Object object
target_of (awaited.Kernel kernel) = Kernel kernel

-- the callback is of what the wait is for
abbrev pub is_of : WaitTarget → CallbackRow → Bool
is_of (Object object) c = c.object.0 == object.0
is_of (Group group) c = c.group.0 == group.0
is_of (Kernel kernel) c = false

-- a disassociated callback is outstanding for its group, and no longer for its object
abbrev pub is_held_for : WaitTarget → Status → Bool
is_held_for target Expected = true
is_held_for target Issued = true
is_held_for target Pending = true
is_held_for (Object object) (Running worker associated slots) = associated
is_held_for (Group group) (Running worker associated slots) = true
is_held_for (Kernel kernel) (Running worker associated slots) = false
is_held_for target Returned = false
is_held_for target Cancelled = false

-- the callback is outstanding for what the wait is for
abbrev pub is_outstanding_for : WaitTarget → CallbackRow → Bool
is_outstanding_for target c = is_of target c && is_held_for target c.status

abbrev pub count_outstanding : WaitTarget → World → ℕ
count_outstanding target w = length (filter (is_outstanding_for target) w.callbacks)

-- a wait with cancel cancels what is pending
abbrev pub is_cancelled_by : WaitTarget → Bool → CallbackRow → Bool
is_cancelled_by target cancel c = cancel && (is_pending c.status && is_of target c)

abbrev pub cancelled : CallbackRow → CallbackRow
cancelled c = record c { status = Cancelled }

abbrev pub cancel_where : (CallbackRow → Bool) → List CallbackRow → List CallbackRow
cancel_where test cs = map (λ c. if test c then cancelled c else c) cs

abbrev pub is_object_target : WaitTarget → Bool
is_object_target (Object object) = true
is_object_target _ = false

abbrev pub is_group_target : WaitTarget → Bool
is_group_target (Group group) = true
is_group_target _ = false

-- what is outstanding after the cancellation; with cancel a wait for an object covers only what runs
abbrev pub is_covered_by : WaitTarget → Bool → CallbackRow → Bool
is_covered_by target cancel c = is_outstanding_for target c && (is_running c.status || not (cancel && is_object_target target))

abbrev pub covered_of : WaitTarget → Bool → List CallbackRow → List ℕ
covered_of target cancel cs = map (λ c. c.number) (filter (is_covered_by target cancel) cs)

-- the wait that an actor has begun, if it has
abbrev pub wait_of : World → Who → Option BegunWait
wait_of w who = find (λ (b : BegunWait). is_same_actor b.actor who) w.waits

-- the covered callbacks that are still outstanding, by rising number
abbrev pub is_held : World → WaitTarget → ℕ → Bool
is_held w target number = option_map_or (is_outstanding_for target) (callback_of w number) false

abbrev pub held : World → BegunWait → List ℕ
held w b = filter (is_held w b.target) b.covered
