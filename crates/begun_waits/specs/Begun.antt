-- The begun waits: what a contract sees of `BegunWaits`, and what it asks of the wait of an actor.
use Rattle.std.specs.Prelude.{ℕ, ◌+◌, ◌-◌, ◌==◌, ◌&&◌, Bool, not, nat_le, nat_lt, List, [], ◌++◌, map, if◌then◌else◌, Option, None, Some}
use Rattle.std.specs.List.{filter, find, list_any}
use Rattle.tp_base.specs.declared.ids.Who.{Who}
use Rattle.tp_base.specs.declared.ids.Who.TheVariants.{Client, Worker}
use Rattle.tp_base.specs.declared.ids.KernelId.{KernelId}
use Rattle.tp_base.specs.declared.ids.ObjectId.{ObjectId}
use Rattle.tp_base.specs.declared.limits.Limits.{Limits}
use Rattle.tp_base.specs.declared.rows.WaitTarget.{WaitTarget}
use Rattle.tp_base.specs.declared.rows.WaitTarget.TheVariants.{Object, Group, Kernel}
use Rattle.tp_base.specs.Actors.{is_same_actor}
use Rattle.tp_model.specs.World.{BegunWait}
use Rattle.begun_waits.specs.declared.Closing.{Closing}

-- the limits of the machine; the waits, in the order in which they were begun; and how many notices stalled waits never
-- gave
pub record Begun : Type 0 where
  pub limits : Limits
  pub waits : List BegunWait
  pub given_up : ℕ

-- ---- the wait of an actor

abbrev pub is_waiting : List BegunWait → Who → Bool
is_waiting waits who = list_any (λ (b : BegunWait). is_same_actor b.actor who) waits

abbrev pub wait_among : List BegunWait → Who → Option BegunWait
wait_among waits who = find (λ (b : BegunWait). is_same_actor b.actor who) waits

abbrev pub without_waits : Who → List BegunWait → List BegunWait
without_waits who waits = filter (λ (b : BegunWait). not (is_same_actor b.actor who)) waits

-- the kernel object that a wait is for, if it is for one
abbrev pub kernel_in : WaitTarget → Option KernelId
kernel_in (Object object) = None
kernel_in (Group group) = None
kernel_in (Kernel kernel) = Some kernel

abbrev pub wanted_by : Option BegunWait → Option KernelId
wanted_by None = None
wanted_by (Some b) = kernel_in b.target

-- the group that a wait closes, and with which context, if it closes one
abbrev pub closing_of : BegunWait → WaitTarget → Option Closing
closing_of b (Object object) = None
closing_of b (Group group) = Some (record { group = group; context = b.cleanup })
closing_of b (Kernel kernel) = None

abbrev pub closing_by : Option BegunWait → Option Closing
closing_by None = None
closing_by (Some b) = closing_of b b.target

-- ---- notices

-- the objects that it still has notices of
abbrev pub notices_by : Option BegunWait → List ObjectId
notices_by None = []
notices_by (Some b) = b.notices

-- some wait has a notice of the object
abbrev pub is_noticed : List BegunWait → ObjectId → Bool
is_noticed waits object = list_any (λ (b : BegunWait). list_any (λ (o : ObjectId). o.0 == object.0) b.notices) waits

-- the actor's wait has notices of these objects too
abbrev pub with_notices : Who → List ObjectId → List BegunWait → List BegunWait
with_notices who objects waits = map (λ (b : BegunWait). if is_same_actor b.actor who then record b { notices = b.notices ++ objects } else b) waits

-- ---- places

abbrev pub place_within : ℕ → ℕ → ℕ → Option ℕ
place_within first count number = if nat_le 1 number && nat_le number count then Some (first + (number - 1)) else None

-- where an actor's wait stands: first those of the clients, then those of the workers
abbrev pub place_of : Limits → Who → Option ℕ
place_of limits (Client number) = place_within 0 limits.clients number
place_of limits (Worker number) = place_within limits.clients limits.workers number

-- the actor whose wait stands there
abbrev pub actor_at : Limits → ℕ → Who
actor_at limits place = if nat_lt place limits.clients then Client (place + 1) else Worker (place - limits.clients + 1)
