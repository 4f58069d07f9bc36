-- What contracts say of ports and passes.
use Rattle.std.specs.Prelude.{◌≡◌, ℕ, ◌+◌, ◌<◌, ◌≤◌, List, [], ◌∷◌, ◌++◌, length, map, slice_index_or}
use Rattle.crossbeam_queue.specs.Passes.{view, ruled_capacity, IsPassOf, Pass}
use Rattle.tp_port.specs.declared.passes.LastPass.{LastPass}
use Rattle.tp_port.specs.declared.passes.PostPass.{PostPass}
use Rattle.tp_port.specs.declared.passes.TakePass.{TakePass}
use Rattle.tp_port.specs.declared.port.Port.{Port}
use Rattle.port_facts.specs.declared.Completion.{Completion}
use Rattle.tp_port.specs.declared.views.Part.{Part}
use Rattle.tp_port.specs.declared.views.Part.TheVariants.{Posts, Takes}
use Rattle.port_facts.specs.declared.Posted.{Posted}
use Rattle.tp_port.specs.Lists.{quota_of}
use Rattle.port_facts.specs.Interleaved.{list_of, of}
use Rattle.tp_port.specs.Parts.{known_in, quota_in, room_in, put_in, quotas_in, taken_in}
use Rattle.tp_port.specs.Rule.{AreBegun}

-- of which device it is
abbrev pub number_of : PostPass → ℕ
number_of pass = pass.number

-- how many completions the device may post
abbrev pub quota : PostPass → ℕ
quota pass = quota_in (view pass.raw)

-- what the device has posted
abbrev pub posted_by : PostPass → List Completion
posted_by pass = put_in (view pass.raw)

-- the quotas of the port's devices, in their order
abbrev pub quotas_of : TakePass → List ℕ
quotas_of pass = quotas_in (view pass.raw)

-- what was taken, in its order
abbrev pub taken_by : TakePass → List Posted
taken_by pass = taken_in (view pass.raw)

-- it is a pass of a device at this port
pub record IsPostOf (port : Port) (pass : PostPass) : Type 0 where
  pub of : IsPassOf port.queue pass.raw
  pub knows : view pass.raw ≡ Posts pass.number (quota pass) (room_in (view pass.raw)) (posted_by pass)
  pub capacity : ruled_capacity port.queue ≡ room_in (view pass.raw) + 1

-- the completion was posted, behind those that the device posted before
pub record HasPosted (port : Port) (completion : Completion) (a b : PostPass) : Type 0 where
  pub of : IsPostOf port b
  pub number : number_of b ≡ number_of a
  pub quota_is : quota b ≡ quota a
  pub posted : posted_by b ≡ posted_by a ++ completion ∷ []

-- it is the pass of the one who takes at this port
pub record IsTakeOf (port : Port) (pass : TakePass) : Type 0 where
  pub of : IsPassOf port.queue pass.raw
  pub knows : view pass.raw ≡ Takes (quotas_of pass) (length (quotas_of pass)) (taken_by pass) []
  pub few : length (quotas_of pass) ≤ 15

-- a device's pass at a new port
pub record IsNewPost (port : Port) (quotas : List ℕ) (number : ℕ) (pass : PostPass) : Type 0 where
  pub of : IsPostOf port pass
  pub number_is : number_of pass ≡ number
  pub quota_is : quota pass ≡ quota_of quotas number
  pub posted : posted_by pass ≡ []

-- a pass for each quota, in their order
pub record AreDealt (port : Port) (quotas : List ℕ) (posts : List PostPass) : Type 0 where
  pub count : length posts ≡ length quotas
  pub each : (k : ℕ) (d : PostPass) → k < length posts → IsNewPost port quotas (k + 1) (slice_index_or posts k d)

-- the taker's pass at a new port
pub record IsNewTake (port : Port) (quotas : List ℕ) (pass : TakePass) : Type 0 where
  pub of : IsTakeOf port pass
  pub quotas_are : quotas_of pass ≡ quotas
  pub taken : taken_by pass ≡ []

-- what the taker's pass knows when the passes of all devices were made
pub record IsLeft (port : Port) (quotas : List ℕ) (raw : Pass Posted Part) : Type 0 where
  pub of : IsPassOf port.queue raw
  pub knows : view raw ≡ Takes quotas (length quotas) [] []

-- this one was taken, behind those that were taken before; it is of a device that there is
pub record HasTaken (port : Port) (x : Posted) (a b : TakePass) : Type 0 where
  pub of : IsTakeOf port b
  pub quotas_are : quotas_of b ≡ quotas_of a
  pub taken : taken_by b ≡ taken_by a ++ x ∷ []
  pub device : 0 < quota_of (quotas_of a) x.device

-- nothing was taken
pub record HasWaited (port : Port) (a b : TakePass) : Type 0 where
  pub of : IsTakeOf port b
  pub quotas_are : quotas_of b ≡ quotas_of a
  pub taken : taken_by b ≡ taken_by a

-- it is the pass of a device of this number
pub record IsPostAt (port : Port) (number : ℕ) (pass : PostPass) : Type 0 where
  pub of : IsPostOf port pass
  pub number_is : number_of pass ≡ number

-- the passes of all devices, in the order of their numbers
pub record AreBack (port : Port) (pass : TakePass) (posts : List PostPass) : Type 0 where
  pub count : length posts ≡ length (quotas_of pass)
  pub each : (k : ℕ) (d : PostPass) → k < length posts → IsPostAt port (k + 1) (slice_index_or posts k d)

-- what was taken in all, in its order
abbrev pub taken_last : LastPass → List Posted
taken_last pass = taken_in (view pass.raw)

-- what each device posted, in their order
abbrev pub posted_last : LastPass → List (List Completion)
posted_last pass = known_in (view pass.raw)

-- the quotas of the port's devices, in their order
abbrev pub quotas_last : LastPass → List ℕ
quotas_last pass = quotas_in (view pass.raw)

-- it is the pass of the one who takes what is left at this port
pub record IsLastOf (port : Port) (pass : LastPass) : Type 0 where
  pub of : IsPassOf port.queue pass.raw
  pub knows : view pass.raw ≡ Takes (quotas_last pass) (length (quotas_last pass)) (taken_last pass) (posted_last pass)
  pub count : length (posted_last pass) ≡ length (quotas_last pass)
  -- of each device, what was taken is a beginning of what it posted
  pub begun : AreBegun (view pass.raw)

-- the taker's pass has the passes of all devices in it
pub record IsGathered (port : Port) (posts : List PostPass) (pass : TakePass) (last : LastPass) : Type 0 where
  pub of : IsLastOf port last
  pub quotas_are : quotas_last last ≡ quotas_of pass
  pub taken : taken_last last ≡ taken_by pass
  pub posted : posted_last last ≡ map posted_by posts

-- what each device posted is as it was
pub record IsSameLast (port : Port) (a b : LastPass) : Type 0 where
  pub of : IsLastOf port b
  pub quotas_are : quotas_last b ≡ quotas_last a
  pub posted : posted_last b ≡ posted_last a

-- this one was taken, behind those that were taken before; it is of a device that there is
pub record HasTakenLast (port : Port) (x : Posted) (a b : LastPass) : Type 0 where
  pub same : IsSameLast port a b
  pub taken : taken_last b ≡ taken_last a ++ x ∷ []
  pub device : 0 < quota_of (quotas_last a) x.device

-- nothing was taken, and of each device what was taken is what it posted
pub record IsDrained (port : Port) (a b : LastPass) : Type 0 where
  pub same : IsSameLast port a b
  pub taken : taken_last b ≡ taken_last a
  pub all : (device : ℕ) → of device (taken_last b) ≡ list_of (posted_last b) device
