-- What contracts say of devices in threads.
use Rattle.std.specs.Prelude.{◌≡◌, ℕ, ◌+◌, ◌<◌, List, [], length, slice_index_or}
use Rattle.std.specs.Global.{Vec}
use Rattle.tp_port.specs.declared.devices.Started.{Started}
use Rattle.tp_port.specs.declared.devices.Started.TheVariants.{Runs, Ended}
use Rattle.tp_port.specs.declared.passes.PostPass.{PostPass}
use Rattle.tp_port.specs.declared.port.Port.{Port}
use Rattle.port_facts.specs.declared.Completion.{Completion}
use Rattle.tp_port.specs.Ports.{posted_by, quota, IsPostAt}

-- the pass of a device that has posted nothing, and may post the list
pub record IsReady (port : Port) (number : ℕ) (list : List Completion) (pass : PostPass) : Type 0 where
  pub at : IsPostAt port number pass
  pub quota_is : quota pass ≡ length list
  pub posted : posted_by pass ≡ []

-- the pass of a device that has posted the list
pub record HasPostedAll (port : Port) (number : ℕ) (list : List Completion) (pass : PostPass) : Type 0 where
  pub at : IsPostAt port number pass
  pub posted : posted_by pass ≡ list

-- the device was started, to post the list
abbrev pub IsStarted : Port → ℕ → List Completion → Started → Type 0
IsStarted port number list (Runs handle) = (handle.promise.port.value ≡ port) × (handle.promise.number ≡ number) × (handle.promise.list.value.items ≡ list)
IsStarted port number list (Ended pass) = HasPostedAll port number list pass

-- this is its pass when it has ended
abbrev pub Finishes : Started → PostPass → Type 0
Finishes started pass = (port : Port) (number : ℕ) (list : List Completion) → IsStarted port number list started → HasPostedAll port number list pass

-- the passes of all devices, which are about to post their lists
pub record AreReady (port : Port) (devices : List (Vec Completion)) (posts : List PostPass) : Type 0 where
  pub count : length posts ≡ length devices
  pub each : (k : ℕ) (d : Vec Completion) (p : PostPass) → k < length posts → IsReady port (k + 1) (slice_index_or devices k d).items (slice_index_or posts k p)

-- the devices were started, in the order of their numbers
pub record AreStarted (port : Port) (devices : List (Vec Completion)) (started : List Started) : Type 0 where
  pub count : length started ≡ length devices
  pub each : (k : ℕ) (d : Vec Completion) (s : Started) → k < length started → IsStarted port (k + 1) (slice_index_or devices k d).items (slice_index_or started k s)

-- these are their passes, when they have ended
pub record AreFinished (started : List Started) (posts : List PostPass) : Type 0 where
  pub count : length posts ≡ length started
  pub each : (k : ℕ) (s : Started) (p : PostPass) → k < length started → Finishes (slice_index_or started k s) (slice_index_or posts k p)

-- the passes of all devices, which have posted their lists
pub record AreEnded (port : Port) (devices : List (Vec Completion)) (posts : List PostPass) : Type 0 where
  pub count : length posts ≡ length devices
  pub each : (k : ℕ) (d : Vec Completion) (p : PostPass) → k < length posts → HasPostedAll port (k + 1) (slice_index_or devices k d).items (slice_index_or posts k p)
