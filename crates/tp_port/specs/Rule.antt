-- The rule of the queue: of each device, what it posted is what was taken of it, and then what the queue holds of it.
use Rattle.std.specs.Prelude.{◌≡◌, ℕ, ◌+◌, ◌<◌, ◌≤◌, List, [], ◌++◌, length, sum, slice_index_or}
use mathlib.Core.Option.{Option, some, none}
use lib.ListN.{get_elem?}
use Rattle.port_facts.specs.declared.Completion.{Completion}
use Rattle.tp_port.specs.declared.views.Part.{Part}
use Rattle.tp_port.specs.declared.views.Part.TheVariants.{Spent, Posts, Takes}
use Rattle.port_facts.specs.declared.Posted.{Posted}
use Rattle.tp_port.specs.Lists.{quota_of, StartsWith}
use Rattle.port_facts.specs.Interleaved.{list_of, of}
use Rattle.tp_port.specs.Parts.{known_in, taken_in}

-- what no pass knows as a whole: the quotas, which pass is the taker's, which one each device has while it is out, what
-- each device has posted, and what was taken
pub record Ledger : Type 0 where
  pub quotas : List ℕ
  pub reader : ℕ
  pub seat : ℕ → Option ℕ
  pub posted : ℕ → List Completion
  pub taken : List Posted

-- what a device's pass knows is right
pub record FitsPost (l : Ledger) (pass device quota room : ℕ) (put : List Completion) : Type 0 where
  pub some_device : 0 < device
  pub seat : l.seat device ≡ some pass
  pub put_is : put ≡ l.posted device
  pub quota_is : quota ≡ quota_of l.quotas device
  pub room_is : room ≡ sum l.quotas

-- what the taker's pass knows is right
pub record FitsTake (l : Ledger) (pass : ℕ) (quotas : List ℕ) (made : ℕ) (taken : List Posted) (known : List (List Completion)) : Type 0 where
  pub reader : pass ≡ l.reader
  pub quotas_are : quotas ≡ l.quotas
  pub taken_is : taken ≡ l.taken
  -- devices that have no pass yet have posted nothing
  pub later : (device : ℕ) → made < device → (l.seat device ≡ none) × (l.posted device ≡ [])
  -- the first devices' passes came back
  pub back : (k : ℕ) → k < length known → (l.seat (k + 1) ≡ none) × (slice_index_or known k [] ≡ l.posted (k + 1))
  pub count : length known ≤ made

abbrev pub Fits : Ledger → ℕ → Part → Type 0
Fits l pass Spent = Unit {0}
Fits l pass (Posts device quota room put) = FitsPost l pass device quota room put
Fits l pass (Takes quotas made taken known) = FitsTake l pass quotas made taken known

pub record Delivers (items : List Posted) (views : List Part) : Type 0 where
  pub ledger : Ledger
  pub order : (device : ℕ) → of device (ledger.taken ++ items) ≡ ledger.posted device
  pub within : (device : ℕ) → length (ledger.posted device) ≤ quota_of ledger.quotas device
  pub each : (pass : ℕ) (v : Part) → get_elem? views pass ≡ some v → Fits ledger pass v

-- of each device, what was taken and then what the queue holds is what it posted, as the taker knows it
abbrev pub AreKnown : Part → List Posted → Type 0
AreKnown v items = (device : ℕ) → of device (taken_in v ++ items) ≡ list_of (known_in v) device

-- of each device, what was taken is a beginning of what it posted
abbrev pub AreBegun : Part → Type 0
AreBegun v = (device : ℕ) → StartsWith (list_of (known_in v) device) (of device (taken_in v))
