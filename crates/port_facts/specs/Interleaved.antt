-- The lists of several devices, and what came of them in some order.
use Rattle.std.specs.Prelude.{◌≡◌, ℕ, ◌+◌, ◌≤◌, ◌==◌, eqb, List, [], ◌∷◌, ◌++◌, length, map, is_some, true, slice_index_or, if◌then◌else◌, Option, Some, None}
use Rattle.std.specs.List.{filter, filter_map, flat_map, range_with_len, AllByRecursion, IsDistinct}
use Rattle.tp_base.specs.declared.answers.Answer.{Answer}
use Rattle.tp_base.specs.declared.answers.Entry.{Entry}
use Rattle.tp_base.specs.declared.calls.Call.{Call}
use Rattle.tp_base.specs.declared.calls.Call.TheVariants.{CompleteIo}
use Rattle.tp_base.specs.declared.ids.ObjectId.{ObjectId}
use Rattle.tp_base.specs.declared.ids.Who.TheVariants.{Client}
use Rattle.tp_base.specs.Actors.{is_same_actor}
use Rattle.tp_model.specs.Calls.Io.{issued_of}
use Rattle.tp_model.specs.History.{is_refusal}
use Rattle.tp_model.specs.World.{World}
use Rattle.port_facts.specs.Accepted.{MayCall}
use Rattle.port_facts.specs.Completions.{completions}
use Rattle.port_facts.specs.SetUp.{finishes, set_up}
use Rattle.port_facts.specs.declared.Completion.{Completion}
use Rattle.port_facts.specs.declared.Posted.{Posted}

-- what is of a device, in order
abbrev pub of : ℕ → List Posted → List Completion
of device posted = map (λ (x : Posted). x.completion) (filter (λ (x : Posted). x.device == device) posted)

-- the list of a device. Devices count from 1, and device 0 has none
abbrev pub list_of : List (List Completion) → ℕ → List Completion
list_of devices device = slice_index_or ([] ∷ devices) device []

-- all that the devices list
abbrev pub listed : List (List Completion) → List Completion
listed devices = flat_map (λ (list : List Completion). list) devices

abbrev pub numbers : List Completion → List ℕ
numbers list = map (λ (c : Completion). c.callback) list

-- they list the operations of so many callbacks, each once and in the order of their numbers
abbrev pub AreInOrder : ℕ → List (List Completion) → Type 0
AreInOrder count devices = numbers (listed devices) ≡ range_with_len 1 count

-- of each device its list, in order, and of others nothing
abbrev pub IsInterleaving : List (List Completion) → List Posted → Type 0
IsInterleaving devices posted = (device : ℕ) → of device posted ≡ list_of devices device

-- the devices' clients may call, each operation that is listed is under way, and none is listed twice
pub record AreListed (w : World) (devices : List (List Completion)) : Type 0 where
  pub clients : (client : ℕ) → 2 ≤ client → client ≤ length devices + 1 → MayCall w client
  pub issued : AllByRecursion (λ n. is_some (issued_of w n) ≡ true) (numbers (listed devices))
  pub distinct : IsDistinct eqb (numbers (listed devices))

-- ---- what a history has of a device

abbrev pub completion_in : Call → Answer → Option Completion
completion_in (CompleteIo callback error bytes) answer = if is_refusal answer then None else Some (record { callback = callback; error = error; bytes = bytes })
completion_in _ answer = None

abbrev pub completion_by : ℕ → Entry → Option Completion
completion_by device entry = if is_same_actor entry.who (Client (device + 1)) then completion_in entry.call entry.answer else None

-- the completions that the client of the device made
abbrev pub completions_by : ℕ → List Entry → List Completion
completions_by device history = filter_map (completion_by device) history

-- ---- a whole history

-- the operations of these objects are started; what was posted is completed, in this order; the devices' clients finish
abbrev pub port_history : ℕ → List ObjectId → List Posted → List Entry
port_history devices objects posted = set_up devices objects ++ (completions posted ++ finishes 2 devices)
