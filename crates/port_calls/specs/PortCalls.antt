-- What the calls of a text of devices are made from: the objects and the completions of its operations, in the order of
-- the text.
use Rattle.std.specs.Prelude.{ℕ, ◌+◌, List, [], ◌∷◌, ◌++◌, length, map}
use Rattle.std.specs.Global.{Vec}
use Rattle.tp_base.specs.declared.calls.Call.{Call}
use Rattle.tp_base.specs.declared.ids.ObjectId.{ObjectId}
use Rattle.tp_base.specs.declared.ids.Who.{Who}
use Rattle.tp_base.specs.Ranges.{IsCallInRange}
use Rattle.port_lines.specs.declared.lines.Operation.{Operation}
use Rattle.port_facts.specs.declared.Completion.{Completion}
use Rattle.port_facts.specs.declared.Posted.{Posted}

-- a line can have the numbers of the call
abbrev pub IsInRange : Who × Call → Type 0
IsInRange call = IsCallInRange call.1

-- the lists that vectors have
abbrev pub completions_in : List (Vec Completion) → List (List Completion)
completions_in lists = map (λ v. v.items) lists

-- the object of its device for each operation, where the first device has the object of this number, and so on
abbrev pub objects_from : ℕ → List (List Operation) → List ObjectId
objects_from object [] = []
objects_from object (operations ∷ devices) = map (λ (operation : Operation). record { 0 = object }) operations ++ objects_from (object + 1) devices

-- device 1 has object 1, and so on
abbrev pub objects_of : List (List Operation) → List ObjectId
objects_of devices = objects_from 1 devices

-- what a device's operations complete with, the callbacks numbered on from this one
abbrev pub completions_from : ℕ → List Operation → List Completion
completions_from callback [] = []
completions_from callback (operation ∷ operations) = record { callback = callback; error = operation.error; bytes = operation.bytes } ∷ completions_from (callback + 1) operations

abbrev pub numbered_from : ℕ → List (List Operation) → List (List Completion)
numbered_from callback [] = []
numbered_from callback (operations ∷ devices) = completions_from callback operations ∷ numbered_from (callback + length operations) devices

-- the callbacks are numbered on from 1 through all devices
abbrev pub numbered : List (List Operation) → List (List Completion)
numbered devices = numbered_from 1 devices

abbrev pub posted_by : ℕ → List Completion → List Posted
posted_by device list = map (λ (c : Completion). record { device = device; completion = c }) list

abbrev pub posted_from : ℕ → List (List Completion) → List Posted
posted_from device [] = []
posted_from device (list ∷ lists) = posted_by device list ++ posted_from (device + 1) lists

-- all of device 1, then all of device 2, and so on
abbrev pub in_turn : List (List Completion) → List Posted
in_turn lists = posted_from 1 lists
