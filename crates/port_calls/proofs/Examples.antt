-- Two devices, of which the first one has two operations and the second one has one.
use Rattle.std.proofs.Common.{◌≡◌, List, [], ◌∷◌, refl}
use Rattle.port_lines.specs.declared.lines.Operation.{Operation}
use Rattle.port_facts.specs.declared.Completion.{Completion}
use Rattle.port_calls.specs.PortCalls.{in_turn, numbered, objects_of}

two_devices : List (List Operation)
two_devices = (record { error = 0; bytes = 512 } ∷ record { error = 5; bytes = 0 } ∷ []) ∷ (record { error = 7; bytes = 1 } ∷ []) ∷ []

first : Completion
first = record { callback = 1; error = 0; bytes = 512 }

second : Completion
second = record { callback = 2; error = 5; bytes = 0 }

third : Completion
third = record { callback = 3; error = 7; bytes = 1 }

their_objects : objects_of two_devices ≡ record { 0 = 1 } ∷ record { 0 = 1 } ∷ record { 0 = 2 } ∷ []
unfolding two_devices
their_objects = refl

their_completions : numbered two_devices ≡ (first ∷ second ∷ []) ∷ (third ∷ []) ∷ []
unfolding two_devices first second third
their_completions = refl

one_after_another : in_turn ((first ∷ second ∷ []) ∷ (third ∷ []) ∷ []) ≡ record { device = 1; completion = first } ∷ record { device = 1; completion = second } ∷ record { device = 2; completion = third } ∷ []
one_after_another = refl
