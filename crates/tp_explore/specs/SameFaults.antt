-- Which faults are the same: those of one kind, with all that it names, at one line.
use Rattle.std.specs.Prelude.{Bool, true, false, ◌&&◌, ◌==◌, List}
use Rattle.std.specs.List.{list_any}
use Rattle.tp_base.specs.contracts.answers.RefusalPartialEq.TheImpl as refusal_eq
use Rattle.tp_base.specs.declared.answers.Refusal.{Refusal}
use Rattle.tp_model.specs.declared.Left.{Left as LeftAs}
use Rattle.tp_model.specs.declared.Left.TheVariants as left
use Rattle.tp_explore.specs.declared.fault.Fault.{Fault}
use Rattle.tp_explore.specs.declared.fault.FaultKind.{FaultKind}
use Rattle.tp_explore.specs.declared.fault.FaultKind.TheVariants.{Refused, Stalled, NotQuiet, UseAfterFree, FreedTwice, FreedInUse, Left}

abbrev pub is_same_refusal : Refusal → Refusal → Bool
is_same_refusal a b = refusal_eq.eq-value.it a b

abbrev pub is_same_left : LeftAs → LeftAs → Bool
is_same_left left.Expected left.Expected = true
is_same_left left.Issued left.Issued = true
is_same_left left.Pending left.Pending = true
is_same_left _ _ = false

abbrev pub is_same_kind : FaultKind → FaultKind → Bool
is_same_kind (Refused a) (Refused b) = is_same_refusal a b
is_same_kind Stalled Stalled = true
is_same_kind NotQuiet NotQuiet = true
is_same_kind UseAfterFree UseAfterFree = true
is_same_kind FreedTwice FreedTwice = true
is_same_kind FreedInUse FreedInUse = true
is_same_kind (Left a) (Left b) = is_same_left a b
is_same_kind _ _ = false

abbrev pub is_same_fault : Fault → Fault → Bool
is_same_fault a b = is_same_kind a.kind b.kind && (a.line == b.line)

-- it is one of those that are passed over
abbrev pub is_passed : List Fault → Fault → Bool
is_passed passed fault = list_any (is_same_fault fault) passed
