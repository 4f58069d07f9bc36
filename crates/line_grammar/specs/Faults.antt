-- What is answered in place of a result.
use Rattle.std.specs.Prelude.{ℕ, Result, Ok, Err}
use Rattle.line_grammar.specs.declared.faults.TextFault.{TextFault}
use Rattle.line_grammar.specs.declared.faults.TextFault.TheVariants.{NoMemory, At}

-- the fault is at such a line and column, or memory was refused
abbrev pub IsPlace : (ℕ → ℕ → Type 0) → TextFault → Type 0
IsPlace F NoMemory = Unit {0}
IsPlace F (At line column) = F line column

-- the result is such a one, or memory was refused
abbrev pub IsOrNoMemory : {T : Type 0} → (T → Type 0) → Result T TextFault → Type 0
IsOrNoMemory P (Ok value) = P value
IsOrNoMemory P (Err NoMemory) = Unit {0}
IsOrNoMemory P (Err (At line column)) = ⊥
