-- The exit status of the program.
use Rattle.std.specs.Prelude.{ℕ}
use Rattle.tp_run.specs.declared.status.Status.{Status}
use Rattle.tp_run.specs.declared.status.Status.TheVariants.{Fine, Words, BadLine, ReadFault, WriteFault, NoMemory, TooLong, NotLegal, Exhausted, Stalled, Bad, GaveUp}

abbrev pub code_of : Status → ℕ
code_of Fine = 0
code_of Words = 1
code_of (BadLine line column) = 2
code_of ReadFault = 3
code_of WriteFault = 4
code_of NoMemory = 5
code_of TooLong = 6
code_of NotLegal = 7
code_of Exhausted = 8
code_of Stalled = 9
code_of Bad = 10
code_of GaveUp = 11
