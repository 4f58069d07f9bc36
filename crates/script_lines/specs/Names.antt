-- Names, and what each stands for.
use Rattle.std.specs.Prelude.{ℕ, List, map}
use Rattle.script_lines.specs.declared.names.Named.{Named}
use denote.Ref.{Bor}

-- names in the order in which each was first declared
abbrev pub Names : Type 0
Names = List (List ℕ × Named)

abbrev pub name_in : Bor (List ℕ) × Named → List ℕ × Named
name_in entry = (entry.0.now, entry.1)

abbrev pub names_in : List (Bor (List ℕ) × Named) → Names
names_in entries = map name_in entries
