-- What the reading of a script answers.
use Rattle.std.specs.Prelude.{◌≡◌, ℕ, true, false, List, [], ◌∷◌, ◌++◌, Result, Ok, Err, ◌⊎◌}
use Rattle.script_lines.specs.declared.judge.Known.{Known}
use Rattle.script_lines.specs.declared.line.Line.{Line}
use Rattle.script_lines.specs.Readings.{IsLineFault, IsLineRead}
use Rattle.script_lines.specs.Texts.{is_blank}
use Rattle.tp_script.specs.declared.fault.ScriptFault.{ScriptFault}
use Rattle.tp_script.specs.declared.fault.ScriptFault.TheVariants.{NoMemory, At}
use Rattle.tp_script.specs.declared.numbered.NumberedLine.{NumberedLine}
use Rattle.tp_script.specs.Parsed.{Parsed}
use Rattle.tp_script.specs.Scripts.{IsFaultIn, known_after, words_of}

-- the fault is that of the text, or memory was refused
abbrev pub IsScriptFault : List ℕ → ScriptFault → Type 0
IsScriptFault text NoMemory = Unit {0}
IsScriptFault text (At line column kind) = IsFaultIn text line column kind

-- the answer is the script that plays these lines, or memory was refused
abbrev pub IsThat : List Line → Result Parsed ScriptFault → Type 0
IsThat lines (Ok script) = script.lines ≡ lines
IsThat lines (Err NoMemory) = Unit {0}
IsThat lines (Err (At line column kind)) = ⊥

-- one more text was read: it is blank, or a line of this number
abbrev pub IsAdded : Known → List NumberedLine → ℕ → List ℕ → Known → List NumberedLine → Type 0
IsAdded known rows number text next more =
    ((is_blank (words_of text) ≡ true) × (more ≡ rows) × (next ≡ known))
    ⊎ ((is_blank (words_of text) ≡ false)
    × ((line : Line) × (name : List ℕ) × IsLineRead known (words_of text) line name × (more ≡ rows ++ (record { number = number; line = line }) ∷ []) × (next ≡ known_after known line name)))

-- one more text is no line in its place, or memory was refused
abbrev pub IsLineFaultAt : Known → ℕ → List ℕ → ScriptFault → Type 0
IsLineFaultAt known number text NoMemory = Unit {0}
IsLineFaultAt known number text (At line column kind) = (line ≡ number) × (is_blank (words_of text) ≡ false) × IsLineFault known (words_of text) column kind
