-- What is written of the faults and the marks of an order. Names are those of the script's text.
use Rattle.std.specs.Prelude.{ℕ, List, ◌∷◌, ◌++◌, codes, decimal}
use Rattle.tp_base.specs.declared.answers.Answer.TheVariants as answer
use Rattle.tp_base.specs.declared.answers.Outcome.TheVariants.{Done}
use Rattle.tp_base.specs.declared.ids.Who.{Who}
use Rattle.tp_explore.specs.declared.fault.Fault.{Fault}
use Rattle.tp_explore.specs.declared.fault.FaultKind.{FaultKind}
use Rattle.tp_explore.specs.declared.fault.FaultKind.TheVariants.{Refused, Stalled, NotQuiet, UseAfterFree, FreedTwice, FreedInUse, Left}
use Rattle.tp_lines.specs.Answers.{text_of_outcome}
use Rattle.tp_lines.specs.Words.{text_of_who}
use Rattle.tp_model.specs.declared.Left.{Left as LeftAs}
use Rattle.tp_model.specs.declared.Left.TheVariants as left
use Rattle.tp_script.specs.Named.{name_on}
use Rattle.order_lines.specs.Words.{line_in, operation_in, spaced, words_in}

abbrev pub left_word : LeftAs → List ℕ
left_word left.Expected = codes "expected"
left_word left.Issued = codes "issued"
left_word left.Pending = codes "pending"

-- the kind of a fault, and what it is about, by the line of the text at which it is told
abbrev pub kind_words : List ℕ → ℕ → FaultKind → List ℕ
kind_words text line (Refused refusal) = text_of_outcome (Done (answer.Refused refusal))
kind_words text line Stalled = codes "stalled " ++ operation_in (line_in text line)
kind_words text line NotQuiet = codes "not-quiet " ++ name_on text line
kind_words text line UseAfterFree = codes "use-after-free " ++ name_on text line
kind_words text line FreedTwice = codes "freed-twice " ++ name_on text line
kind_words text line FreedInUse = codes "freed-in-use " ++ name_on text line
kind_words text line (Left how) = codes "left " ++ (name_on text line ++ 32 ∷ left_word how)

-- at a line of the script, by an actor
abbrev pub place_words : ℕ → Who → List ℕ
place_words line who = codes " line " ++ (decimal line ++ 32 ∷ text_of_who who)

abbrev pub fault_words : List ℕ → Fault → Who → List ℕ
fault_words text fault who = kind_words text fault.line fault.kind ++ place_words fault.line who

-- a fault of a run, and at which entry it has it
abbrev pub fault_line : List ℕ → ℕ → Fault → Who → List ℕ
fault_line text entry fault who = codes "fault " ++ (fault_words text fault who ++ (codes " entry " ++ decimal entry))

-- what ends an order that is bad
abbrev pub bad_line : List ℕ → Fault → Who → List ℕ
bad_line text fault who = codes "bad " ++ fault_words text fault who

-- a wait that is begun
abbrev pub waits_line : Who → ℕ → List ℕ
waits_line who line = codes "waits " ++ (text_of_who who ++ (codes " line " ++ decimal line))

-- the mark of a line, which takes place at an entry
abbrev pub mark_line : List ℕ → ℕ → Who → ℕ → List ℕ
mark_line text entry who line = codes "mark " ++ (decimal entry ++ 32 ∷ (text_of_who who ++ 32 ∷ spaced (words_in (line_in text line))))
