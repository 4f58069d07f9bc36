-- What is known of a script so far, and what a word stands for.
use Rattle.std.specs.Prelude.{ℕ, Bool, Option, Some, None, List, bytes_eq, is_some, option_and_then, nat_eq, ◌||◌, if◌then◌else◌}
use Rattle.std.specs.Map.{lookup}
use Rattle.script_lines.specs.declared.judge.Known.{Known}
use Rattle.script_lines.specs.declared.line.Meaning.{Meaning}
use Rattle.script_lines.specs.declared.names.Named.{Named}
use Rattle.script_lines.specs.declared.words.Tally.{Tally}
use Rattle.script_lines.specs.declared.words.Tally.TheVariants as tally

-- a name of the whole script, or of this section
abbrev pub within_section : Named → ℕ → Option Meaning
within_section named section = if nat_eq named.section 0 || nat_eq named.section section then Some named.meaning else None

-- what the word stands for here
abbrev pub found_in : Known → List ℕ → Option Meaning
found_in known word = option_and_then (λ named. within_section named known.state.section) (lookup (bytes_eq word) known.names)

-- whether a new name would stand twice: a local name among those of its section and of the script, another among all
abbrev pub is_standing : Known → Tally → List ℕ → Bool
is_standing known tally.Locals word = is_some (found_in known word)
is_standing known _ word = is_some (lookup (bytes_eq word) known.names)

-- whether the word is a name here, or that of a routine
abbrev pub is_known : Known → List ℕ → Bool
is_known known word = is_some (found_in known word) || is_some (lookup (bytes_eq word) known.routines)
