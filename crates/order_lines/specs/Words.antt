-- The words of a script's lines.
use Rattle.std.specs.Prelude.{ℕ, ◌-◌, Bool, true, false, List, [], ◌∷◌, ◌++◌, ◌||◌, bytes_eq, codes, drop, flat_map, if◌then◌else◌, map}
use Rattle.script_lines.specs.Texts.{Spot, lines_of, words_from}

abbrev pub first_line : List (List ℕ) → List ℕ
first_line [] = []
first_line (line ∷ lines) = line

-- the line of this number, from 1, and an empty one where there is none
abbrev pub line_in : List ℕ → ℕ → List ℕ
line_in text number = first_line (drop (number - 1) (lines_of text))

abbrev pub words_in : List ℕ → List (List ℕ)
words_in line = map (λ (spot : Spot). spot.word) (words_from 1 line)

-- words with one space between each two
abbrev pub spaced : List (List ℕ) → List ℕ
spaced [] = []
spaced (word ∷ words) = word ++ flat_map (λ (w : List ℕ). 32 ∷ w) words

-- `times`, `if` and `unless` stand before an operation with one word each, and `try` with none
abbrev pub has_word : List ℕ → Bool
has_word word = bytes_eq word (codes "times") || (bytes_eq word (codes "if") || bytes_eq word (codes "unless"))

-- the operation's own word, where the first word is passed or isn't
abbrev pub operation_among : Bool → List (List ℕ) → List ℕ
operation_among passes [] = []
operation_among true (word ∷ words) = operation_among false words
operation_among false (word ∷ words) =
    if bytes_eq word (codes "try") then operation_among false words
    else if has_word word then operation_among true words
    else word

abbrev pub operation_in : List ℕ → List ℕ
operation_in line = operation_among false (words_in line)
