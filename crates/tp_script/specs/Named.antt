-- The name that a line of a text declares, or of which it says something.
use Rattle.std.specs.Prelude.{ℕ, ◌+◌, List, [], ◌∷◌, bytes_eq, codes, nat_eq, if◌then◌else◌}
use Rattle.script_lines.specs.Texts.{Spot, lines_of}
use Rattle.tp_script.specs.Scripts.{words_of}

-- the text of a number, of those that begin at a number
abbrev pub text_from : ℕ → List (List ℕ) → ℕ → List ℕ
text_from at [] number = []
text_from at (text ∷ texts) number = if nat_eq at number then text else text_from (at + 1) texts number

abbrev pub first_word : List Spot → List ℕ
first_word [] = []
first_word (spot ∷ spots) = spot.word

-- the word behind the first one, which may have `try` in front of it
abbrev pub name_among : List Spot → List ℕ
name_among [] = []
name_among (head ∷ spots) = if bytes_eq head.word (codes "try") then name_among spots else first_word spots

abbrev pub name_on : List ℕ → ℕ → List ℕ
name_on text number = name_among (words_of (text_from 1 (lines_of text) number))
