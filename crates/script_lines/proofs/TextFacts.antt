-- The lines of a text, and the words of a line.
use Rattle.std.proofs.Common.{◌≡◌, ℕ, suc, ◌+◌, Bool, true, false, IsTrue, List, [], ◌∷◌, ◌++◌, length, nat_eq, refl, sym, ap, ◌∙◌, subst, arith, if◌then◌else◌}
use Rattle.std.proofs.lemmas.Bool.{true≢false}
use Rattle.line_grammar.specs.Parts.{Opens}
use Rattle.line_grammar.specs.Words.{lacks}
use Rattle.script_lines.specs.Texts.{begins_with_space, ends_word, lengthened, lines_of, push_first, without_first, words_from}

-- the first line, and the lines behind it
pub first_line : (line rest : List ℕ) → IsTrue (lacks 10 line) → Opens 10 rest → (line ++ rest ≡ [] → ⊥) → lines_of (line ++ rest) ≡ line ∷ lines_of (without_first rest)
first_line [] [] lacking opened some = absurd (some refl)
first_line [] (byte ∷ rest) lacking opened some =
    subst (λ b. lines_of (b ∷ rest) ≡ [] ∷ lines_of rest) (sym opened) refl
first_line (byte ∷ line) rest lacking opened some = by (nat_eq byte 10) lacking (λ h some. first_line line rest h opened some)
  where
    behind : (line rest : List ℕ) → ((line ++ rest ≡ [] → ⊥) → lines_of (line ++ rest) ≡ line ∷ lines_of (without_first rest)) → push_first byte (lines_of (line ++ rest)) ≡ (byte ∷ line) ∷ lines_of (without_first rest)
    behind [] [] h = refl
    behind [] (other ∷ rest) h = ap (push_first byte) (h (λ e. let no_such : ⊥ = cc in no_such))
    behind (other ∷ line) rest h = ap (push_first byte) (h (λ e. let no_such : ⊥ = cc in no_such))

    by : (b : Bool) → (if b then false else lacks 10 line) ≡ true → (IsTrue (lacks 10 line) → (line ++ rest ≡ [] → ⊥) → lines_of (line ++ rest) ≡ line ∷ lines_of (without_first rest))
        → (if b then [] ∷ lines_of (line ++ rest) else push_first byte (lines_of (line ++ rest))) ≡ (byte ∷ line) ∷ lines_of (without_first rest)
    by true h more = let no_such : ⊥ = cc in absurd no_such
    by false h more = behind line rest (more h)

ended : (rest : List ℕ) → Opens 32 rest → ends_word rest ≡ true
ended [] opened = refl
ended (byte ∷ rest) opened = subst (λ b. nat_eq b 32 ≡ true) (sym opened) refl

-- a word that goes on: the byte in front of it is its first
inside_word : (column byte next : ℕ) (word rest : List ℕ) → (b : Bool) → (if b then false else lacks 32 word) ≡ true
    → words_from (column + 1) ((next ∷ word) ++ rest) ≡ (record { column = column + 1; word = next ∷ word }) ∷ words_from (column + 1 + suc (length word)) rest
    → (if b then (record { column = column; word = byte ∷ [] }) ∷ words_from (column + 1) ((next ∷ word) ++ rest) else lengthened column byte (words_from (column + 1) ((next ∷ word) ++ rest)))
    ≡ (record { column = column; word = byte ∷ next ∷ word }) ∷ words_from (column + suc (suc (length word))) rest
inside_word column byte next word rest true h more = let no_such : ⊥ = cc in absurd no_such
inside_word column byte next word rest false h more =
    let places : column + 1 + suc (length word) ≡ column + suc (suc (length word)) = omega arith in
    ap (lengthened column byte) more ∙ ap (λ (n : ℕ). (record { column = column; word = byte ∷ next ∷ word }) ∷ words_from n rest) places

-- the first word, and the words behind it
pub first_word : (column : ℕ) (byte : ℕ) (word rest : List ℕ) → IsTrue (lacks 32 (byte ∷ word)) → Opens 32 rest
    → words_from column ((byte ∷ word) ++ rest) ≡ (record { column = column; word = byte ∷ word }) ∷ words_from (column + (suc (length word))) rest
first_word column byte [] rest lacking opened = by (nat_eq byte 32) lacking
  where
    one : (b : Bool) → b ≡ true → (if b then (record { column = column; word = byte ∷ [] }) ∷ words_from (column + 1) rest else lengthened column byte (words_from (column + 1) rest)) ≡ (record { column = column; word = byte ∷ [] }) ∷ words_from (column + 1) rest
    one true e = refl
    one false e = let no_such : ⊥ = cc in absurd no_such

    by : (b : Bool) → (if b then false else lacks 32 []) ≡ true
        → (if b then words_from (column + 1) rest else (if ends_word rest then (record { column = column; word = byte ∷ [] }) ∷ words_from (column + 1) rest else lengthened column byte (words_from (column + 1) rest)))
        ≡ (record { column = column; word = byte ∷ [] }) ∷ words_from (column + 1) rest
    by true h = let no_such : ⊥ = cc in absurd no_such
    by false h = one (ends_word rest) (ended rest opened)
first_word column byte (next ∷ word) rest lacking opened =
    by (nat_eq byte 32) lacking (λ h. first_word (column + 1) next word rest h opened)
  where
    by : (b : Bool) → (if b then false else lacks 32 (next ∷ word)) ≡ true
        → (IsTrue (lacks 32 (next ∷ word)) → words_from (column + 1) ((next ∷ word) ++ rest) ≡ (record { column = column + 1; word = next ∷ word }) ∷ words_from (column + 1 + suc (length word)) rest)
        → (if b then words_from (column + 1) ((next ∷ word) ++ rest) else (if ends_word ((next ∷ word) ++ rest) then (record { column = column; word = byte ∷ [] }) ∷ words_from (column + 1) ((next ∷ word) ++ rest) else lengthened column byte (words_from (column + 1) ((next ∷ word) ++ rest))))
        ≡ (record { column = column; word = byte ∷ next ∷ word }) ∷ words_from (column + suc (suc (length word))) rest
    by true h more = let no_such : ⊥ = cc in absurd no_such
    by false h more = inside_word column byte next word rest (nat_eq next 32) h (more h)

pub split_word : (column : ℕ) (front rest : List ℕ) → (front ++ rest ≡ [] → ⊥) → begins_with_space (front ++ rest) ≡ false → IsTrue (lacks 32 front) → Opens 32 rest
    → words_from column (front ++ rest) ≡ (record { column = column; word = front }) ∷ words_from (column + length front) rest
split_word column [] [] some solid lacking opened = absurd (some refl)
split_word column [] (byte ∷ rest) some solid lacking opened = absurd (true≢false (sym (ended (byte ∷ rest) opened) ∙ solid))
split_word column (byte ∷ word) rest some solid lacking opened = first_word column byte word rest lacking opened
