-- The texts of milliseconds that may be none.
use Rattle.std.proofs.Common.{◌≡◌, ℕ, ◌<◌, ◌≤◌, List, length, refl, sym, subst, arith, IsTrue, Option, Some, None, codes}
use Rattle.std.proofs.lemmas.Fmt.{length-decimal-le}
use Rattle.line_grammar.specs.Numbers.{Numbers}
use Rattle.line_grammar.specs.Parts.{IsPart}
use Rattle.line_grammar.specs.Words.{lacks}
use Rattle.line_grammar.proofs.NumberFacts.{decimal_lacks, numbers_part, starts}
use Rattle.line_grammar.proofs.WordFacts.{optional_part, solid_lacks}
use Rattle.tp_lines.specs.Choices.{MillisTexts}
use Rattle.tp_lines.specs.Parts.{IsMillisInRange}
use Rattle.tp_lines.specs.Words.{text_of_millis}

pub millis_written : (millis : Option ℕ) (t : List ℕ) → MillisTexts millis t → IsMillisInRange millis × (t ≡ text_of_millis millis)
millis_written None t a = (tt, a)
millis_written (Some n) t a = (a.at_most, a.split)

pub millis_read_as : (millis : Option ℕ) (t : List ℕ) → IsMillisInRange millis → t ≡ text_of_millis millis → MillisTexts millis t
millis_read_as None t h e = e
millis_read_as (Some n) t h e = record { at_least = omega arith; at_most = h; split = e }

pub millis_short : (millis : Option ℕ) → IsMillisInRange millis → length (text_of_millis millis) ≤ 30
millis_short None h = omega arith
millis_short (Some n) h = omega (arith, length-decimal-le 20 n (omega arith) (omega arith) (omega (arith, h)))

pub millis_lacks : (separator : ℕ) → separator < 45 → (millis : Option ℕ) → IsMillisInRange millis → IsTrue (lacks separator (text_of_millis millis))
millis_lacks separator low None h = solid_lacks separator low (codes "none") refl
millis_lacks separator low (Some n) h = decimal_lacks separator (omega arith) n (omega (arith, h))

no_millis : (n : ℕ) → Numbers 0 4294967295 n (codes "none") → ⊥
no_millis n a = omega (arith, (starts n 110 (codes "one") (omega (arith, a.at_most)) (sym a.split)).1)

pub millis_part : IsPart 32 MillisTexts
millis_part = optional_part (codes "none") (Numbers 0 4294967295) 32 refl (numbers_part 0 4294967295 32 (omega arith) (omega arith)).unique
    (λ n t a. subst (λ l. IsTrue (lacks 32 l)) (sym a.split) (decimal_lacks 32 (omega arith) n (omega (arith, a.at_most)))) no_millis
