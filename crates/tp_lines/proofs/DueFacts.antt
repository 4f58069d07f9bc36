-- The texts of due times.
use Rattle.std.proofs.Common.{◌≡◌, ℕ, ◌<◌, ◌≤◌, ℤ, List, length, refl, sym, subst, arith, IsTrue, Option, Some, None, codes}
use Rattle.std.proofs.lemmas.Fmt.{length_signed_le}
use Rattle.line_grammar.specs.Numbers.{Signed}
use Rattle.line_grammar.specs.Parts.{IsPart}
use Rattle.line_grammar.specs.Words.{lacks}
use Rattle.line_grammar.proofs.NumberFacts.{signed_first, signed_lacks, signed_unique}
use Rattle.line_grammar.proofs.WordFacts.{optional_part, solid_lacks}
use Rattle.tp_lines.specs.Choices.{DueTexts}
use Rattle.tp_base.specs.Ranges.{IsDueInRange}
use Rattle.tp_lines.specs.Words.{text_of_due}

pub due_written : (due : Option ℤ) (t : List ℕ) → DueTexts due t → IsDueInRange due × (t ≡ text_of_due due)
due_written None t a = (tt, a)
due_written (Some z) t a = (a.fits, a.split)

pub due_read_as : (due : Option ℤ) (t : List ℕ) → IsDueInRange due → t ≡ text_of_due due → DueTexts due t
due_read_as None t h e = e
due_read_as (Some z) t h e = record { fits = h; split = e }

pub due_short : (due : Option ℤ) → IsDueInRange due → length (text_of_due due) ≤ 30
due_short None h = omega arith
due_short (Some z) h = omega (arith, length_signed_le 19 z (omega (arith, h.sfits)) (omega (arith, h.sfits)))

pub due_lacks : (separator : ℕ) → separator < 45 → (due : Option ℤ) → IsDueInRange due → IsTrue (lacks separator (text_of_due due))
due_lacks separator low None h = solid_lacks separator low (codes "none") refl
due_lacks separator low (Some z) h = signed_lacks separator low z h

pub due_apart : (z : ℤ) → Signed z (codes "none") → ⊥
due_apart z a = omega (arith, signed_first z a.fits 110 (codes "one") (sym a.split))

pub dues_part : IsPart 32 DueTexts
dues_part = optional_part (codes "none") Signed 32 refl signed_unique (λ z t a. subst (λ l. IsTrue (lacks 32 l)) (sym a.split) (signed_lacks 32 (omega arith) z a.fits)) due_apart
