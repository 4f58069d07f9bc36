-- The texts of kernel objects that may be none.
use Rattle.std.proofs.Common.{◌≡◌, ℕ, ◌<◌, ◌≤◌, List, length, refl, sym, ap, subst, arith, IsTrue, Option, Some, None, codes}
use Rattle.std.proofs.lemmas.Fmt.{length-decimal-le}
use Rattle.line_grammar.specs.Language.{AnyOf, IsStuck}
use Rattle.line_grammar.specs.Numbers.{Numbers}
use Rattle.line_grammar.specs.Parts.{IsPart}
use Rattle.line_grammar.specs.Words.{lacks}
use Rattle.line_grammar.proofs.NumberFacts.{decimal_lacks, numbers_part, starts}
use Rattle.line_grammar.proofs.Readings.{stuck_renamed}
use Rattle.line_grammar.proofs.WordFacts.{optional_part, solid_lacks}
use Rattle.tp_base.specs.declared.ids.KernelId.{KernelId}
use Rattle.tp_base.specs.Ranges.{IsNamedInRange}
use Rattle.tp_lines.specs.Choices.{KernelTexts, NamedTexts}
use Rattle.tp_lines.specs.Words.{text_of_named}

pub named_written : (kernel : Option KernelId) (t : List ℕ) → NamedTexts kernel t → IsNamedInRange kernel × (t ≡ text_of_named kernel)
named_written None t a = (tt, a)
named_written (Some k) t a = (a.at_most, a.split)

pub named_read_as : (kernel : Option KernelId) (t : List ℕ) → IsNamedInRange kernel → t ≡ text_of_named kernel → NamedTexts kernel t
named_read_as None t h e = e
named_read_as (Some k) t h e = record { at_least = omega arith; at_most = h; split = e }

pub named_short : (kernel : Option KernelId) → IsNamedInRange kernel → length (text_of_named kernel) ≤ 30
named_short None h = omega arith
named_short (Some k) h = omega (arith, length-decimal-le 20 k.0 (omega arith) (omega arith) (omega (arith, h)))

pub named_lacks : (separator : ℕ) → separator < 45 → (kernel : Option KernelId) → IsNamedInRange kernel → IsTrue (lacks separator (text_of_named kernel))
named_lacks separator low None h = solid_lacks separator low (codes "none") refl
named_lacks separator low (Some k) h = decimal_lacks separator (omega arith) k.0 (omega (arith, h))

-- kernel objects are numbers
kernel_back : (k : KernelId) (t : List ℕ) → KernelTexts k t → AnyOf (Numbers 0 65535) t
kernel_back k t a = (k.0, a)

pub kernel_stuck : (text : List ℕ) (place : ℕ) → IsStuck (Numbers 0 65535) text place → IsStuck KernelTexts text place
kernel_stuck text place stuck = stuck_renamed (Numbers 0 65535) KernelTexts kernel_back text place (λ n t a. (record { 0 = n }, a)) stuck

kernel_unique : (j k : KernelId) (t : List ℕ) → KernelTexts j t → KernelTexts k t → j ≡ k
kernel_unique j k t a b = ap (λ n. record { 0 = n }) ((numbers_part 0 65535 32 (omega arith) (omega arith)).unique j.0 k.0 t a b)

no_kernel : (k : KernelId) → KernelTexts k (codes "none") → ⊥
no_kernel k a = omega (arith, (starts k.0 110 (codes "one") (omega (arith, a.at_most)) (sym a.split)).1)

pub nameds_part : IsPart 32 NamedTexts
nameds_part = optional_part (codes "none") KernelTexts 32 refl kernel_unique (λ k t a. subst (λ l. IsTrue (lacks 32 l)) (sym a.split) (decimal_lacks 32 (omega arith) k.0 (omega (arith, a.at_most)))) no_kernel
