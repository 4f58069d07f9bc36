-- What a word says in its field.
use Rattle.std.proofs.Common.{◌≡◌, ℕ, ◌<◌, ◌^◌, List, Option, Some, None, MatchOption, codes, sym, arith}
use Rattle.line_grammar.specs.Language.{AnyOf}
use Rattle.line_grammar.specs.Numbers.{Numbers, Signed}
use Rattle.line_grammar.proofs.NumberFacts.{numbers_part}
use Rattle.script_lines.specs.declared.line.Token.{Token}
use Rattle.script_lines.specs.Tokens.{IsDueToken, IsNumberToken}

-- what a function found is all that is found
pub found : (o result : Option Token) → result ≡ o → MatchOption result ((said : Token) → o ≡ Some said → ⊥) (λ said. o ≡ Some said)
found o None e = λ said f. let no_such : ⊥ = cc in no_such
found o (Some said) e = sym e

pub one_number : (least most v w : ℕ) (text : List ℕ) → most < 2 ^ 64 → Numbers 0 most v text → Numbers least most w text → w ≡ v
one_number least most v w text bound a b =
    (numbers_part 0 most 32 bound (omega arith)).unique w v text (record { at_least = omega arith; at_most = b.at_most; split = b.split }) a

-- a text that is no number to `most` is none from `least` on
pub no_number : (least most : ℕ) (text : List ℕ) → (AnyOf (Numbers 0 most) text → ⊥) → (said : Token) → IsNumberToken least most text said → ⊥
no_number least most text none said (n, e, a) = none (n, record { at_least = omega arith; at_most = a.at_most; split = a.split })

-- neither `none` nor a number
pub no_due : (text : List ℕ) → (text ≡ codes "none" → ⊥) → (AnyOf Signed text → ⊥) → (said : Token) → IsDueToken text said → ⊥
no_due text other none said (None, e, a) = other a
no_due text other none said (Some due, e, a) = none (due, a)
