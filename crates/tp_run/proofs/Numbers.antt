-- The number that a text is.
use Rattle.std.proofs.Common.{◌≡◌, ℕ, ◌<◌, ◌^◌, ◌&&◌, Bool, true, false, List, length, None, Some, refl, sym, ap, ◌∙◌, subst, arith}
use Rattle.std.specs.Prelude.{decimal, if◌then◌else◌, nat_lt}
use Rattle.std.specs.Str.{bytes_eq}
use Rattle.std.specs.Str.Parse.{digits_value}
use Rattle.std.proofs.lemmas.Bool.{ltb-true, lt-ltb}
use Rattle.std.proofs.lemmas.List.{take_all}
use Rattle.std.proofs.lemmas.Fmt.{decimal_is_IsNumeral}
use Rattle.std.proofs.lemmas.Slice.Eq.{bytes_eq-Decides}
use Rattle.line_grammar.specs.Language.{AnyOf, IsReadTo, IsStuck}
use Rattle.line_grammar.specs.Numbers.{Numbers}
use Rattle.line_grammar.proofs.Readings.{longer_text, stuck_text}
use Rattle.tp_run.specs.Numbers.{number_in}

abbrev pub All : ℕ → List ℕ → Type 0
All = Numbers 0 18446744073709551615

-- both tests hold
both : (a b : Bool) (v : ℕ) → a ≡ true → b ≡ true → (if a && b then Some v else None) ≡ Some v
both a b v p q = rw (p, q) refl

-- one of them doesn't
not_both : (a b : Bool) (v : ℕ) → (a ≡ true → b ≡ true → ⊥) → (if a && b then Some v else None) ≡ None
not_both true true v never = absurd (never refl refl)
not_both true false v never = refl
not_both false b v never = refl

number_of_decimal : (text : List ℕ) (n : ℕ) → All n text → number_in text ≡ Some n
number_of_decimal text n is =
    let small : n < 2 ^ 64 = omega (arith, is.at_most) in
    let value : digits_value 10 text ≡ n = ap (λ t. digits_value 10 t) is.split ∙ (decimal_is_IsNumeral n small).1 in
    let same : text ≡ decimal (digits_value 10 text) = is.split ∙ ap decimal (sym value) in
    both (bytes_eq text (decimal (digits_value 10 text))) (nat_lt (digits_value 10 text) (2 ^ 64)) (digits_value 10 text)
    ((bytes_eq-Decides text (decimal (digits_value 10 text))).1 same) (lt-ltb (digits_value 10 text) (2 ^ 64) (omega (arith, value, small))) ∙ ap Some value

no_number : (text : List ℕ) → (AnyOf All text → ⊥) → number_in text ≡ None
no_number text none =
    let v = digits_value 10 text in
    not_both (bytes_eq text (decimal v)) (nat_lt v (2 ^ 64)) v
    (λ same small. none (v, record { at_least = omega arith; at_most = omega (arith, ltb-true v (2 ^ 64) small); split = (bytes_eq-Decides text (decimal v)).0 same }))

pub number_read : (text : List ℕ) (n size : ℕ) → IsReadTo All text n size → size ≡ length text → number_in text ≡ Some n
number_read text n size read e = number_of_decimal text n (subst (λ l. All n l) (take_all size text (omega (arith, e))) read.text_of)

pub number_longer : (text : List ℕ) (n size : ℕ) → IsReadTo All text n size → size < length text → number_in text ≡ None
number_longer text n size read more = no_number text (longer_text All text n size read more).absent

pub number_stuck : (text : List ℕ) (place : ℕ) → IsStuck All text place → number_in text ≡ None
number_stuck text place stuck = no_number text (stuck_text All text place stuck).absent
