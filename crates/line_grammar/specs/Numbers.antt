-- Decimal numbers without leading zeros: from a least to a greatest, and those of 64 bits with a sign.
use Rattle.std.specs.Prelude.{◌≡◌, ℕ, suc, ◌+◌, ◌-◌, ◌*◌, ◌<◌, ◌≤◌, ℤ, pos, negsuc, FitsSigned, List, decimal}
use Rattle.std.specs.Fmt.{signed_decimal}
use Rattle.std.specs.Int.{w64}
use Rattle.line_grammar.specs.Parts.{Led}

pub record IsNumber (least most value : ℕ) (text : List ℕ) : Type 0 where
  pub at_least : least ≤ value
  pub at_most : value ≤ most
  pub split : text ≡ decimal value

abbrev pub Numbers : ℕ → ℕ → ℕ → List ℕ → Type 0
Numbers least most value text = IsNumber least most value text

-- the byte is a digit, and the number with it behind is at most `most`
pub record IsLonger (most value byte longer : ℕ) : Type 0 where
  pub digit_least : 48 ≤ byte
  pub digit_most : byte ≤ 57
  pub not_zero : 0 < value
  pub value_of : longer ≡ value * 10 + (byte - 48)
  pub at_most : longer ≤ most

-- a number of 64 bits, with a `-` before it if it is below 0
pub record IsSigned (value : ℤ) (text : List ℕ) : Type 0 where
  pub fits : FitsSigned w64 value
  pub split : text ≡ signed_decimal value

abbrev pub Signed : ℤ → List ℕ → Type 0
Signed value text = IsSigned value text

-- those from 0 on, and those below 0
abbrev pub NotNegative : ℤ → List ℕ → Type 0
NotNegative (pos n) text = Numbers 0 9223372036854775807 n text
NotNegative (negsuc n) text = ⊥

abbrev pub Negative : ℤ → List ℕ → Type 0
Negative (pos n) text = ⊥
Negative (negsuc n) text = Led 45 (Numbers 1 9223372036854775808) (suc n) text
