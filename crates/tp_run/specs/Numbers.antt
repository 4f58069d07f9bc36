-- Numbers among the words.
use Rattle.std.specs.Prelude.{ℕ, ◌^◌, ◌&&◌, List, decimal, if◌then◌else◌, nat_lt, None, Some, Option}
use Rattle.std.specs.Str.{bytes_eq}
use Rattle.std.specs.Str.Parse.{digits_value}

-- the number of 64 bits that a text is, in decimal without leading zeros
abbrev pub number_in : List ℕ → Option ℕ
number_in text = let value = digits_value 10 text in if bytes_eq text (decimal value) && nat_lt value (2 ^ 64) then Some value else None
