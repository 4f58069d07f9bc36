-- The lines of a text, the words of a line, and which words can be names.
use Rattle.std.specs.Prelude.{ℕ, ◌+◌, Bool, true, false, List, [], ◌∷◌, length, codes, bytes_eq, nat_eq, nat_le, not, ◌&&◌, ◌||◌, if◌then◌else◌}

abbrev pub push_first : ℕ → List (List ℕ) → List (List ℕ)
push_first byte [] = (byte ∷ []) ∷ []
push_first byte (line ∷ lines) = (byte ∷ line) ∷ lines

-- a line ends with a line feed; the last may lack it
abbrev pub lines_of : List ℕ → List (List ℕ)
lines_of [] = []
lines_of (byte ∷ bytes) = if nat_eq byte 10 then [] ∷ lines_of bytes else push_first byte (lines_of bytes)

-- a word, and the column of its first byte
pub record Spot : Type 0 where
  pub column : ℕ
  pub word : List ℕ

-- whether a word ends before this text
abbrev pub ends_word : List ℕ → Bool
ends_word [] = true
ends_word (byte ∷ bytes) = nat_eq byte 32

-- the byte in front of the first word, as a word of its own or as that word's first byte
abbrev pub lengthened : ℕ → ℕ → List Spot → List Spot
lengthened column byte [] = []
lengthened column byte (spot ∷ spots) = (record { column = column; word = byte ∷ spot.word }) ∷ spots

-- the words of a text whose first byte is at this column: what stands between spaces
abbrev pub words_from : ℕ → List ℕ → List Spot
words_from column [] = []
words_from column (byte ∷ bytes) =
    if nat_eq byte 32
    then words_from (column + 1) bytes
    else (if ends_word bytes
    then (record { column = column; word = byte ∷ [] }) ∷ words_from (column + 1) bytes
    else lengthened column byte (words_from (column + 1) bytes))

abbrev pub is_comment : List ℕ → Bool
is_comment [] = false
is_comment (byte ∷ bytes) = nat_eq byte 35

-- no word, or a first one that begins with `#`
abbrev pub is_blank : List Spot → Bool
is_blank [] = true
is_blank (spot ∷ spots) = is_comment spot.word

-- a letter
abbrev pub is_first_byte : ℕ → Bool
is_first_byte byte = nat_le 97 byte && nat_le byte 122

-- a letter, a digit or `_`
abbrev pub is_name_byte : ℕ → Bool
is_name_byte byte = is_first_byte byte || (nat_le 48 byte && nat_le byte 57) || nat_eq byte 95

abbrev pub are_name_bytes : List ℕ → Bool
are_name_bytes [] = true
are_name_bytes (byte ∷ bytes) = is_name_byte byte && are_name_bytes bytes

-- a letter and at most 31 bytes more, and not `none`
abbrev pub is_name : List ℕ → Bool
is_name [] = false
is_name (byte ∷ bytes) = is_first_byte byte && nat_le (length bytes) 31 && are_name_bytes bytes && not (bytes_eq (byte ∷ bytes) (codes "none"))

-- behind the first byte
abbrev pub without_first : List ℕ → List ℕ
without_first [] = []
without_first (byte ∷ bytes) = bytes

abbrev pub begins_with_space : List ℕ → Bool
begins_with_space [] = false
begins_with_space (byte ∷ bytes) = nat_eq byte 32
