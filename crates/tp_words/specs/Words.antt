-- A list of words by its bytes.
use Rattle.std.specs.Prelude.{ℕ, List, map, string_bytes}
use Rattle.tp_words.specs.declared.words.WordList.TheInside.{Inside}

abbrev pub words_in : Inside → List (List ℕ)
words_in a = map string_bytes a.words.items
