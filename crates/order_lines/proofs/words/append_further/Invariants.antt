use Rattle.std.proofs.Common.{ℕ, ◌+◌, ◌≡◌, ◌<◌, ◌^◌, ◌++◌, ◌∷◌, List, flat_map, length, map}
use Rattle.script_lines.specs.Texts.{Spot, words_from}
use Rattle.order_lines.proofs.words.append_further.Given as goal

-- what is there already, with the words that are left, is what is to be there
abbrev pub invariant-loop-spot : goal.invariant-loop-spot
invariant-loop-spot l = record {
  same : l.text.items ++ flat_map (λ (w : List ℕ). 32 ∷ w) (map (λ (s : Spot). s.word) (words_from l.column l.rest)) ≡ l.initial.text.items ++ flat_map (λ (w : List ℕ). 32 ∷ w) (map (λ (s : Spot). s.word) (words_from l.initial.column l.words));
  fits : l.column + length l.rest < 2 ^ 32;
}

abbrev pub decreases-loop-spot : goal.decreases-loop-spot
decreases-loop-spot l = length l.rest
