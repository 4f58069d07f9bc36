-- A word, a space and a number.
use Rattle.std.proofs.Common.{◌≡◌, ℕ, ◌+◌, ◌<◌, ◌≤◌, ◌^◌, List, ◌∷◌, ◌++◌, length, drop, refl, sym, ap, ◌∙◌, subst, arith}
use Rattle.std.specs.Prelude.{decimal}
use Rattle.std.proofs.lemmas.List.{length-append}
use Rattle.line_grammar.specs.Language.{AnyOf, IsReadTo, IsStuck}
use Rattle.line_grammar.specs.Numbers.{Numbers}
use Rattle.line_grammar.specs.Parts.{Led, Pairs, Opens, IsPart, IsTail}
use Rattle.line_grammar.specs.Words.{Word}
use Rattle.line_grammar.proofs.NumberFacts.{numbers_part, some_number}
use Rattle.line_grammar.proofs.Pairs.{pairs_read, pairs_stuck_first, pairs_stuck_second, pairs_part}
use Rattle.line_grammar.proofs.Readings.{part_renamed, read_renamed, stuck_renamed, led_part, led_tail}
use Rattle.tp_report.specs.Readings.{Keyed}

-- one word is a part
pub word_part : {V : Type 0} (meaning : V) (separator : ℕ) (word : List ℕ) → IsPart separator (Word meaning word)
word_part meaning separator word = record {
  unique = λ v w text a b. a.means ∙ sym b.means;
  apart = λ v w text more a b. omega (arith, ap length a.split, ap length b.split, length-append text (separator ∷ more));
}

module _ (word : List ℕ) (least most : ℕ) (room : least ≤ most) (bound : most < 2 ^ 64) where
  abbrev Behind : ℕ → ℕ → List ℕ → Type 0
  Behind before = Led 32 (Numbers least most)

  abbrev Parts : (ℕ × ℕ) → List ℕ → Type 0
  Parts = Pairs (Word {V = ℕ} 0 word) Behind

  behind_tail : (before : ℕ) → IsTail 32 (Behind before)
  behind_tail before = led_tail 32 (Numbers least most) (decimal least) (some_number least most room)

  behind_part : (before : ℕ) → IsPart 32 (Behind before)
  behind_part before = led_part 32 (Numbers least most) 32 (numbers_part least most 32 bound (omega arith))

  keyed_back : (value : ℕ) (text : List ℕ) → Keyed word least most value text → (p : ℕ × ℕ) × Parts p text × (value ≡ p.1)
  keyed_back value text k = (
    (0, value),
    record {
      front = word;
      back = 32 ∷ decimal value;
      split = k.split;
      first = record { means = refl; split = refl };
      second = record { rest = decimal value; split = refl; behind = record { at_least = k.at_least; at_most = k.at_most; split = refl } };
    },
    refl,
  )

  keyed_any : (value : ℕ) (text : List ℕ) → Keyed word least most value text → AnyOf Parts text
  keyed_any value text k = let b = keyed_back value text k in (b.0, b.1)

  keyed_to : (p : ℕ × ℕ) (text : List ℕ) → Parts p text → Keyed word least most p.1 text
  keyed_to (before, value) text pair = record {
    at_least = pair.second.behind.at_least;
    at_most = pair.second.behind.at_most;
    split = pair.split ∙ ap (λ l. l ++ pair.back) pair.first.split ∙ ap (λ l. word ++ l) pair.second.split ∙ ap (λ l. word ++ 32 ∷ l) pair.second.behind.split;
  }

  to_any : (p : ℕ × ℕ) (text : List ℕ) → Parts p text → AnyOf (Keyed word least most) text
  to_any p text pair = (p.1, keyed_to p text pair)

  pub keyed_stuck_word : (text : List ℕ) (k : ℕ) → IsStuck (Word {V = ℕ} 0 word) text k → IsStuck (Keyed word least most) text k
  keyed_stuck_word text k stuck =
      stuck_renamed Parts (Keyed word least most) keyed_any text k to_any
      (pairs_stuck_first 32 (Word {V = ℕ} 0 word) Behind (word_part 0 32 word) behind_tail text k stuck)

  pub keyed_stuck : (text : List ℕ) (before n : ℕ) → IsReadTo (Word {V = ℕ} 0 word) text before n → (rest : List ℕ) → rest ≡ drop n text
      → (k : ℕ) → IsStuck (Led 32 (Numbers least most)) rest k → IsStuck (Keyed word least most) text (n + k)
  keyed_stuck text before n first rest e k stuck =
      stuck_renamed Parts (Keyed word least most) keyed_any text (n + k) to_any
      (pairs_stuck_second 32 (Word {V = ℕ} 0 word) Behind (word_part 0 32 word) behind_tail text before n first k (subst (λ l. IsStuck (Led 32 (Numbers least most)) l k) e stuck))

  pub keyed_read : (text : List ℕ) (before n : ℕ) → IsReadTo (Word {V = ℕ} 0 word) text before n → (rest : List ℕ) → rest ≡ drop n text
      → (value m : ℕ) → IsReadTo (Led 32 (Numbers least most)) rest value m → IsReadTo (Keyed word least most) text value (n + m)
  keyed_read text before n first rest e value m second =
      read_renamed Parts (Keyed word least most) keyed_any text (before, value) value (n + m) (keyed_to (before, value))
      (pairs_read 32 (Word {V = ℕ} 0 word) Behind (word_part 0 32 word) behind_tail text before n first value m (subst (λ l. IsReadTo (Led 32 (Numbers least most)) l value m) e second))

  pub keyed_part : IsPart 32 (Keyed word least most)
  keyed_part = part_renamed 32 Parts (Keyed word least most) (λ p. p.1) keyed_back
      (pairs_part 32 (Word {V = ℕ} 0 word) Behind (word_part 0 32 word) behind_tail behind_part)

  pub keyed_tail : (more : List ℕ) → word ≡ 32 ∷ more → IsTail 32 (Keyed word least most)
  keyed_tail more e = record {
    opens = λ value text k. subst (λ l. Opens 32 l) (sym (k.split ∙ ap (λ l. l ++ 32 ∷ decimal value) e)) refl;
    some = (least, word ++ 32 ∷ decimal least, record { at_least = omega arith; at_most = room; split = refl });
  }
