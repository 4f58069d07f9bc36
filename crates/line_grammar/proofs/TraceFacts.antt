-- Lines, and the line feed behind each.
use Rattle.std.proofs.Common.{◌≡◌, ℕ, ◌+◌, ◌-◌, List, [], ◌∷◌, ◌++◌, length, drop, refl, sym, ap, ◌∙◌, subst, IsTrue, arith}
use Rattle.std.proofs.lemmas.List.{append_assoc, length-append}
use Rattle.std.proofs.Math.Seq.{drop-append-add}
use Rattle.line_grammar.specs.Language.{IsFront}
use Rattle.line_grammar.specs.Traces.{trace_text, IsAhead}
use Rattle.line_grammar.specs.Words.{lacks}
use Rattle.line_grammar.proofs.WordFacts.{lacks_apart}

-- no separator stands anywhere in a text that lacks it
pub not_within : (separator x : ℕ) (a b text : List ℕ) → IsTrue (lacks separator text) → text ≡ a ++ x ∷ b → x ≡ separator → ⊥
not_within separator x a b text h e at =
    lacks_apart separator a b (subst (λ y. IsTrue (lacks separator (a ++ y ∷ b))) at (subst (λ t. IsTrue (lacks separator t)) e h))

-- a line, and the line feed behind it
pub line_ahead : {V : Type 0} (W : V → List ℕ → Type 0) (bytes line rest : List ℕ) (value : V) (size : ℕ) → W value line → bytes ≡ line ++ 10 ∷ rest
    → size ≡ length line + 1 → IsAhead W bytes value size
line_ahead W bytes line rest value size w e s =
    let behind : drop size bytes ≡ rest = ap (λ n. drop n bytes) s ∙ ap (λ l. drop (length line + 1) l) e ∙ drop-append-add line (10 ∷ rest) 1 in
    record {
      line = line;
      is_line = w;
      split = e ∙ ap (λ l. line ++ 10 ∷ l) (sym behind);
      size_of = s;
      within = omega (arith, s, ap length e, length-append line (10 ∷ rest));
    }

pub front_ahead : {V : Type 0} (W : V → List ℕ → Type 0) (bytes : List ℕ) (value : V) (rest more : List ℕ) → IsFront W bytes value rest → rest ≡ 10 ∷ more
    → IsAhead W bytes value (length bytes - length more)
front_ahead W bytes value rest more a e =
    let split : bytes ≡ a.front ++ 10 ∷ more = a.split ∙ ap (λ l. a.front ++ l) e in
    line_ahead W bytes a.front more value (length bytes - length more) a.text_of split (omega (arith, ap length split, length-append a.front (10 ∷ more)))

-- the lines of two lists
pub trace_text-append : (lines more : List (List ℕ)) → trace_text (lines ++ more) ≡ trace_text lines ++ trace_text more
trace_text-append [] more = refl
trace_text-append (line ∷ lines) more =
    ap (λ t. line ++ 10 ∷ t) (trace_text-append lines more) ∙ sym (append_assoc line (10 ∷ trace_text lines) (trace_text more))
