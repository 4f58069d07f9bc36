-- One more text of a script.
use Rattle.std.proofs.Common.{ℕ, ◌+◌, List, [], ◌∷◌, ◌++◌, refl, sym, subst, inl, inr}
use Rattle.std.proofs.lemmas.List.{append_assoc}
use Rattle.script_lines.specs.declared.fault.ScriptKind.{ScriptKind}
use Rattle.script_lines.specs.declared.judge.Known.{Known}
use Rattle.tp_script.specs.declared.numbered.NumberedLine.{NumberedLine}
use Rattle.tp_script.specs.Answers.{IsAdded}
use Rattle.tp_script.specs.Scripts.{Faults, Reads}

module _ (first known next : Known) (all texts : List (List ℕ)) (text : List ℕ) (number : ℕ) (rows more : List NumberedLine) where
  pub one_text : IsAdded known rows number text next more
      → ((rest : List NumberedLine) (end : Known) → Reads known number (text ∷ texts) rest end → Reads first 1 all (rows ++ rest) end)
      → (rest : List NumberedLine) (end : Known) → Reads next (number + 1) texts rest end → Reads first 1 all (more ++ rest) end
  one_text (inl (blank, e, f)) leads rest end reads =
      subst (λ (ls : List NumberedLine). Reads first 1 all (ls ++ rest) end) (sym e)
      (leads rest end (inl (blank, subst (λ (k : Known). Reads k (number + 1) texts rest end) f reads)))
  one_text (inr (solid, (line, name, read, e, f))) leads rest end reads =
      let row : NumberedLine = record { number = number; line = line } in
      subst (λ (ls : List NumberedLine). Reads first 1 all (ls ++ rest) end) (sym e)
      (subst (λ (ls : List NumberedLine). Reads first 1 all ls end) (sym (append_assoc rows (row ∷ []) rest))
      (leads (row ∷ rest) end (inr (solid, (line, name, rest, read, refl, subst (λ (k : Known). Reads k (number + 1) texts rest end) f reads)))))

  pub one_more_fault : IsAdded known rows number text next more
      → ((line column : ℕ) (kind : ScriptKind) → Faults known number (text ∷ texts) line column kind → Faults first 1 all line column kind)
      → (line column : ℕ) (kind : ScriptKind) → Faults next (number + 1) texts line column kind → Faults first 1 all line column kind
  one_more_fault (inl (blank, e, f)) leads line column kind faults =
      leads line column kind (inl (blank, subst (λ (k : Known). Faults k (number + 1) texts line column kind) f faults))
  one_more_fault (inr (solid, (said, name, read, e, f))) leads line column kind faults =
      leads line column kind (inr (inr (solid, (said, name, read, subst (λ (k : Known). Faults k (number + 1) texts line column kind) f faults))))
