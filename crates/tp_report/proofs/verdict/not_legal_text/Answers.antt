use Rattle.std.proofs.Common.{◌≡◌, ℕ, List, [], ◌∷◌, ◌++◌, ap, ◌∙◌, append_assoc}
use Rattle.std.specs.Prelude.{codes, decimal}
use Rattle.tp_lines.specs.Answers.{text_of_outcome}
use Rattle.tp_report.proofs.verdict.not_legal_text.Goals as goal

text_is : (start held printed pushed told : List ℕ) (position : ℕ) → start ≡ codes "not legal at " ++ (decimal position ++ codes ": ") → held ≡ start → printed ≡ held ++ told
    → pushed ≡ printed ++ 10 ∷ [] → pushed ≡ codes "not legal at " ++ (decimal position ++ (codes ": " ++ (told ++ 10 ∷ [])))
text_is start held printed pushed told position e f g h =
    let line = decimal position ++ codes ": " in
    h ∙ ap (λ l. l ++ 10 ∷ []) (g ∙ ap (λ l. l ++ told) (f ∙ e))
    ∙ ap (λ l. codes "not legal at " ++ l) (append_assoc line told (10 ∷ []) ∙ append_assoc (decimal position) (codes ": ") (told ++ 10 ∷ []))

pub returns : goal.returns
returns c =
    text_is c.as_bytes.result.now c.in_ok-text.text.items c.print_outcome.new.out.items c.push.new.self.items (text_of_outcome c.args.outcome.now) c.args.position
    (c.as_bytes.ensures.value ∙ c.in_ok-start.ensures.ok) c.in_ok-text.ensures.items c.in_ok-print_outcome.ensures.ok c.in_ok-push.ensures.items
