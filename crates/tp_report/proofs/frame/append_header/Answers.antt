use Rattle.std.proofs.Common.{◌≡◌, ℕ, List, [], ◌∷◌, ◌++◌, ap, sym, ◌∙◌, append_assoc}
use Rattle.std.specs.Prelude.{codes, decimal}
use Rattle.tp_report.proofs.frame.append_header.Goals as goal

line_is : (clients workers events objects : List ℕ)
    → codes "history 2 clients " ++ (clients ++ (codes " workers " ++ (workers ++ (codes " events " ++ (events ++ (codes " objects " ++ (objects ++ 10 ∷ [])))))))
    ≡ (codes "history 2 clients " ++ (clients ++ (codes " workers " ++ (workers ++ (codes " events " ++ (events ++ (codes " objects " ++ objects))))))) ++ 10 ∷ []
line_is clients workers events objects =
    let rooms = codes " events " ++ (events ++ (codes " objects " ++ objects)) in
    ap (λ t. codes "history 2 clients " ++ t)
    (ap (λ t. clients ++ (codes " workers " ++ t))
    (ap (λ t. workers ++ (codes " events " ++ t)) (sym (append_assoc events (codes " objects " ++ objects) (10 ∷ []))) ∙ sym (append_assoc workers rooms (10 ∷ [])))
    ∙ sym (append_assoc clients (codes " workers " ++ (workers ++ rooms)) (10 ∷ [])))

pub returns-clause-ok : goal.returns-clause-ok
returns-clause-ok c =
    c.in_ok-extend_from_slice.ensures.items
    ∙ ap (λ t. c.args.out.now.items ++ t)
    (c.as_bytes.ensures.value ∙ c.in_ok-line.ensures.ok ∙ line_is (decimal c.args.limits.clients) (decimal c.args.limits.workers) (decimal c.args.events) (decimal c.args.limits.objects))
