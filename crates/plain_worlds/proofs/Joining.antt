-- A text to which pieces are appended, a few at a time.
use Rattle.std.proofs.Common.{◌≡◌, ℕ, List, ◌++◌, sym, ap, ◌∙◌, append_assoc}

two : (x a b : List ℕ) → x ++ (a ++ b) ≡ x ++ a ++ b
two x a b = sym (append_assoc x a b)

three : (x a b c : List ℕ) → x ++ (a ++ b ++ c) ≡ x ++ a ++ b ++ c
three x a b c = two x (a ++ b) c ∙ ap (λ v. v ++ c) (two x a b)

four : (x a b c d : List ℕ) → x ++ (a ++ b ++ c ++ d) ≡ x ++ a ++ b ++ c ++ d
four x a b c d = two x (a ++ b ++ c) d ∙ ap (λ v. v ++ d) (three x a b c)

-- behind a text, and what it has already, comes more
further : (text more some all new old : List ℕ) → old ≡ text ++ some → new ≡ old ++ more → some ++ more ≡ all → new ≡ text ++ all
further text more some all new old was is joins = is ∙ ap (λ v. v ++ more) was ∙ append_assoc text some more ∙ ap (λ v. text ++ v) joins

pub thirteen : (text a b c d e f g h i j k l m first second third last : List ℕ) → first ≡ text ++ (a ++ b ++ c ++ d) → second ≡ first ++ (e ++ f ++ g ++ h) → third ≡ second ++ (i ++ j ++ k) → last ≡ third ++ (l ++ m)
    → last ≡ text ++ (a ++ b ++ c ++ d ++ e ++ f ++ g ++ h ++ i ++ j ++ k ++ l ++ m)
thirteen text a b c d e f g h i j k l m first second third last one then next end =
    let some : List ℕ = a ++ b ++ c ++ d in
    let more : List ℕ = some ++ e ++ f ++ g ++ h in
    let most : List ℕ = more ++ i ++ j ++ k in
    further text (l ++ m) most (most ++ l ++ m) last third
    (further text (i ++ j ++ k) more most third second (further text (e ++ f ++ g ++ h) some more second first one then (four some e f g h)) next (three more i j k)) end (two most l m)
