use Rattle.std.proofs.Common.{ℕ, List, [], ◌∷◌, ◌++◌, length, take, sym, ap, ◌∙◌, append_assoc, arith}
use Rattle.std.proofs.lemmas.List.{take_all, take_more}
use Rattle.short_codes.specs.Codes.{each, number}
use Rattle.row_codes.proofs.Each.{each-push}
use Rattle.row_codes.proofs.put_all.Goals as goal

pub loop-item-preserved : goal.loop-item-preserved
loop-item-preserved g c =
    let code = g.T.Coded.code in
    let items = c.args.items.now in
    let i = c.loop-item.item-index in
    let x = c.item-item.result in
    let before = c.args.text.now.items ++ number (length items) in
    let taken = take_more items i x (omega arith) ∙ ap (λ y. take i items ++ y ∷ []) (sym c.item-item.is) in
    c.in_ok-put-2.ensures
    ∙ ap (λ (text : List ℕ). text ++ code x) c.loop-item.invariant
    ∙ append_assoc before (each code (take i items)) (code x)
    ∙ ap (λ (text : List ℕ). before ++ text) (sym (each-push code (take i items) x) ∙ ap (each code) (sym taken))

pub returns : goal.returns
returns g c =
    let items = c.args.items.now in
    let before = c.args.text.now.items in
    c.loop-item.invariant
    ∙ ap (λ xs. (before ++ number (length items)) ++ each g.T.Coded.code xs) (take_all c.loop-item.item-index items (omega arith))
    ∙ append_assoc before (number (length items)) (each g.T.Coded.code items)
