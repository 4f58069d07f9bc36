use Rattle.std.proofs.Common.{◌∷◌, [], ◌++◌, ap₂, sym, ◌∙◌, map}
use Rattle.std.specs.List.{range_with_len}
use Rattle.tp_base.specs.declared.ids.Who.TheVariants.{Client}
use Rattle.tp_explore.proofs.BoardsRow.{clients_more, workers_more}
use Rattle.tp_explore.proofs.places.first_places.Goals as goal

pub loop-number-preserved : goal.loop-number-preserved
loop-number-preserved c = c.in_ok-push.ensures.items ∙ ap₂ (λ xs x. xs ++ x ∷ []) c.loop-number.invariant c.opening.ensures ∙ sym (clients_more c.loop-number.number)

pub loop-number-2-preserved : goal.loop-number-2-preserved
loop-number-2-preserved c =
    c.in_ok-push-2.ensures.items
    ∙ ap₂ (λ xs x. xs ++ x ∷ []) c.loop-number-2.invariant c.opening-in-loop-number-2.ensures
    ∙ sym (workers_more (map Client (range_with_len 1 c.args.limits.now.clients)) c.loop-number-2.number)
