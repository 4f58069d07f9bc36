use Rattle.std.proofs.Common.{◌∷◌, [], ◌+◌, ◌++◌, ap, append_assoc, arith, sym, ◌∙◌, map}
use Rattle.std.specs.List.{range_with_len}
use Rattle.std.proofs.lemmas.List.FromFn.{map-range_with_len_more}
use Rattle.tp_base.specs.declared.ids.Who.TheVariants.{Client, Worker}
use Rattle.tp_explore.proofs.walk.actors.Goals as goal

pub loop-number-preserved : goal.loop-number-preserved
loop-number-preserved c = c.in_ok-push.ensures.items ∙ ap (λ whos. whos ++ Client (c.loop-number.number + 1) ∷ []) c.loop-number.invariant ∙ sym (map-range_with_len_more Client 1 c.loop-number.number (c.loop-number.number + 1) (omega arith))

pub loop-number-2-preserved : goal.loop-number-2-preserved
loop-number-2-preserved c =
    c.in_ok-push-2.ensures.items
    ∙ ap (λ whos. whos ++ Worker (c.loop-number-2.number + 1) ∷ []) c.loop-number-2.invariant
    ∙ append_assoc (map Client (range_with_len 1 c.args.limits.now.clients)) (map Worker (range_with_len 1 c.loop-number-2.number)) (Worker (c.loop-number-2.number + 1) ∷ [])
    ∙ ap (λ workers. map Client (range_with_len 1 c.args.limits.now.clients) ++ workers) (sym (map-range_with_len_more Worker 1 c.loop-number-2.number (c.loop-number-2.number + 1) (omega arith)))
