use Rattle.std.proofs.Common.{◌+◌, ◌++◌, ℕ, List, ap, sym, ◌∙◌}
use Rattle.std.proofs.lemmas.List.{length-map}
use Rattle.tp_port.specs.declared.passes.PostPass.{PostPass}
use Rattle.tp_port.specs.Ports.{posted_by}
use Rattle.tp_port.proofs.Gathering.{all_back, may_gather, may_learn_all, post_at}
use Rattle.tp_port.proofs.port.Port.gather.Goals as goal

pub absorb-requires-clause-rule : goal.absorb-requires-clause-rule
absorb-requires-clause-rule c =
    let invariant = c.loop-post.invariant in
    let yielded = c.loop-post.yielded in
    let post = post_at _ _ _ yielded _ _ c.requires.posts (invariant.parts ∙ ap (λ (l : List PostPass). yielded ++ l) c.in-Some.ensures.steps.0) in
    may_gather _ _ _ _ _ _ _ _ _ _ _ _ invariant.knows post.of.knows (post.number_is ∙ ap (λ (n : ℕ). n + 1) (sym (length-map yielded posted_by)))

pub learn_as-requires-clause-rule : goal.learn_as-requires-clause-rule
learn_as-requires-clause-rule c =
    let invariant = c.loop-post.invariant in
    may_learn_all _ _ _ _ _ _ _ _ c.requires.posts invariant.parts invariant.sized c.in-None.ensures.steps.0 invariant.knows

pub returns : goal.returns
returns c =
    let invariant = c.loop-post.invariant in
    let q = c.learn_as.ensures.queue.0 in
    all_back _ _ _ _ _ _ _ _ c.learn_as.ensures.rule.0 c.requires.posts invariant.parts invariant.sized c.in-None.ensures.steps.0 (q.0 ∙ invariant.of.0, q.2 ∙ invariant.of.1) c.learn_as.ensures.queue.1 invariant.knows c.learn_as.ensures.rule.1
