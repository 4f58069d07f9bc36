use Rattle.std.proofs.Common.{◌≡◌, sym, ◌∙◌, true, false}
use Rattle.tp_explore.proofs.Replaying.{begins, ends, is_only, steps, stops}
use Rattle.tp_explore.proofs.replayed.replay.Goals as goal

pub loop-by-init : goal.loop-by-init
loop-by-init g c = begins _ _ _ c.limits-limits.result _ c.requires c.limits-limits.ensures.value c.limits-limits.ensures.in_range c.in_ok-places.ensures

pub returns-then-not-play-clause-whole : goal.returns-then-not-play-clause-whole
returns-then-not-play-clause-whole g c = λ order is made roomy legal.
    absurd (stops _ _ _ _ _ _ _ c.loop-by.invariant c.loop-by-test.true (λ ms more rest playing on.
    let yes = (c.play.ensures.whole ms more rest playing on).0 in
    let wrong : false ≡ true = sym c.if-not-play.true ∙ yes in
    absurd cc) order is made roomy legal)

pub returns-clause-only : goal.returns-clause-only
returns-clause-only g c = λ order is made yes. is_only _ _ _ _ order c.loop-by.invariant.machine (ends _ _ _ _ _ _ _ c.loop-by.invariant c.loop-by-test.false) is made

pub loop-by-preserved : goal.loop-by-preserved
loop-by-preserved g c =
    steps _ _ _ _ _ _ _ c.loop-by.invariant c.loop-by-test.true _ c.play.new.places.items c.play.ensures.machine (c.play.ensures.played c.if-not-play.false) (λ ms more rest playing on. (c.play.ensures.whole ms more rest playing on).1)
