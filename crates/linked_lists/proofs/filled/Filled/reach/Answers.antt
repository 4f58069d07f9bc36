use Rattle.std.proofs.Common.{◌≡◌, ◌+◌, get_or, length, max, min, arith}
use Rattle.linked_lists.specs.Nodes.{each}
use Rattle.linked_lists.proofs.Each.{length-each, padded_more}
use Rattle.linked_lists.proofs.filled.Filled.reach.Goals as goal

pub returns-else-len-self : goal.returns-else-len-self
returns-else-len-self c =
    let kept = c.loop-self.invariant in
    let room = c.self.inside.room in
    let fill = c.self.inside.fill in
    let old = c.self.inside.items.items in
    let new = c.loop-self.self-inside.items.items in
    let long = length-each room (λ k. get_or old k fill) in
    let many : length new ≡ max (length old) (min (length (each room (λ k. get_or old k fill))) (c.args.index + 1)) = omega (arith, kept.within, kept.least, kept.room, long, c.loop-self-test.true, c.if-len-self.false, c.len.ensures, c.len-in-loop-self.ensures, c.self.invariant.within) in
    rw (← c.self.view_is, kept.room, kept.fill) (padded_more room fill _ old new many (rw kept.fill at kept.same))

pub returns-after-loop-self : goal.returns-after-loop-self
returns-after-loop-self c =
    let kept = c.loop-self.invariant in
    let room = c.self.inside.room in
    let fill = c.self.inside.fill in
    let old = c.self.inside.items.items in
    let new = c.loop-self.self-inside.items.items in
    let long = length-each room (λ k. get_or old k fill) in
    let many : length new ≡ max (length old) (min (length (each room (λ k. get_or old k fill))) (c.args.index + 1)) = omega (arith, kept.within, kept.least, kept.room, long, c.loop-self-test.false, c.len.ensures, c.self.invariant.within) in
    rw (← c.self.view_is, kept.room, kept.fill) (padded_more room fill _ old new many (rw kept.fill at kept.same))
