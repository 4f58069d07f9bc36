use Rattle.std.proofs.Common.{◌&&◌, ap, ap₂, sym, ◌∙◌}
use Rattle.begun_waits.specs.Covers.{bound_of, covers, listed_of}
use Rattle.live_world.proofs.Covered.{place_within}
use Rattle.live_world.proofs.Held.{held_where}
use Rattle.live_world.proofs.LiveWorld.holds.Goals as goal

pub covers-requires : goal.covers-requires
covers-requires c = place_within c.self.inside c.args.self.now c.args.who c.args.waiter c.self.view_is c.self.invariant c.requires.at

pub returns-else-is_outstanding : goal.returns-else-is_outstanding
returns-else-is_outstanding c =
    let i = c.self.inside in
    c.if-is_outstanding.false
    ∙ ap (λ b. b && covers (bound_of i.covers c.args.waiter) (listed_of i.covers c.args.waiter) c.args.callback.now.number) (sym c.if-is_outstanding.false ∙ c.is_outstanding.ensures)
    ∙ sym (held_where i c.args.self.now c.args.who c.args.waiter c.args.target c.self.view_is c.self.invariant c.requires.at c.requires.target c.args.callback.now c.requires.found)

pub returns-then-is_outstanding : goal.returns-then-is_outstanding
returns-then-is_outstanding c =
    ap₂ (λ a b. a && b) (sym c.if-is_outstanding.true ∙ c.is_outstanding.ensures) c.covers.ensures
    ∙ sym (held_where c.self.inside c.args.self.now c.args.who c.args.waiter c.args.target c.self.view_is c.self.invariant c.requires.at c.requires.target c.args.callback.now c.requires.found)
