use Rattle.std.proofs.Common.{ap, find, sym, ◌∙◌}
use Rattle.live_world.specs.Parts.{is_held_among}
use Rattle.live_world.proofs.Covered.{nowhere, place_within}
use Rattle.live_world.proofs.Held.{listed_where, nothing_where, past_where, within_where}
use Rattle.live_world.proofs.LiveWorld.first_held.Goals as goal

pub bound-requires : goal.bound-requires
bound-requires c = place_within c.self.inside c.args.self.now c.args.who c.args.waiter c.self.view_is c.self.invariant c.requires.at

pub listed-requires : goal.listed-requires
listed-requires c = place_within c.self.inside c.args.self.now c.args.who c.args.waiter c.self.view_is c.self.invariant c.requires.at

pub first_outstanding-requires : goal.first_outstanding-requires
first_outstanding-requires c = c.self.invariant.alive.live

pub returns-in_default : goal.returns-in_default
returns-in_default c =
    c.first_among.ensures ∙ ap (find (is_held_among c.self.inside.callbacks.rows c.args.target)) c.listed.ensures
    ∙ listed_where c.self.inside c.args.self.now c.args.who c.args.waiter c.args.target c.self.view_is c.self.invariant c.requires.at c.requires.target (sym c.bound.ensures ∙ nowhere c.bound.result c.in_default.not-Some)

pub returns-in_err-first : goal.returns-in_err-first
returns-in_err-first c =
    c.from_residual.ensures
    ∙ nothing_where c.self.inside c.args.self.now c.args.who c.args.waiter c.args.target c.self.view_is c.self.invariant c.requires.at c.requires.target c.in-Some.last (sym c.bound.ensures ∙ c.in-Some.is) (sym c.in_err-first.was ∙ c.first_outstanding.ensures)

pub returns-then-first-last : goal.returns-then-first-last
returns-then-first-last c =
    within_where c.self.inside c.args.self.now c.args.who c.args.waiter c.args.target c.self.view_is c.self.invariant c.requires.at c.requires.target c.in-Some.last (sym c.bound.ensures ∙ c.in-Some.is)
    c.in_ok-first.first (sym c.in_ok-first.was ∙ c.first_outstanding.ensures) c.if-first-last.true

pub returns-else-first-last : goal.returns-else-first-last
returns-else-first-last c =
    past_where c.self.inside c.args.self.now c.args.who c.args.waiter c.args.target c.self.view_is c.self.invariant c.requires.at c.requires.target c.in-Some.last (sym c.bound.ensures ∙ c.in-Some.is)
    c.in_ok-first.first (sym c.in_ok-first.was ∙ c.first_outstanding.ensures) c.if-first-last.false
