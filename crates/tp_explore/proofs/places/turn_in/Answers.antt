use Rattle.std.proofs.Common.{ap, cond, slice_get, sym, ◌∙◌, None}
use Rattle.part_places.specs.Places.{given}
use Rattle.tp_explore.specs.Boards.{place_at}
use Rattle.tp_explore.specs.Scenes.{turns_at}
use Rattle.tp_explore.proofs.places.turn_in.Goals as goal

pub returns-then-has_turn-clause-value : goal.returns-then-has_turn-clause-value
returns-then-has_turn-clause-value g c = λ w.
    c.turn_at.ensures.value
    ∙ ap (λ p. slice_get (turns_at (given g.R.Routines.next_of g.R.Routines.after_of c.args.routines.now) c.args.who p) c.args.number) c.at.ensures
    ∙ sym (ap (λ t. cond t (slice_get (turns_at (given g.R.Routines.next_of g.R.Routines.after_of c.args.routines.now) c.args.who (place_at c.args.limits.now (g.P.Row.places_of c.args.places.now) c.args.who)) c.args.number) None)
    (sym (c.has_turn.ensures w) ∙ c.if-has_turn.true))

pub returns-else-has_turn-clause-value : goal.returns-else-has_turn-clause-value
returns-else-has_turn-clause-value g c = λ w.
    sym (ap (λ t. cond t (slice_get (turns_at (given g.R.Routines.next_of g.R.Routines.after_of c.args.routines.now) c.args.who (place_at c.args.limits.now (g.P.Row.places_of c.args.places.now) c.args.who)) c.args.number) None)
    (sym (c.has_turn.ensures w) ∙ c.if-has_turn.false))
