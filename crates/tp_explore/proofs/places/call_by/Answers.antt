use Rattle.std.proofs.Common.{ap, ◌%◌, ◌∙◌}
use Rattle.part_places.specs.Places.{given}
use Rattle.tp_explore.specs.Boards.{place_at, turn_in}
use Rattle.tp_explore.proofs.places.call_by.Goals as goal

pub returns-clause-value : goal.returns-clause-value
returns-clause-value g c = λ w.
    c.turn_in.ensures.value w
    ∙ ap (λ who. turn_in (given g.R.Routines.next_of g.R.Routines.after_of c.args.routines.now) (record { world = w; places = place_at c.args.limits.now (g.P.Row.places_of c.args.places.now) }) who (c.args.by % 2)) c.mover.ensures
