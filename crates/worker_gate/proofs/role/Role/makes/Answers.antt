use Rattle.part_places.specs.Places.{given}
use Rattle.worker_gate.proofs.Turning.{has_turned}
use Rattle.worker_gate.proofs.role.Role.makes.Goals as goal

pub returns : goal.returns
returns g c =
    has_turned (given g.R.Routines.next_of g.R.Routines.after_of c.args.routines.now) (g.B.Recorded.recording c.args.book.now) (g.B.Recorded.recording c.step_into.new.self) c.args.self.now c.hears.new.self c.args.call.now c.step_into.new.outcome
    c.hears.result c.requires.of c.requires.going c.requires.of_part c.requires.due c.step_into.ensures.outcome c.step_into.ensures.history c.step_into.ensures.legal c.hears.ensures.role c.hears.ensures.turn
