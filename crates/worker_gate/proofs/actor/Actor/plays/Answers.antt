use Rattle.std.proofs.Common.{sym, subst}
use Rattle.shared_pool.specs.declared.pool.Tried.{Tried}
use Rattle.part_places.specs.Places.{given}
use Rattle.worker_gate.proofs.Acting.{played_goes_on, played_ready, played_said, tried_ended, Tells}
use Rattle.worker_gate.proofs.Turning.{step_keeps}
use Rattle.worker_gate.proofs.actor.Actor.plays.Goals.{in-Done, in-Look, in-Full}
use Rattle.worker_gate.proofs.actor.Actor.plays.Goals as goal

pub returns-clause-ready : goal.returns-clause-ready
returns-clause-ready g c =
    let tells : Tells c.try_call.result c.match-try_call.outcome = elim c.match-try_call.branch [
      | in-Done w ↦ subst (λ (t : Tried). Tells t c.match-try_call.outcome) (sym w.in-Done.is) w.outcome-is
      | in-Look w ↦ subst (λ (t : Tried). Tells t c.match-try_call.outcome) (sym w.in-Look.is) w.outcome-is
      | in-Full w ↦ subst (λ (t : Tried). Tells t c.match-try_call.outcome) (sym w.in-Full.is) w.outcome-is
    ] in
    let ended = tried_ended c.due-call.result c.try_call.result c.match-try_call.outcome c.args.self.now.seat c.try_call.new.seat tells c.try_call.ensures.tried in
    played_ready step_keeps (given g.R.Routines.next_of g.R.Routines.after_of c.args.routines.now) c.args.pool.now c.args.self.now _ c.due-call.result c.match-try_call.outcome
    c.due-call.ensures.value c.requires.ready c.requires.going c.due-call.ensures.of_part c.try_call.ensures.player c.hears.ensures.role ended.0

pub returns-clause-goes_on : goal.returns-clause-goes_on
returns-clause-goes_on g c =
    let tells : Tells c.try_call.result c.match-try_call.outcome = elim c.match-try_call.branch [
      | in-Done w ↦ subst (λ (t : Tried). Tells t c.match-try_call.outcome) (sym w.in-Done.is) w.outcome-is
      | in-Look w ↦ subst (λ (t : Tried). Tells t c.match-try_call.outcome) (sym w.in-Look.is) w.outcome-is
      | in-Full w ↦ subst (λ (t : Tried). Tells t c.match-try_call.outcome) (sym w.in-Full.is) w.outcome-is
    ] in
    let ended = tried_ended c.due-call.result c.try_call.result c.match-try_call.outcome c.args.self.now.seat c.try_call.new.seat tells c.try_call.ensures.tried in
    played_goes_on step_keeps (given g.R.Routines.next_of g.R.Routines.after_of c.args.routines.now) c.args.pool.now c.args.self.now _ c.due-call.result c.match-try_call.outcome
    c.due-call.ensures.value c.requires.ready c.requires.going c.due-call.ensures.of_part c.try_call.ensures.player c.hears.ensures.role ended

pub returns-clause-said : goal.returns-clause-said
returns-clause-said g c =
    let tells : Tells c.try_call.result c.match-try_call.outcome = elim c.match-try_call.branch [
      | in-Done w ↦ subst (λ (t : Tried). Tells t c.match-try_call.outcome) (sym w.in-Done.is) w.outcome-is
      | in-Look w ↦ subst (λ (t : Tried). Tells t c.match-try_call.outcome) (sym w.in-Look.is) w.outcome-is
      | in-Full w ↦ subst (λ (t : Tried). Tells t c.match-try_call.outcome) (sym w.in-Full.is) w.outcome-is
    ] in
    let ended = tried_ended c.due-call.result c.try_call.result c.match-try_call.outcome c.args.self.now.seat c.try_call.new.seat tells c.try_call.ensures.tried in
    played_said step_keeps (given g.R.Routines.next_of g.R.Routines.after_of c.args.routines.now) c.args.pool.now c.args.self.now _ c.due-call.result c.match-try_call.outcome
    c.due-call.ensures.value c.requires.ready c.requires.going c.due-call.ensures.of_part c.try_call.ensures.player c.hears.ensures.role c.hears.result c.hears.ensures.turn ended.0
