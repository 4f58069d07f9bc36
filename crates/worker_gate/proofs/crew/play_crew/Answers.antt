use Rattle.part_places.specs.Places.{given}
use Rattle.worker_gate.proofs.Crews.{crew_begins, crew_ended, crew_moved, crew_waited}
use Rattle.worker_gate.proofs.crew.play_crew.Goals as goal

pub loop-idle-init : goal.loop-idle-init
loop-idle-init g c = crew_begins (given g.R.Routines.next_of g.R.Routines.after_of c.args.routines.now) c.args.pool.now c.args.crew.items c.requires.ready

pub loop-idle-preserved-in-Moved : goal.loop-idle-preserved-in-Moved
loop-idle-preserved-in-Moved g c =
    crew_moved (given g.R.Routines.next_of g.R.Routines.after_of c.args.routines.now) c.args.pool.now c.args.crew.items c.loop-idle.crew.items c.play_round.new.crew.items c.loop-idle.idle c.loop-idle.invariant c.in-Moved.ensures.ready c.in-Moved.ensures.played

pub loop-idle-preserved : goal.loop-idle-preserved
loop-idle-preserved g c =
    crew_waited (given g.R.Routines.next_of g.R.Routines.after_of c.args.routines.now) c.args.pool.now c.args.crew.items c.loop-idle.crew.items c.play_round.new.crew.items c.loop-idle.idle c.loop-idle.invariant c.in-Waiting.ensures.ready c.loop-idle-test.true c.in-Waiting.ensures.played

pub returns-in-Ended-clause-back : goal.returns-in-Ended-clause-back
returns-in-Ended-clause-back g c =
    crew_ended (given g.R.Routines.next_of g.R.Routines.after_of c.args.routines.now) c.args.pool.now c.args.crew.items c.loop-idle.crew.items c.play_round.new.crew.items c.loop-idle.idle c.loop-idle.invariant c.in-Ended.ensures.ready c.in-Ended.ensures.played
