use Rattle.tp_base.specs.declared.answers.Outcome.TheVariants.{Look}
use Rattle.tp_base.specs.declared.calls.Call.TheVariants.{End}
use Rattle.shared_pool.proofs.Calling.{called_since, end_answer, met_itself, met_through, never_full, stays_itself, stays_on, still_in_wait}
use Rattle.shared_pool.proofs.pool.SharedPool.end.Goals as goal

pub call-requires-clause-player : goal.call-requires-clause-player
call-requires-clause-player g c = c.loop.invariant.2

pub returns-in-Done-clause-ended : goal.returns-in-Done-clause-ended
returns-in-Done-clause-ended g c = called_since End c.in-Done.answer c.args.seat.now c.loop.seat c.call.new.seat c.loop.invariant.3 c.in-Done.ensures.ended

pub returns-in-Done-clause-of_wait : goal.returns-in-Done-clause-of_wait
returns-in-Done-clause-of_wait g c = end_answer c.legal_gives_facts.ensures c.in-Done.answer c.loop.seat c.call.new.seat (still_in_wait c.args.seat.now c.loop.seat c.loop.invariant.3 c.requires.in_wait) c.in-Done.ensures.ended

pub returns-in-Done-clause-met : goal.returns-in-Done-clause-met
returns-in-Done-clause-met g c = met_through c.args.seat.now c.loop.seat c.call.new.seat c.loop.invariant.4 c.call.ensures.met

pub unreachable-requires : goal.unreachable-requires
unreachable-requires g c =
    never_full c.legal_gives_facts.ensures c.in-Full.room c.in-Full.cost c.loop.seat c.call.new.seat c.call.ensures.player.numbered
    (still_in_wait c.args.seat.now c.loop.seat c.loop.invariant.3 c.requires.in_wait) c.in-Full.ensures.ended

pub loop-init : goal.loop-init
loop-init g c = (tt, tt, c.requires.player, stays_itself c.args.seat.now c.requires.player.idle, met_itself c.args.seat.now)

pub loop-preserved : goal.loop-preserved
loop-preserved g c =
    (tt, tt, c.call.ensures.player, stays_on End (Look c.in-Look.field-0) c.args.seat.now c.loop.seat c.call.new.seat c.loop.invariant.3 c.in-Look.ensures.ended, met_through c.args.seat.now c.loop.seat c.call.new.seat c.loop.invariant.4 c.call.ensures.met)
