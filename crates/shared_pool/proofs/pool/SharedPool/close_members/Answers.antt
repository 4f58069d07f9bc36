use Rattle.std.proofs.Common.{sym, ◌≤◌, subst}
use Rattle.tp_base.specs.declared.calls.Call.TheVariants.{BeginClose}
use Rattle.turn_lock.specs.declared.views.Setup.{Setup}
use Rattle.shared_pool.specs.declared.notices.Told.{Told}
use Rattle.shared_pool.proofs.Calling.{met_through}
use Rattle.shared_pool.proofs.Waiting.{has_closed, has_room, tells_nothing, tells_on}
use Rattle.shared_pool.proofs.pool.SharedPool.close_members.Goals as goal

pub loop-init : goal.loop-init
loop-init g c = (tt, tt, c.begin.ensures.player, tells_nothing (BeginClose c.args.group c.args.cancel c.args.context) (g.N.Notices.told c.args.notices.now) (g.N.Notices.room c.args.notices.now) c.args.seat.now c.begin.new.seat c.in_default.ensures.begun, c.begin.ensures.met)

pub end-requires-clause-player : goal.end-requires-clause-player
end-requires-clause-player g c = c.loop.invariant.2

pub end-requires-clause-in_wait : goal.end-requires-clause-in_wait
end-requires-clause-in_wait g c = c.loop.invariant.3.waiting.in_wait

pub notice-requires : goal.notice-requires
notice-requires g c =
    has_room c.args.group c.args.cancel c.args.context (record { object = c.in-Notice.object; routine = c.in-Notice.routine; context = c.in-Notice.context; cleanup = c.in-Notice.cleanup })
    (g.N.Notices.told c.args.notices.now) (g.N.Notices.told c.loop.notices) (g.N.Notices.room c.args.notices.now) (g.N.Notices.room c.loop.notices) c.args.seat.now c.loop.seat c.end.new.seat c.loop.invariant.2.numbered
    c.legal_bounds_closes.ensures.few (subst (λ (s : Setup). s.limits.objects ≤ g.N.Notices.room c.args.notices.now) (sym c.end.ensures.player.of.setup_is) c.requires.spare) c.loop.invariant.3 c.in-Notice.ensures.ended

pub loop-preserved : goal.loop-preserved
loop-preserved g c =
    let t : Told = record { object = c.in-Notice.object; routine = c.in-Notice.routine; context = c.in-Notice.context; cleanup = c.in-Notice.cleanup } in (
      tt,
      tt,
      c.end.ensures.player,
      tells_on (BeginClose c.args.group c.args.cancel c.args.context) t (g.N.Notices.told c.args.notices.now) (g.N.Notices.told c.loop.notices) (g.N.Notices.told c.notice.new.self)
          (g.N.Notices.room c.args.notices.now) (g.N.Notices.room c.loop.notices) (g.N.Notices.room c.notice.new.self) c.args.seat.now c.loop.seat c.end.new.seat c.loop.invariant.2.numbered c.loop.invariant.3 c.in-Notice.ensures.ended c.notice.ensures.told c.notice.ensures.room,
      met_through c.args.seat.now c.loop.seat c.end.new.seat c.loop.invariant.4 c.end.ensures.met,
    )

pub returns-in_default-end : goal.returns-in_default-end
returns-in_default-end g c = record {
  player = c.end.ensures.player;
  closed = has_closed c.legal_keeps_laws.ensures.laws (BeginClose c.args.group c.args.cancel c.args.context) c.end.result (g.N.Notices.told c.args.notices.now) (g.N.Notices.told c.loop.notices) (g.N.Notices.room c.args.notices.now) (g.N.Notices.room c.loop.notices)
      c.args.seat.now c.loop.seat c.end.new.seat c.loop.invariant.2.numbered c.loop.invariant.3 c.end.ensures.ended c.end.ensures.of_wait (λ t is. c.in_default-end.not-Notice t.object t.routine t.context t.cleanup is);
  met = met_through c.args.seat.now c.loop.seat c.end.new.seat c.loop.invariant.4 c.end.ensures.met;
}
