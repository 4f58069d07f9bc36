use Rattle.tp_model.specs.Groups.{gets_notice}
use Rattle.plain_worlds.proofs.Noting.{noted_next}
use Rattle.plain_worlds.proofs.groups.notices_of.Goals as goal

pub loop-object-preserved : goal.loop-object-preserved
loop-object-preserved c =
    noted_next (gets_notice c.args.group.0) c.args.objects.now c.loop-object.notices.items c.note.new.notices.items _ c.loop-object.number c.in_ok-number.number c.loop-object.object-index _ c.gets_notice.result
    c.loop-object.invariant.0 c.in_ok-number.ensures c.loop-object-test.true c.gets_notice.ensures c.in_ok-note.ensures c.loop-object.invariant.1
