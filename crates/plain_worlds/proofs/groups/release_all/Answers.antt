use Rattle.std.proofs.Common.{arith}
use Rattle.tp_model.specs.Groups.{released_from}
use Rattle.plain_worlds.proofs.InPlace.{all_written}
use Rattle.plain_worlds.proofs.groups.release_all.Goals as goal

pub returns : goal.returns
returns c = all_written (released_from c.args.group.0) c.loop-place.objects.items _ c.loop-place.place (omega (arith, c.loop-place.invariant.0, c.loop-place-test.false, c.len-place-end.ensures)) c.loop-place.invariant.1
