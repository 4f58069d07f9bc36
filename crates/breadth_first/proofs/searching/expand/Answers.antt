use Rattle.std.proofs.Common.{arith}
use Rattle.breadth_first.proofs.Moves.{led_through}
use Rattle.breadth_first.proofs.searching.expand.Goals as goal

pub returns : goal.returns
returns g c = led_through (g.S.System.rules c.args.system.now) c.args.search.now.most _ c.args.state.now.value c.loop-by.search c.loop-by.invariant (omega (arith, c.width-by-end.ensures))
