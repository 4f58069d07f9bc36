use Rattle.std.proofs.Common.{◌∙◌, ap, length}
use Rattle.tp_model.specs.Sources.{firing}
use Rattle.live_world.proofs.Fired.{fired_quiet}
use Rattle.live_world.proofs.firing.fire.Goals as goal

pub returns-then-count-eq0 : goal.returns-then-count-eq0
returns-then-count-eq0 c =
    let sources = c.args.sources.now in
    let counted = c.requires.counted ∙ ap (λ t. length (firing t sources.sources).jobs) c.in-Advance.is in
    rw c.in-Advance.is (fired_quiet c.args.objects.now.objects c.args.made c.in-Advance.now c.args.count sources c.set_clock.new.self c.args.callbacks.now counted c.if-count-eq0.true c.set_clock.ensures)
