use Rattle.std.proofs.Common.{◌≡◌, false, sym, subst}
use Rattle.tp_base.specs.Armings.{is_armed}
use Rattle.sources.specs.Rows.{SourceRows}
use Rattle.sources.proofs.Armed.{is_gone}
use Rattle.sources.proofs.LiveSources.set_wait.Goals as goal

pub arm-requires-clause-unarmed : goal.arm-requires-clause-unarmed
arm-requires-clause-unarmed c =
    subst (λ (r : SourceRows). is_armed c.args.object.0 r.sources.armings ≡ false) (sym c.disarm.ensures) (is_gone c.args.object.0 c.args.self.now.sources.armings)
