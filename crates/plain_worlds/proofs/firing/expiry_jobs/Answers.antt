use Rattle.std.proofs.Common.{map, refl}
use Rattle.tp_model.specs.Sources.{expiry_job}
use Rattle.plain_worlds.proofs.Loops.{all_through}
use Rattle.plain_worlds.proofs.firing.expiry_jobs.Goals as goal

pub returns : goal.returns
returns c = all_through (map (expiry_job c.args.armings.now)) c.args.due.now c.loop-setting.jobs.items _ c.loop-setting.setting-index refl c.loop-setting-test.false c.loop-setting.invariant
