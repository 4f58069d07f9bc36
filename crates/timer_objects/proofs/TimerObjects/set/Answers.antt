use Rattle.timer_objects.proofs.Shown.{ended_unset}
use Rattle.timer_objects.proofs.TimerObjects.set.Goals as goal

pub begin-fires-requires-clause-unset : goal.begin-fires-requires-clause-unset
begin-fires-requires-clause-unset c = rw c.unset-was.ensures.after (ended_unset c.args.object c.args.self.now.settings)
