use Rattle.std.proofs.Common.{◌∙◌}
use Rattle.live_callbacks.proofs.Halves.{count_pending}
use Rattle.live_callbacks.proofs.LiveCallbacks.pending.Goals as goal

pub returns-clause-value : goal.returns-clause-value
returns-clause-value c = c.takeable.ensures ∙ count_pending c.args.pool.0 c.args.self.now.rows
