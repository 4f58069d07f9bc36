use Rattle.live_callbacks.specs.Places.{live}
use Rattle.live_callbacks.proofs.Tied.{are_apart, are_within, live_rises}
use Rattle.live_callbacks.proofs.rows.Rows.len.Goals as goal

pub returns-clause-apart : goal.returns-clause-apart
returns-clause-apart c =
    let es = c.self.inside.entries.items in
    rw (← c.self.view_is) (are_apart c.self.inside.rows (live es) (live_rises es c.self.invariant.rising) c.self.invariant.tied)

pub returns-clause-within : goal.returns-clause-within
returns-clause-within c = rw (← c.self.view_is) (are_within c.self.inside.rows (live c.self.inside.entries.items) c.self.invariant.tied)
