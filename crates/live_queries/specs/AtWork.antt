-- A worker that runs a callback of its pool, with the callback that is lent.
use Rattle.tp_base.specs.declared.plans.Busy.{Busy}
use Rattle.live_queries.specs.declared.callers.AtWork.{AtWork}

abbrev pub busy_at : AtWork → Busy
busy_at a = record { worker = a.worker; pool = a.pool; callback = a.callback.now; persistent = a.persistent }
