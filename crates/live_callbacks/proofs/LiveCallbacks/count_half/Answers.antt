use Rattle.std.proofs.Common.{sym, arith}
use Rattle.std.proofs.lemmas.List.{length-map}
use Rattle.tp_base.specs.declared.rows.CallbackRow.{CallbackRow}
use Rattle.tp_model.specs.Counts.{is_pending}
use Rattle.live_callbacks.specs.Held.{Held, rows_of}
use Rattle.live_callbacks.specs.Queues.{is_pending_half}
use Rattle.live_callbacks.proofs.Lines.{no_pool}
use Rattle.live_callbacks.proofs.Queues.{none_counted, pending_len}
use Rattle.live_callbacks.proofs.Standing.{count_most}
use Rattle.live_callbacks.proofs.LiveCallbacks.count_half.Goals as goal

pub returns-then-pool-self : goal.returns-then-pool-self
returns-then-pool-self c =
    let i = c.self.inside in
    let cs = rows_of i.rows.held in
    rw (← c.self.view_is)
    (sym (none_counted c.args.pool.0 c.args.persistent cs (no_pool i.lists.pools i.lists.objects c.args.pool.0 c.if-pool-self.true (λ (x : CallbackRow). is_pending x.status) cs c.self.invariant.homes)))

pub count_queues-requires-clause-few : goal.count_queues-requires-clause-few
count_queues-requires-clause-few c =
    let i = c.self.inside in
    let all = pending_len i.lists.pools i.lists.objects c.args.pool.0 c.if-pool-self.false c.args.persistent i.rows.held c.self.invariant.standing.by_line in
    let rows = length-map i.rows.held (λ (h : Held). h.row) in
    omega (arith, all, rows, count_most (is_pending_half c.args.pool.0 c.args.persistent) (rows_of i.rows.held), c.len-known.ensures.value)

pub returns : goal.returns
returns c =
    let i = c.self.inside in
    let all = pending_len i.lists.pools i.lists.objects c.args.pool.0 c.if-pool-self.false c.args.persistent i.rows.held c.self.invariant.standing.by_line in
    rw (← c.self.view_is) (omega (arith, all, c.count_queues.ensures))
