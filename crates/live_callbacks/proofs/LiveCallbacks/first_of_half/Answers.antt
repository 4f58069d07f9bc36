use Rattle.std.proofs.Common.{◌≡◌, ◌∙◌, ◌+◌, ◌*◌, Bool, ◌<◌, ◌≤◌, ◌==◌, ℕ, IfSome, None, Option, ap, slice_get, subst, sym}
use Rattle.linked_lists.specs.Linked.{list_of}
use Rattle.tp_base.specs.declared.rows.CallbackRow.{CallbackRow}
use Rattle.tp_model.specs.Counts.{is_pending}
use Rattle.live_callbacks.specs.Held.{AreApart, IsHeldUnder, row_under, rows_of}
use Rattle.live_callbacks.specs.Kept.{IsKept}
use Rattle.live_callbacks.specs.Lists.{first_of_half, first_queue_of, line_of}
use Rattle.live_callbacks.specs.Queues.{half_among}
use Rattle.live_callbacks.specs.declared.LiveCallbacks.TheInside.{Inside}
use Rattle.live_callbacks.proofs.Found.{first_is, found_held, found_row}
use Rattle.live_callbacks.proofs.Lines.{no_pool}
use Rattle.live_callbacks.proofs.Queues.{nowhere_first, queue_first, queue_within}
use Rattle.live_callbacks.proofs.LiveCallbacks.first_of_half.Goals as goal
use Rattle.live_callbacks.proofs.LiveCallbacks.first_of_half.Goals.{then-pool-self, else-pool-self}

-- what this key leads to is the row that is taken next
record LeadsToNext (i : Inside) (pool : ℕ) (persistent : Bool) (key : Option ℕ) : Type 0 where
  held : IfSome key (IsHeldUnder i.rows.held)
  next : row_under i.rows.held key ≡ slice_get (half_among (rows_of i.rows.held) pool persistent) 0

module _ (i : Inside) (k : IsKept i) (apart : AreApart i.rows.held) (pool : ℕ) (persistent : Bool) (key : Option ℕ) where
  first_leads : (line : ℕ) → pool < i.lists.pools → line ≡ first_queue_of i.lists.lines (6 * pool + first_of_half persistent) → key ≡ slice_get (list_of i.lists.lines line) 0 → LeadsToNext i pool persistent key
  first_leads line there is first =
      let of = line_of i.lists.pools i.lists.objects in
      let queue = first_queue_of i.lists.lines (6 * pool + first_of_half persistent) in
      let found = first ∙ ap (λ l. slice_get (list_of i.lists.lines l) 0) is ∙ first_is of queue i.rows.held k.standing.by_line (queue_within i.lists.pools i.lists.objects pool there persistent i.rows.held k.standing.by_line) in
      record {
        held = found_held i.rows.held apart (λ x. of x == queue) key found;
        next = found_row i.rows.held apart (λ x. of x == queue) key found ∙ queue_first i.lists.pools i.lists.objects pool there persistent i.rows.held k.standing.by_line;
      }

  none_leads : i.lists.pools ≤ pool → key ≡ None → LeadsToNext i pool persistent key
  none_leads past none =
      let nowhere = nowhere_first pool persistent (rows_of i.rows.held) (no_pool i.lists.pools i.lists.objects pool past (λ (x : CallbackRow). is_pending x.status) (rows_of i.rows.held) k.homes) in
      subst (LeadsToNext i pool persistent) (sym none) (record { held = tt; next = sym nowhere })

pub lent_under-requires : goal.lent_under-requires
lent_under-requires c =
    let i = c.self.inside in
    elim c.if-pool-self.branch [
      | then-pool-self w ↦ (first_leads i c.self.invariant c.len-known.ensures.apart c.args.pool.0 c.args.persistent c.if-pool-self.key w.first_queue-line.result w.if-pool-self.true w.first_queue-line.ensures (w.key-is ∙ w.first-key.ensures.value)).held
      | else-pool-self w ↦ (none_leads i c.self.invariant c.len-known.ensures.apart c.args.pool.0 c.args.persistent c.if-pool-self.key w.if-pool-self.false w.key-is).held
    ]

pub returns-clause-value : goal.returns-clause-value
returns-clause-value c =
    let i = c.self.inside in
    rw (← c.self.view_is)
    (elim c.if-pool-self.branch [
      | then-pool-self w ↦ c.lent_under.ensures ∙ (first_leads i c.self.invariant c.len-known.ensures.apart c.args.pool.0 c.args.persistent c.if-pool-self.key w.first_queue-line.result w.if-pool-self.true w.first_queue-line.ensures (w.key-is ∙ w.first-key.ensures.value)).next
      | else-pool-self w ↦ c.lent_under.ensures ∙ (none_leads i c.self.invariant c.len-known.ensures.apart c.args.pool.0 c.args.persistent c.if-pool-self.key w.if-pool-self.false w.key-is).next
    ])
