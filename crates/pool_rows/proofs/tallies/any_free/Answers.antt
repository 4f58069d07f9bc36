use Rattle.std.proofs.Common.{◌≡◌, ◌∙◌, length, map, filter, get_or, false, refl, sym, ap, arith}
use Rattle.pool_rows.specs.declared.tallies.PoolEntry.{PoolEntry}
use Rattle.pool_rows.specs.Workers.{runs}
use Rattle.pool_rows.proofs.Counting.{length-filter_le}
use Rattle.pool_rows.proofs.Free.{free_by, held_below, held_fits, held_next_closed, held_next_open, none_held_below, occupied_within}
use Rattle.pool_rows.proofs.tallies.any_free.Goals as goal
use Rattle.pool_rows.proofs.tallies.any_free.Goals.{then-not-entry, else-not-entry}

-- what stands where there is no entry
abbrev nowhere : PoolEntry
nowhere = record {
  row = record { minimum = 0; maximum = 0; closed = false };
  tally = record { attached = 0; running = 0; long = 0; persistent = 0; occupied = 0 };
}

pub loop-entry-init : goal.loop-entry-init
loop-entry-init c = sym (none_held_below (map (λ e. e.row) c.args.entries.now) c.args.workers.now)

pub overflow_sub-held : goal.overflow_sub-held
overflow_sub-held c =
    let es = c.args.entries.now in
    let i = c.loop-entry.entry-index in
    occupied_within es c.args.workers.now c.requires.tallied i nowhere (get_or es i nowhere) c.loop-entry-test.true refl

pub overflow_add-held : goal.overflow_add-held
overflow_add-held c =
    let es = c.args.entries.now in
    let i = c.loop-entry.entry-index in
    omega (arith, held_fits es c.args.workers.now c.requires.tallied i nowhere (get_or es i nowhere) c.loop-entry-test.true refl c.loop-entry.held c.requires.few c.if-not-entry.true c.loop-entry.invariant)

pub loop-entry-preserved : goal.loop-entry-preserved
loop-entry-preserved c =
    let es = c.args.entries.now in
    let ws = c.args.workers.now in
    let i = c.loop-entry.entry-index in
    let e = get_or es i nowhere in
    elim c.if-not-entry.branch [
      | then-not-entry w ↦ w.held-is ∙ held_next_open es ws c.requires.tallied i nowhere e c.loop-entry-test.true refl c.loop-entry.held w.if-not-entry.true c.loop-entry.invariant
      | else-not-entry w ↦ w.held-is ∙ held_next_closed es ws c.requires.tallied i nowhere e c.loop-entry-test.true refl c.loop-entry.held w.if-not-entry.false c.loop-entry.invariant
    ]

pub overflow_sub-result : goal.overflow_sub-result
overflow_sub-result c = omega (arith, c.requires.busy, length-filter_le runs c.args.workers.now)

pub returns : goal.returns
returns c =
    let es = c.args.entries.now in
    let ws = c.args.workers.now in
    let rows = map (λ (e : PoolEntry). e.row) es in
    let all : c.loop-entry.entry-index ≡ length es = omega (arith, c.loop-entry-test.false, c.loop-entry.auto.entry-index-end) in
    rw c.requires.busy (free_by es ws c.requires.tallied c.loop-entry.held (c.loop-entry.invariant ∙ ap (λ n. length (filter (held_below rows n) ws)) all))
