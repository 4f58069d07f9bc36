-- What the parts show after a wait begins and after one ends.
use Rattle.std.proofs.Common.{◌≡◌, ◌+◌, List, ap, ◌∙◌, arith}
use Rattle.tp_base.specs.declared.ids.Who.{Who}
use Rattle.tp_base.specs.declared.plans.WaitEnd.{WaitEnd}
use Rattle.tp_base.specs.declared.plans.Change.TheVariants as change
use Rattle.sources.specs.Rows.{SourceRows, with_sources}
use Rattle.tp_base.specs.declared.rows.KernelRow.{KernelRow}
use Rattle.tp_model.specs.Changes.{given_up_after, kernels_left}
use Rattle.tp_model.specs.Support.Allowed.{IsAllowed}
use Rattle.live_world.specs.declared.LiveWorld.TheInside.{Inside}
use Rattle.live_world.specs.Live.{Live, moved}
use Rattle.begun_waits.specs.Begun.{Begun, wait_among, wanted_by, without_waits}
use Rattle.live_world.specs.Taking.{rows_left}
use Rattle.live_world.specs.View.{shown, IsLiveWorld}
use Rattle.live_world.proofs.Covered.{covered_ended}
use Rattle.live_world.proofs.Takings.{left_here}
use Rattle.live_world.proofs.Moving.{Becomes, moved_by, waits_after}

-- what is left of the waits, without an actor's that ended
abbrev pub without_ended : Begun → Who → WaitEnd → Begun
without_ended waits who how = record waits { waits = without_waits who waits.waits; given_up = given_up_after waits.given_up how (wait_among waits.waits who) }

pub ended : (i : Inside) (l : Live) (who : Who) (how : WaitEnd) (waits : Begun) (sources : SourceRows) → shown i ≡ l → IsLiveWorld i → IsAllowed (l.made + 1) l.world (change.EndWait who how) → waits ≡ without_ended i.waits who how
    → sources ≡ with_sources i.sources (record i.sources.sources { kernels = rows_left who how (wanted_by (wait_among i.waits.waits who)) i.sources.sources.kernels })
    → Becomes (record i { waits = waits; sources = sources }) (moved l (change.EndWait who how))
ended i l who how waits sources is k allowed waits_now sources_read =
    moved_by i (record i { waits = waits; sources = sources }) l (change.EndWait who how) is k allowed (omega arith) (λ a.
    let left : List KernelRow = kernels_left (shown i).world who how (wait_among i.waits.waits who) in
    let sources_now : sources ≡ with_sources i.sources (record i.sources.sources { kernels = left })
    = sources_read ∙ ap (λ rows. with_sources i.sources (record i.sources.sources { kernels = rows })) (left_here (shown i).world who how) in
    rw (waits_now, sources_now) (waits_after i i.covers (without_ended i.waits who how) left k
    (covered_ended who (given_up_after i.waits.given_up how (wait_among i.waits.waits who)) k.covered)))
