-- What the parts show after something is made, closed or released.
use Rattle.std.proofs.Common.{◌≡◌, ◌+◌, ◌-◌, ◌≤◌, Bool, true, false, cond, List, [], ◌∷◌, ◌++◌, length, slice_set, refl, sym, ap, ◌∙◌, subst, arith, length-append, length-set}
use Rattle.tp_base.specs.declared.ids.ObjectId.{ObjectId}
use Rattle.tp_base.specs.declared.ids.KernelId.{KernelId}
use Rattle.tp_base.specs.declared.plans.Change.{Change}
use Rattle.tp_base.specs.declared.plans.Change.TheVariants as change
use Rattle.tp_base.specs.declared.plans.KernelChange.{KernelChange}
use Rattle.tp_base.specs.declared.rows.GroupRow.{GroupRow}
use Rattle.tp_base.specs.declared.rows.KernelRow.{KernelRow}
use Rattle.tp_base.specs.declared.rows.KernelState.{KernelState}
use Rattle.tp_base.specs.declared.rows.ObjectRow.{ObjectRow}
use Rattle.tp_base.specs.Kernels.{state_after}
use Rattle.object_rows.specs.Objects.{ObjectTable, is_timed_kind, released_in}
use Rattle.sources.specs.Rows.{SourceRows, with_sources, without_object}
use Rattle.tp_model.specs.World.{World}
use Rattle.tp_model.specs.Counts.{numbered}
use Rattle.tp_model.specs.Changes.{changed, release_object}
use Rattle.tp_model.specs.Kernels.{kernel_changed, new_kernel}
use Rattle.tp_model.specs.Sources.{Sources, with_state}
use Rattle.tp_model.specs.Support.Allowed.{IsAllowed, news}
use Rattle.tp_model.proofs.Refusals.{numbered_some}
use Rattle.live_world.specs.declared.LiveWorld.TheInside.{Inside}
use Rattle.live_world.specs.Live.{Live, moved}
use Rattle.live_world.specs.View.{shown, IsLiveWorld}
use Rattle.live_world.specs.Invariant.{AreSlotted, AreTimed}
use Rattle.live_world.proofs.Moving.{After, Becomes, moved_by}
use Rattle.live_world.proofs.Due.{fewer_armings}
use Rattle.live_world.proofs.Timed.{with_object, timed_created, timed_released}

-- ---- the objects, the groups and the sources change alone

abbrev pub with_rows : Inside → ObjectTable → SourceRows → Inside
with_rows i rows sources = record i { objects = rows; sources = sources }

-- as the world shows them
abbrev world_with : Inside → ObjectTable → Sources → World
world_with i rows s = record (shown i).world { groups = rows.groups; objects = rows.objects; settings = s.settings; armings = s.armings; kernels = s.kernels; now = s.now }

-- they are as many as there may be, and those that may be set are entered; there is a slot for each armed wait
record AreFit (i : Inside) (rows : ObjectTable) (sources : SourceRows) : Type 0 where
  group_limit : rows.group_limit ≡ i.objects.group_limit
  object_limit : rows.object_limit ≡ i.objects.object_limit
  within : length rows.objects ≤ i.limits.objects
  timed : AreTimed i.limits rows.objects sources
  slotted : AreSlotted i.limits i.callbacks.rows sources.sources.armings

rows_moved : (i : Inside) (l : Live) (ch : Change) (rows : ObjectTable) (sources : SourceRows) → shown i ≡ l → IsLiveWorld i → IsAllowed (l.made + 1) l.world ch → i.made ≡ i.made + news ch
    → (IsAllowed (i.made + 1) (shown i).world ch → (changed (shown i).world ch ≡ world_with i rows sources.sources) × AreFit i rows sources) → Becomes (with_rows i rows sources) (moved l ch)
rows_moved i l ch rows sources is k allowed none after =
    moved_by i (with_rows i rows sources) l ch is k allowed none (λ a.
    let fit : AreFit i rows sources = (after a).1 in
    subst (λ w. After (with_rows i rows sources) w) (sym (after a).0)
    (record {
      shows = ap (λ cs. record (world_with i rows sources.sources) { callbacks = cs }) (sym k.alive.live);
      sized = record {
        in_range = k.sized.in_range;
        pool_limit = k.sized.pool_limit;
        pools_least = k.sized.pools_least;
        pools_within = k.sized.pools_within;
        worker_count = k.sized.worker_count;
        homes = k.sized.homes;
        group_limit = fit.group_limit ∙ k.sized.group_limit;
        object_limit = fit.object_limit ∙ k.sized.object_limit;
        objects_within = fit.within;
        client_count = k.sized.client_count;
      };
      alive = k.alive;
      tallied = k.tallied;
      covered = k.covered;
      timed = fit.timed;
      slotted = fit.slotted;
    }))

-- ---- groups and kernel objects

pub groups_changed : (i : Inside) (l : Live) (ch : Change) (groups : List GroupRow) (rows : ObjectTable) → shown i ≡ l → IsLiveWorld i → IsAllowed (l.made + 1) l.world ch → i.made ≡ i.made + news ch → changed (shown i).world ch ≡ record (shown i).world { groups = groups }
    → rows ≡ record i.objects { groups = groups } → Becomes (record i { objects = rows }) (moved l ch)
groups_changed i l ch groups rows is k allowed none same now =
    subst (λ (t : ObjectTable). Becomes (record i { objects = t }) (moved l ch)) (sym now)
    (rows_moved i l ch (record i.objects { groups = groups }) i.sources is k allowed none (λ a. (same, record { group_limit = refl; object_limit = refl; within = k.sized.objects_within; timed = k.timed; slotted = k.slotted })))

kernels_changed : (i : Inside) (l : Live) (ch : Change) (kernels : List KernelRow) (sources : SourceRows) → shown i ≡ l → IsLiveWorld i → IsAllowed (l.made + 1) l.world ch → i.made ≡ i.made + news ch → changed (shown i).world ch ≡ record (shown i).world { kernels = kernels }
    → sources ≡ with_sources i.sources (record i.sources.sources { kernels = kernels }) → Becomes (record i { sources = sources }) (moved l ch)
kernels_changed i l ch kernels sources is k allowed none same now =
    subst (λ (s : SourceRows). Becomes (record i { sources = s }) (moved l ch)) (sym now)
    (rows_moved i l ch i.objects (with_sources i.sources (record i.sources.sources { kernels = kernels })) is k allowed none
    (λ a. (
      same,
      record {
        group_limit = refl;
        object_limit = refl;
        within = k.sized.objects_within;
        timed = record { object_limit = k.timed.object_limit; kernel_limit = k.timed.kernel_limit; places = k.timed.places; there = k.timed.there };
        slotted = k.slotted;
      },
    )))

pub kernel_made : (i : Inside) (l : Live) (state : KernelState) (sources : SourceRows) → shown i ≡ l → IsLiveWorld i → IsAllowed (l.made + 1) l.world (change.CreateKernel state)
    → sources ≡ with_sources i.sources (record i.sources.sources { kernels = i.sources.sources.kernels ++ new_kernel state ∷ [] }) → Becomes (record i { sources = sources }) (moved l (change.CreateKernel state))
kernel_made i l state sources is k allowed now = kernels_changed i l (change.CreateKernel state) (i.sources.sources.kernels ++ new_kernel state ∷ []) sources is k allowed (omega arith) refl now

pub kernel_moved : (i : Inside) (l : Live) (kernel : KernelId) (how : KernelChange) (sources : SourceRows) → shown i ≡ l → IsLiveWorld i → IsAllowed (l.made + 1) l.world (change.ChangeKernel kernel how)
    → sources ≡ with_sources i.sources (with_state (state_after how) kernel.0 i.sources.sources) → Becomes (record i { sources = sources }) (moved l (change.ChangeKernel kernel how))
kernel_moved i l kernel how sources is k allowed now = kernels_changed i l (change.ChangeKernel kernel how) (kernel_changed (state_after how) i.sources.sources.kernels kernel.0) sources is k allowed (omega arith) refl now

-- ---- objects

pub created : (i : Inside) (l : Live) (row : ObjectRow) (rows : ObjectTable) (sources : SourceRows) → shown i ≡ l → IsLiveWorld i → IsAllowed (l.made + 1) l.world (change.CreateObject row)
    → rows ≡ record i.objects { objects = i.objects.objects ++ row ∷ [] } → sources ≡ cond (is_timed_kind row.kind) (with_object i.sources (length i.objects.objects + 1)) i.sources
    → Becomes (with_rows i rows sources) (moved l (change.CreateObject row))
created i l row rows sources is k allowed rows_now sources_now =
    let rows_after : ObjectTable = record i.objects { objects = i.objects.objects ++ row ∷ [] } in
    let sources_after : SourceRows = cond (is_timed_kind row.kind) (with_object i.sources (length i.objects.objects + 1)) i.sources in
    let same : sources_after.sources ≡ i.sources.sources = entered (is_timed_kind row.kind) in
    subst (λ (t : ObjectTable). Becomes (with_rows i t sources) (moved l (change.CreateObject row))) (sym rows_now)
    (subst (λ (s : SourceRows). Becomes (with_rows i rows_after s) (moved l (change.CreateObject row))) (sym sources_now)
    (rows_moved i l (change.CreateObject row) rows_after sources_after is k allowed (omega arith) (λ a. (
      ap (world_with i rows_after) (sym same),
      record {
        group_limit = refl;
        object_limit = refl;
        within = omega (arith, length-append i.objects.objects (row ∷ []), a.room);
        timed = timed_created i.limits i.objects.objects row i.sources a.unreleased a.room k.timed;
        slotted = subst (λ (s : Sources). AreSlotted i.limits i.callbacks.rows s.armings) (sym same) k.slotted;
      },
    ))))
  where
    entered : (b : Bool) → (cond b (with_object i.sources (length i.objects.objects + 1)) i.sources).sources ≡ i.sources.sources
    entered true = refl
    entered false = refl

pub released : (i : Inside) (l : Live) (object : ObjectId) (rows : ObjectTable) (sources : SourceRows) → shown i ≡ l → IsLiveWorld i → IsAllowed (l.made + 1) l.world (change.ReleaseObject object)
    → rows ≡ record i.objects { objects = released_in i.objects.objects object.0 (numbered i.objects.objects object.0) } → sources ≡ without_object i.sources object
    → Becomes (with_rows i rows sources) (moved l (change.ReleaseObject object))
released i l object rows sources is k allowed rows_now sources_now =
    let here = subst (λ (x : Live). IsAllowed (x.made + 1) x.world (change.ReleaseObject object)) (sym is) allowed in
    let gone : ObjectRow = record here.row { released = true } in
    let rows_after : ObjectTable = record i.objects { objects = slice_set i.objects.objects (object.0 - 1) gone } in
    subst (λ (t : ObjectTable). Becomes (with_rows i t sources) (moved l (change.ReleaseObject object)))
    (sym (rows_now ∙ ap (λ o. record i.objects { objects = released_in i.objects.objects object.0 o }) here.stands))
    (subst (λ (s : SourceRows). Becomes (with_rows i rows_after s) (moved l (change.ReleaseObject object))) (sym sources_now)
    (rows_moved i l (change.ReleaseObject object) rows_after (without_object i.sources object) is k allowed (omega arith) (λ a. (
      ap (release_object (shown i).world object) here.stands,
      record {
        group_limit = refl;
        object_limit = refl;
        within = omega (arith, length-set i.objects.objects (object.0 - 1) gone, k.sized.objects_within);
        timed = timed_released i.limits i.objects.objects object gone i.sources (numbered_some i.objects.objects object.0 here.row here.stands).1 refl k.timed;
        slotted = record { slots = omega (arith, fewer_armings object.0 i.sources.sources.armings, k.slotted.slots) };
      },
    ))))
