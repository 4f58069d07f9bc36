-- What the parts show after a trigger or a return, of which all callbacks were made.
use Rattle.std.proofs.Common.{◌≡◌, ℕ, ◌+◌, ◌<◌, ◌≤◌, true, List, [], ◌∷◌, ◌++◌, length, refl, sym, ap, ap₂, ◌∙◌, subst, arith, filter, length-append}
use Rattle.std.specs.List.{AllByRecursion}
use Rattle.std.proofs.lemmas.List.{append_assoc, append-nil}
use Rattle.std.proofs.lemmas.List.Elements.{filter-append}
use Rattle.tp_base.specs.declared.limits.Limits.{Limits}
use Rattle.tp_base.specs.declared.ids.ObjectId.{ObjectId}
use Rattle.tp_base.specs.declared.plans.ActionWords.{ActionWords}
use Rattle.tp_base.specs.declared.plans.Busy.{Busy}
use Rattle.tp_base.specs.declared.plans.Change.TheVariants as change
use Rattle.tp_base.specs.declared.plans.Trigger.{Trigger}
use Rattle.tp_base.specs.declared.rows.CallbackRow.{CallbackRow}
use Rattle.tp_base.specs.declared.rows.ObjectRow.{ObjectRow}
use Rattle.tp_base.specs.declared.rows.Slots.{Slots}
use Rattle.live_callbacks.specs.Callbacks.{Callbacks}
use Rattle.begun_waits.specs.Begun.{Begun}
use Rattle.pool_rows.specs.declared.WorkerRow as kept
use Rattle.sources.specs.Rows.{SourceRows}
use Rattle.tp_model.specs.World.{World}
use Rattle.tp_model.specs.Actions.{performed, returning, slots_of}
use Rattle.tp_model.specs.Changes.{without_run}
use Rattle.tp_model.specs.Sources.{Firing, Job, fired, firing, jobless, new_callback, object_row, rows_of, sources_of}
use Rattle.tp_model.specs.Support.Allowed.{IsAllowed}
use Rattle.tp_model.specs.Support.Remembered.{lives, forget}
use Rattle.tp_model.specs.Support.Sound.{IsSound, IsWaitSound, is_standing, may_be_armed}
use Rattle.tp_model.proofs.Firing.{AreJobsOf, armable_stands, fired_in, length_rows, row_of_made, standing_made}
use Rattle.tp_model.proofs.Forgetting.{live_again}
use Rattle.tp_model.proofs.Lists.{all_along}
use Rattle.tp_model.proofs.Performing.{returning_of, returning_within}
use Rattle.tp_model.proofs.Sound.{changed_sound, sources_in}
use Rattle.live_world.specs.declared.LiveWorld.TheInside.{Inside}
use Rattle.begun_waits.specs.Covers.{Covering}
use Rattle.live_world.specs.Invariant.{AreCovered, AreTallied}
use Rattle.live_world.specs.Live.{Live, moved, with_world}
use Rattle.live_world.specs.Making.{CanMake, IsFired, IsUsable}
use Rattle.live_world.specs.View.{shown, IsLiveWorld}
use Rattle.live_world.proofs.Covered.{CoversBelow, covered_more}
use Rattle.live_world.proofs.Moving.{After, Becomes, became_by, moved_by}
use Rattle.live_world.proofs.NewRow.{below_next}
use Rattle.live_world.proofs.Tallied.{tallied_more}

-- ---- all of it can be made

abbrev pub Stands : List ObjectRow → ℕ → Type 0
Stands objects n = is_standing objects n ≡ true

pub can_make : (i : Inside) (jobs : List Job) → IsLiveWorld i → AreJobsOf (Stands i.objects.objects) jobs → length i.callbacks.rows + length jobs ≤ i.limits.slots → CanMake i.callbacks i.objects.objects (i.made + 1) jobs
can_make i jobs k stand room =
    record {
      room = omega (arith, room, k.alive.slot_limit);
      last = below_next 1 (i.made + 1) i.callbacks.rows k.sound.numbers;
      usable = all_along (λ (j : Job). Stands i.objects.objects j.object.0 × _) (λ (j : Job). IsUsable i.callbacks i.objects.objects j.object) (λ j s. usable j.object s.0) jobs stand;
    }
  where
    usable : (object : ObjectId) → Stands i.objects.objects object.0 → IsUsable i.callbacks i.objects.objects object
    usable object stands =
        let made = standing_made i.objects.objects object.0 stands in
        record {
          made = made;
          known = omega (arith, made.1, k.sized.objects_within, k.alive.object_limit);
          pool = omega (
            arith,
            row_of_made (λ (o : ObjectRow). o.env.pool.0 < length i.pools.pools) i.objects.objects object k.sound.object_pools made,
            k.sized.pools_within,
            k.alive.pool_limit,
          );
        }

-- ---- and once it was

rows_live : (objects : List ObjectRow) (number : ℕ) (jobs : List Job) → filter lives (rows_of objects number jobs) ≡ rows_of objects number jobs
rows_live objects number [] = refl
rows_live objects number (j ∷ js) = ap (λ cs. new_callback number j.object (object_row objects j.object) j.result ∷ cs) (rows_live objects (number + 1) js)

-- what lives of callbacks of which some are appended
live_appended : (cs ds : List CallbackRow) → filter lives (filter lives cs ++ ds) ≡ filter lives (cs ++ ds)
live_appended cs ds =
    filter-append lives (filter lives cs) ds ∙ ap (λ ls. ls ++ filter lives ds) (live_again cs) ∙ sym (filter-append lives cs ds)

tallied_jobs : (objects : List ObjectRow) (number : ℕ) (jobs : List Job) (cs : List CallbackRow) (ws : List kept.WorkerRow) → AreTallied cs ws → AreTallied (cs ++ rows_of objects number jobs) ws
tallied_jobs objects number [] cs ws k = subst (λ xs. AreTallied xs ws) (sym (append-nil cs)) k
tallied_jobs objects number (j ∷ js) cs ws k =
    let c : CallbackRow = new_callback number j.object (object_row objects j.object) j.result in
    subst (λ xs. AreTallied xs ws) (append_assoc cs (c ∷ []) (rows_of objects (number + 1) js)) (tallied_jobs objects (number + 1) js (cs ++ c ∷ []) ws (tallied_more c cs ws refl k))

covered_jobs : (limits : Limits) (objects : List ObjectRow) (made : ℕ) (jobs : List Job) (cs : List CallbackRow) (waits : Begun) (covers : Covering) → AllByRecursion (CoversBelow (made + 1)) waits.waits → AreCovered limits made cs waits covers
    → AreCovered limits (made + length jobs) (cs ++ rows_of objects (made + 1) jobs) waits covers
covered_jobs limits objects made [] cs waits covers below k = rw (append-nil cs) (subst (λ n. AreCovered limits n cs waits covers) (omega arith) k)
covered_jobs limits objects made (j ∷ js) cs waits covers below k =
    let c : CallbackRow = new_callback (made + 1) j.object (object_row objects j.object) j.result in
    subst (λ n. AreCovered limits n (cs ++ c ∷ rows_of objects (made + 1 + 1) js) waits covers) (omega arith)
    (subst (λ xs. AreCovered limits (made + 1 + length js) xs waits covers) (append_assoc cs (c ∷ []) (rows_of objects (made + 1 + 1) js))
    (covered_jobs limits objects (made + 1) js (cs ++ c ∷ []) waits covers
    (all_along (CoversBelow (made + 1)) (CoversBelow (made + 1 + 1)) (λ b below_it. all_along (λ n. n < made + 1) (λ n. n < made + 1 + 1) (λ n lt. omega (arith, lt)) b.covered below_it) waits.waits below)
    (covered_more c refl below k)))

abbrev pub with_fired : Inside → SourceRows → Callbacks → ℕ → Inside
with_fired i sources callbacks made = record i { sources = sources; callbacks = callbacks; made = made }

pub fired_after : (i : Inside) (u : World) (f : Firing) (sources : SourceRows) (callbacks : Callbacks) (made : ℕ) → IsLiveWorld i → (shown i).world ≡ forget u → length i.callbacks.rows + length f.jobs + length f.sources.armings ≤ i.limits.slots
    → IsFired f i.objects.objects i.made made i.sources sources i.callbacks callbacks → After (with_fired i sources callbacks made) (fired u (i.made + 1) f)
fired_after i u f sources callbacks made k is room h =
    subst (λ (s : SourceRows). After (with_fired i s callbacks made) (fired u (i.made + 1) f)) (sym h.sources)
    (subst (λ (c : Callbacks). After (with_fired i (record i.sources { sources = f.sources }) c made) (fired u (i.made + 1) f)) (sym h.callbacks)
    (record {
      shows =
          ap (λ cs. record (fired (shown i).world (i.made + 1) f) { callbacks = cs }) (sym living)
          ∙ ap (λ w. forget (fired w (i.made + 1) f)) is
          ∙ ap (λ cs. record (fired u (i.made + 1) f) { callbacks = cs }) (live_appended u.callbacks (rows_of u.objects (i.made + 1) f.jobs));
      sized = k.sized;
      alive = record { slot_limit = k.alive.slot_limit; pool_limit = k.alive.pool_limit; object_limit = k.alive.object_limit; live = living };
      tallied = tallied_jobs i.objects.objects (i.made + 1) f.jobs i.callbacks.rows i.pools.workers k.tallied;
      covered = subst (λ n. AreCovered i.limits n (i.callbacks.rows ++ rows) i.waits i.covers) (sym h.number)
          (covered_jobs i.limits i.objects.objects i.made f.jobs i.callbacks.rows i.waits i.covers
          (all_along (IsWaitSound (i.made + 1) i.callbacks.rows) (CoversBelow (i.made + 1)) (λ b s. s.made) i.waits.waits k.sound.waits) k.covered);
      timed = record { object_limit = k.timed.object_limit; kernel_limit = k.timed.kernel_limit; places = k.timed.places; there = k.timed.there };
      slotted = record { slots = omega (arith, room, length-append i.callbacks.rows rows, length_rows i.objects.objects (i.made + 1) f.jobs) };
    }))
  where
    rows : List CallbackRow
    rows = rows_of i.objects.objects (i.made + 1) f.jobs

    living : filter lives (i.callbacks.rows ++ rows) ≡ i.callbacks.rows ++ rows
    living = filter-append lives i.callbacks.rows rows ∙ ap₂ (λ xs ys. xs ++ ys) k.alive.live (rows_live i.objects.objects (i.made + 1) f.jobs)

-- ---- a trigger

module _ (i : Inside) (l : Live) (trigger : Trigger) (first count : ℕ) (is : shown i ≡ l) (k : IsLiveWorld i) (allowed : IsAllowed (l.made + 1) l.world (change.Fire trigger first count)) where
  here : IsAllowed (i.made + 1) (shown i).world (change.Fire trigger first count)
  here = subst (λ (x : Live). IsAllowed (x.made + 1) x.world (change.Fire trigger first count)) (sym is) allowed

  abbrev f : Firing
  f = firing trigger i.sources.sources

  room : length i.callbacks.rows + length f.jobs + length f.sources.armings ≤ i.limits.slots
  room =
      let living : length (filter lives i.callbacks.rows) ≡ length i.callbacks.rows = ap length k.alive.live in
      omega (arith, living, here.room (omega (arith, living, k.slotted.slots)))

  pub fire_can : CanMake i.callbacks i.objects.objects (i.made + 1) f.jobs
  fire_can = can_make i f.jobs k (fired_in (shown i).world trigger here.ready (sources_in (i.made + 1) (shown i).world k.sound)).jobs (omega (arith, room))

  pub fire_fits : length f.jobs ≤ i.limits.slots
  fire_fits = omega (arith, room)

  pub fired_by : (sources : SourceRows) (callbacks : Callbacks) (made : ℕ) → IsFired f i.objects.objects i.made made i.sources sources i.callbacks callbacks → Becomes (with_fired i sources callbacks made) (moved l (change.Fire trigger first count))
  fired_by sources callbacks made h =
      moved_by i (with_fired i sources callbacks made) l (change.Fire trigger first count) is k allowed (omega (arith, h.number, here.counted)) (λ a.
      subst (λ n. After (with_fired i sources callbacks made) (fired (shown i).world n f)) (sym a.number)
      (fired_after i (shown i).world f sources callbacks made k (ap (λ cs. record (shown i).world { callbacks = cs }) (sym k.alive.live)) room h))

-- ---- a return, of a callback that has ended

module _ (i : Inside) (old : Live) (by : Busy) (words : ActionWords) (slots : Slots) (first count : ℕ) (is : shown i ≡ with_world old (without_run old.world by)) (k : IsLiveWorld i) (sound : IsSound (old.made + 1) old.world)
    (allowed : IsAllowed (old.made + 1) old.world (change.Return by words first count)) (same : slots ≡ slots_of by.callback.status) where
  abbrev v : World
  v = old.world

  abbrev g : Firing
  g = performed words slots (jobless i.sources.sources)

  -- the sources are as they were
  all_of : g ≡ returning v words (slots_of by.callback.status)
  all_of = ap₂ (λ (s : Slots) (x : Live). performed words s (jobless (sources_of x.world))) same is

  return_room : length i.callbacks.rows + length g.jobs + length g.sources.armings ≤ i.limits.slots
  return_room =
      let left = returning_within (shown i).world words slots in
      omega (arith, left, k.slotted.slots)

  pub return_can : CanMake i.callbacks i.objects.objects (i.made + 1) g.jobs
  return_can =
      let objects = i.objects.objects in
      can_make i g.jobs k (returning_of (Stands objects) (λ n. may_be_armed objects n ≡ true) (λ n may. armable_stands objects n may) (shown i).world words slots (sources_in (i.made + 1) (shown i).world k.sound)).jobs (omega (arith, return_room))

  pub return_fits : length g.jobs ≤ i.limits.slots
  return_fits = omega (arith, return_room)

  pub returned_by : (sources : SourceRows) (callbacks : Callbacks) (made : ℕ) → IsFired g i.objects.objects i.made made i.sources sources i.callbacks callbacks → Becomes (with_fired i sources callbacks made) (moved old (change.Return by words first count))
  returned_by sources callbacks made h =
      let after : World = fired (without_run v by) first (returning v words (slots_of by.callback.status)) in
      let numbers : i.made ≡ old.made = ap (λ (x : Live). x.made) is in
      let counts : made ≡ old.made + count = omega (arith, h.number, numbers, allowed.counted, ap (λ (x : Firing). length x.jobs) all_of) in
      let b = became_by (with_fired i sources callbacks made) after
      (subst (λ n. IsSound n after) (omega (arith, counts)) (changed_sound (old.made + 1) v (change.Return by words first count) sound allowed))
      (subst (λ n. After (with_fired i sources callbacks made) (fired (without_run v by) n (returning v words (slots_of by.callback.status)))) (omega (arith, numbers, allowed.number))
      (subst (λ (x : Firing). After (with_fired i sources callbacks made) (fired (without_run v by) (i.made + 1) x)) all_of
      (fired_after i (without_run v by) g sources callbacks made k (ap (λ (x : Live). x.world) is) return_room h))) in
      record { keeps = b.keeps; becomes = b.becomes ∙ ap (λ n. record { world = forget after; made = n }) counts }
