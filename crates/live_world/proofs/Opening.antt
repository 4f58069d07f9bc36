-- The parts of a world that is opened.
use Rattle.std.proofs.Common.{◌≡◌, ℕ, suc, zero, ◌+◌, None, true, false, cond, not, ◌&&◌, ◌==◌, slice_get, ◌-◌, List, [], length, map, get_or, replicate, refl, sym, ap, ap₂, ◌∙◌, subst, arith}
use Rattle.tp_base.specs.declared.limits.Limits.{Limits}
use Rattle.tp_base.specs.declared.rows.ClientRow.{ClientRow}
use Rattle.tp_base.specs.Ranges.{AreLimitsInRange}
use Rattle.live_callbacks.specs.Callbacks.{Callbacks}
use Rattle.object_rows.specs.Objects.{ObjectTable, is_timed_kind}
use Rattle.sources.specs.Rows.{SourceRows}
use Rattle.std.specs.Option.{option_map_or}
use Rattle.tp_base.specs.declared.rows.ObjectRow.{ObjectRow}
use Rattle.pool_rows.specs.Pools.{Pools}
use Rattle.pool_rows.specs.Workers.{runs_in, runs_long_in, unattached as unattached_row}
use Rattle.tp_model.specs.World.{World, opening, unattached, unfinished}
use Rattle.tp_model.specs.Support.Sound.{IsSound}
use Rattle.tp_model.specs.Support.Remembered.{forget}
use Rattle.tp_model.proofs.Sound.{opening_sound}
use Rattle.begun_waits.specs.Begun.{Begun}
use Rattle.live_world.specs.Parts.{world_of, shown_worker}
use Rattle.live_world.specs.Invariant.{AreSized, AreLive, AreTallied, AreCovered, AreTimed, AreSlotted, IsHome, IsMarked}
use Rattle.begun_waits.specs.Covers.{Covering}
use Rattle.live_world.specs.View.{shown}
use Rattle.live_world.specs.Opening.{opened_pools, opened_objects, opened_callbacks, opened_waits, opened_covers, opened_sources}
use Rattle.live_world.specs.declared.LiveWorld.TheInside.{Inside}
use Rattle.live_world.proofs.Moving.{Becomes}
use Rattle.tp_base.specs.declared.rows.CallbackRow.{CallbackRow}
use Rattle.tp_base.specs.declared.rows.WorkerRow.{WorkerRow}
use Rattle.live_world.proofs.Lists.{filter_none, map_replicate, length_replicate, all_replicate}

get_replicate : {X : Type 0} (d : X) (n place : ℕ) → get_or (replicate n d) place d ≡ d
get_replicate d zero place = refl
get_replicate d (suc n) zero = refl
get_replicate d (suc n) (suc place) = get_replicate d n place

pub record IsOpened (i : Inside) : Type 0 where
  pub in_range : AreLimitsInRange i.limits
  pub pools : i.pools ≡ opened_pools i.limits
  pub objects : i.objects ≡ opened_objects i.limits
  pub callbacks : i.callbacks ≡ opened_callbacks i.limits
  pub sources : i.sources ≡ opened_sources i.limits
  pub clients : i.clients.items ≡ replicate i.limits.clients unfinished
  pub waits : i.waits ≡ opened_waits i.limits
  pub covers : i.covers ≡ opened_covers i.limits
  pub made : i.made ≡ 0

both : {A B : Type 0} (P : A → B → Type 0) {a a' : A} {b b' : B} → a ≡ a' → b ≡ b' → P a' b' → P a b
both P {a} {a'} {b} {b'} ea eb h = subst (λ x. P x b) (sym ea) (subst (λ y. P a' y) (sym eb) h)

sized_opened : (limits : Limits) → AreLimitsInRange limits → AreSized limits (opened_pools limits) (opened_objects limits) (replicate limits.clients unfinished)
sized_opened limits in_range =
    record {
      in_range = in_range;
      pool_limit = refl;
      pools_least = omega arith;
      pools_within = omega (arith, in_range.pools_least);
      worker_count = length_replicate unattached_row limits.workers;
      homes = all_replicate (IsHome 1) unattached_row tt limits.workers;
      group_limit = refl;
      object_limit = refl;
      objects_within = omega arith;
      client_count = length_replicate unfinished limits.clients;
    }

tallied_opened : (limits : Limits) → AreTallied [] (replicate limits.workers unattached_row)
tallied_opened limits =
    let workers = replicate limits.workers unattached_row in
    record {
      marked = all_replicate (IsMarked []) unattached_row (λ busy. absurd (busy refl)) limits.workers;
      run = λ pool. sym (ap length (filter_none (runs_in pool) workers (all_replicate (λ w. runs_in pool w ≡ false) unattached_row refl limits.workers)));
      run_long = λ pool. sym (ap length (filter_none (runs_long_in pool) workers (all_replicate (λ w. runs_long_in pool w ≡ false) unattached_row refl limits.workers)));
    }

timed_opened : (limits : Limits) → AreTimed limits [] (opened_sources limits)
timed_opened limits =
    record {
      object_limit = refl;
      kernel_limit = refl;
      places = length_replicate false (limits.objects + 1);
      there = λ number.
          get_replicate false (limits.objects + 1) number
          ∙ elim (number == 0) as (λ b. false ≡ option_map_or (λ (o : ObjectRow). not o.released && is_timed_kind o.kind) (cond b None (slice_get [] (number - 1))) false) [ true ↦ refl | false ↦ refl ];
    }

covered_opened : (limits : Limits) → AreCovered limits 0 [] (opened_waits limits) (opened_covers limits)
covered_opened limits =
    record {
      wait_limits = refl;
      bounds = length_replicate None (limits.clients + limits.workers);
      lists = length_replicate [] (limits.clients + limits.workers);
      room = refl;
      covered = λ who place b at is. absurd cc;
    }

-- they keep their invariant, and show the opening world
pub opened : (i : Inside) → IsOpened i → Becomes i (record { world = forget (opening i.limits); made = 0 })
opened i o =
    let limits : Limits = i.limits in
    let shown_workers : map shown_worker (replicate limits.workers unattached_row) ≡ replicate limits.workers unattached = map_replicate shown_worker unattached_row limits.workers in
    let rows : i.callbacks.rows ≡ [] = ap (λ (c : Callbacks). c.rows) o.callbacks in
    let world_now : (shown i).world ≡ opening limits =
    ap₂ (λ (p : Pools) (t : ObjectTable). world_of limits p t i.callbacks.rows i.sources.sources i.clients.items i.waits.waits i.waits.given_up) o.pools o.objects
    ∙ ap₂ (λ (cs : List CallbackRow) (cl : List ClientRow). world_of limits (opened_pools limits) (opened_objects limits) cs i.sources.sources cl i.waits.waits i.waits.given_up) rows o.clients
    ∙ ap₂ (λ (bs : Begun) (ws : List WorkerRow). record (world_of limits (opened_pools limits) (opened_objects limits) [] i.sources.sources (replicate limits.clients unfinished) bs.waits bs.given_up) { workers = ws }) o.waits shown_workers
    ∙ ap (λ (t : SourceRows). record (opening limits) { settings = t.sources.settings; armings = t.sources.armings; kernels = t.sources.kernels; now = t.sources.now }) o.sources in
    record {
      keeps = record {
        sized = both (λ p t. AreSized limits p t i.clients.items) o.pools o.objects (subst (λ cl. AreSized limits (opened_pools limits) (opened_objects limits) cl) (sym o.clients) (sized_opened limits o.in_range));
        alive = subst (λ c. AreLive limits c) (sym o.callbacks) (record { slot_limit = refl; pool_limit = refl; object_limit = refl; live = refl });
        tallied = both (λ cs ws. AreTallied cs ws) rows (ap (λ (p : Pools). p.workers) o.pools) (tallied_opened limits);
        covered = both (λ (n : ℕ) (cs : Covering). AreCovered limits n i.callbacks.rows i.waits cs) o.made o.covers
            (both (λ (c : Callbacks) (bs : Begun). AreCovered limits 0 c.rows bs (opened_covers limits)) o.callbacks o.waits (covered_opened limits));
        timed = both (λ (t : ObjectTable) (s : SourceRows). AreTimed limits t.objects s) o.objects o.sources (timed_opened limits);
        slotted = both (λ (cs : List CallbackRow) (s : SourceRows). AreSlotted limits cs s.sources.armings) rows o.sources (record { slots = omega arith });
        sound = both (λ w n. IsSound (n + 1) w) world_now o.made (opening_sound limits);
      };
      becomes = ap₂ (λ (w : World) (n : ℕ). record { world = w; made = n }) world_now o.made;
    }
