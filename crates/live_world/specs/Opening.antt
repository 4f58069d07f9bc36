-- Each part of a live world as it is opened.
use Rattle.std.specs.Prelude.{◌+◌, false, None, [], ◌∷◌, replicate}
use Rattle.tp_base.specs.declared.limits.Limits.{Limits}
use Rattle.begun_waits.specs.Begun.{Begun}
use Rattle.live_callbacks.specs.Callbacks.{Callbacks}
use Rattle.begun_waits.specs.Covers.{Covering}
use Rattle.object_rows.specs.Objects.{ObjectTable}
use Rattle.pool_rows.specs.Pools.{Pools, made_pool}
use Rattle.pool_rows.specs.Workers.{unattached as unattached_row}
use Rattle.sources.specs.Rows.{SourceRows}

abbrev pub opened_pools : Limits → Pools
opened_pools limits = record { limit = limits.pools; pools = made_pool limits.workers ∷ []; workers = replicate limits.workers unattached_row }

abbrev pub opened_objects : Limits → ObjectTable
opened_objects limits = record { group_limit = limits.groups; object_limit = limits.objects; groups = []; objects = [] }

abbrev pub opened_callbacks : Limits → Callbacks
opened_callbacks limits = record { slots = limits.slots; pools = limits.pools; objects = limits.objects; rows = [] }

abbrev pub opened_waits : Limits → Begun
opened_waits limits = record { limits = limits; waits = []; given_up = 0 }

abbrev pub opened_covers : Limits → Covering
opened_covers limits = record { room = limits.slots; bounds = replicate (limits.clients + limits.workers) None; listed = replicate (limits.clients + limits.workers) [] }

abbrev pub opened_sources : Limits → SourceRows
opened_sources limits = record {
  objects = limits.objects;
  most_kernels = limits.kernels;
  there = replicate (limits.objects + 1) false;
  sources = record { settings = []; armings = []; kernels = []; now = 0 };
}
