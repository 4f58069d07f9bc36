use Rattle.std.proofs.Common.{◌≡◌, replicate, ◌∙◌, refl, sym, ap, subst}
use Rattle.std.proofs.lemmas.Result.{IfOk-at_ok}
use Rattle.std.specs.Global.{Vec}
use Rattle.tp_base.specs.declared.limits.Limits.{Limits}
use Rattle.tp_base.specs.declared.rows.ClientRow.{ClientRow}
use Rattle.begun_waits.specs.Begun.{Begun}
use Rattle.sources.specs.Rows.{SourceRows}
use Rattle.begun_waits.specs.Covers.{Covering}
use Rattle.live_world.specs.declared.LiveWorld.TheInside.{Inside}
use Rattle.live_world.specs.declared.opened.OpenedRows.{OpenedRows}
use Rattle.tp_model.specs.World.{opening}
use Rattle.tp_model.specs.Support.Remembered.{forget}
use Rattle.tp_model.specs.World.{unfinished}
use Rattle.live_world.specs.Opening.{opened_covers, opened_sources, opened_waits}
use Rattle.live_world.proofs.Moving.{Becomes}
use Rattle.live_world.proofs.Opening.{opened}
use Rattle.live_world.proofs.LiveWorld.open.Goals as goal

abbrev Tables : Type 0
Tables = ((OpenedRows × Begun) × Covering) × Vec ClientRow

abbrev parts : Limits → Tables → SourceRows → Inside
parts limits (((rows, waits), covers), clients) sources = record {
  limits = limits;
  pools = rows.pools;
  objects = rows.objects;
  callbacks = rows.callbacks;
  waits = waits;
  covers = covers;
  clients = clients;
  sources = sources;
  made = 0;
}

abbrev becomes : goal.In_ok-tables-3 → Tables → Type 0
becomes c tables = Becomes (parts c.args.limits tables c.in_ok-tables-3.sources) (record { world = forget (opening c.args.limits); made = 0 })

opened_here : (c : goal.In_ok-tables-3) → becomes c c.in_ok-tables-3.tables
opened_here c =
    let limits : Limits = c.args.limits in
    let rows = c.in_ok-rows.ensures in
    let waits = c.in_ok-rows-2.ensures in
    let covers = c.in_ok-tables.ensures in
    let clients = c.in_ok-tables-2.ensures in
    let sources = c.in_ok-tables-3.ensures in
    let tables : Tables = (((c.in_ok-rows.rows, c.in_ok-rows-2.waits), c.in_ok-tables.covers), c.in_ok-tables-2.clients) in
    let same : c.in_ok-tables-3.tables ≡ tables
    = sources.0 ∙ ap (λ t. (t, c.in_ok-tables-2.clients)) (clients.0 ∙ ap (λ t. (t, c.in_ok-tables.covers)) (covers.0 ∙ ap (λ r. (r, c.in_ok-rows-2.waits)) waits.0)) in
    subst (becomes c) (sym same) (opened (parts limits tables c.in_ok-tables-3.sources)
    (record {
      in_range = c.requires;
      pools = rows.pools;
      objects = rows.objects;
      callbacks = rows.callbacks;
      clients = IfOk-at_ok (λ x. x.items ≡ replicate limits.clients unfinished) clients.1 c.open_clients.ensures;
      sources = IfOk-at_ok (λ x. x ≡ opened_sources limits) sources.1 c.open-3.ensures;
      waits = IfOk-at_ok (λ x. x ≡ opened_waits limits) waits.1 c.open.ensures;
      covers = IfOk-at_ok (λ x. x ≡ opened_covers limits) covers.1 c.open-2.ensures;
      made = refl;
    }))

pub invariant_of-result : goal.invariant_of-result
invariant_of-result c = (opened_here c).keeps

pub returns : goal.returns
returns c = (opened_here c).becomes
