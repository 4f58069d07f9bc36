use Rattle.std.proofs.Common.{◌≡◌, ◌∙◌, List, None, ◌++◌, filter, length, map, true, sym, ap, append-nil, arith, length-set}
use Rattle.std.specs.Option.{option_copied}
use Rattle.std.proofs.lemmas.List.{length-map}
use Rattle.std.proofs.lemmas.List.Sums.{length-filter, count_by-le-length}
use Rattle.tp_base.specs.declared.rows.CallbackRow.{CallbackRow}
use Rattle.tp_base.specs.declared.rows.WaitTarget.TheVariants.{Object}
use Rattle.tp_model.specs.Waits.{is_outstanding_for}
use Rattle.live_callbacks.specs.Callbacks.{outstanding_among}
use Rattle.begun_waits.specs.Covers.{Covering, with_cover}
use Rattle.live_world.specs.Invariant.{is_running_callback}
use Rattle.live_world.proofs.Along.{InObject, in_object, number_of, outstanding_rise}
use Rattle.live_world.proofs.Beginnings.{covers_outstanding}
use Rattle.live_world.proofs.Covering.{Listed, listing, lists_next}
use Rattle.live_world.proofs.Walks.{rest}
use Rattle.live_world.proofs.waits.list_running.Goals as goal
use Rattle.live_world.proofs.waits.list_running.Goals.{In-Some, Then-is_running}

abbrev rows : In-Some → List CallbackRow
rows c = outstanding_among c.args.callbacks.now.rows c.args.object

one : (c : In-Some) → Listed number_of is_running_callback (rows c) c.args.covers.now c.args.place c.loop-next.covers c.in-Some.callback.now (option_copied c.loop-next.next)
one c =
    lists_next number_of is_running_callback (rows c) c.args.covers.now c.args.place 1 (outstanding_rise c.requires.rising.0 c.args.callbacks.now.rows c.args.object c.requires.rising.1) c.loop-next.covers (option_copied c.loop-next.next)
    c.in-Some.callback.now (ap option_copied c.in-Some.is) c.loop-next.invariant

here : (c : In-Some) → InObject c.args.object c.args.callbacks.now.rows c.in-Some.callback.now
here c = in_object c.args.object c.args.callbacks.now.rows c.in-Some.callback.now (option_copied c.loop-next.next) (ap option_copied c.in-Some.is) c.loop-next.invariant.among

passes : (c : Then-is_running) → is_running_callback c.in-Some.callback.now ≡ true
passes c = sym c.is_running.ensures ∙ c.if-is_running.true

-- nothing but what the place lists has changed
bounds_same : (c : In-Some) → length c.loop-next.covers.bounds ≡ length c.args.covers.now.bounds
bounds_same c = ap (λ (x : Covering). length x.bounds) c.loop-next.invariant.lists ∙ length-set c.args.covers.now.bounds c.args.place None

pub begin_list-requires : goal.begin_list-requires
begin_list-requires c = c.requires.there

pub loop-next-init : goal.loop-next-init
loop-next-init c =
    listing number_of is_running_callback (outstanding_among c.args.callbacks.now.rows c.args.object) c.args.covers.now c.args.place 1 (outstanding_rise c.requires.rising.0 c.args.callbacks.now.rows c.args.object c.requires.rising.1)
    c.begin_list.new.self (option_copied c.first_outstanding-next.result) c.begin_list.ensures c.first_outstanding-next.ensures

pub next_outstanding-next-requires : goal.next_outstanding-next-requires
next_outstanding-next-requires c = (here (goal.at.next_outstanding-next-requires c).In-Some).there

pub list-requires-clause-place : goal.list-requires-clause-place
list-requires-clause-place c = omega (arith, c.requires.there, bounds_same (goal.at.list-requires-clause-place c).In-Some)

pub list-requires-clause-room : goal.list-requires-clause-room
list-requires-clause-room c =
    let at = goal.at.list-requires-clause-room c in
    let cs = c.args.callbacks.now.rows in
    let out = rows at.In-Some in
    omega (
      arith,
      (one at.In-Some).few c.requires.lists (passes at.Then-is_running),
      length-map (filter is_running_callback out) number_of,
      length-filter is_running_callback out,
      count_by-le-length is_running_callback out,
      length-filter (is_outstanding_for (Object c.args.object)) cs,
      count_by-le-length (is_outstanding_for (Object c.args.object)) cs,
      c.requires.room,
      ap (λ (x : Covering). x.room) c.loop-next.invariant.lists,
    )

pub loop-next-smaller-then-is_running : goal.loop-next-smaller-then-is_running
loop-next-smaller-then-is_running c =
    let at = (goal.at.loop-next-smaller-then-is_running c).In-Some in
    (one at).at.later (option_copied c.next_outstanding-next.result) ((here at).next (option_copied c.next_outstanding-next.result) c.next_outstanding-next.ensures)

pub loop-next-preserved-then-is_running : goal.loop-next-preserved-then-is_running
loop-next-preserved-then-is_running c =
    let at = goal.at.loop-next-preserved-then-is_running c in
    (one at.In-Some).listed (passes at.Then-is_running) c.requires.lists c.list.new.self c.list.ensures (option_copied c.next_outstanding-next.result) ((here at.In-Some).next (option_copied c.next_outstanding-next.result) c.next_outstanding-next.ensures)

pub loop-next-smaller : goal.loop-next-smaller
loop-next-smaller c =
    let at = (goal.at.loop-next-smaller c).In-Some in
    (one at).at.later (option_copied c.next_outstanding-next.result) ((here at).next (option_copied c.next_outstanding-next.result) c.next_outstanding-next.ensures)

pub loop-next-preserved : goal.loop-next-preserved
loop-next-preserved c =
    let at = (goal.at.loop-next-preserved c).In-Some in
    (one at).passed (sym c.is_running.ensures ∙ c.if-is_running.false) (option_copied c.next_outstanding-next.result) ((here at).next (option_copied c.next_outstanding-next.result) c.next_outstanding-next.ensures)

pub returns : goal.returns
returns c =
    let v = c.loop-next.invariant in
    let ys = outstanding_among c.args.callbacks.now.rows c.args.object in
    v.lists
    ∙ ap (λ ns. with_cover c.args.covers.now c.args.place None ns)
    (sym (append-nil v.so_far)
    ∙ ap (λ o. v.so_far ++ map number_of (filter is_running_callback (rest number_of ys (option_copied o)))) (sym c.in_default.is) ∙ v.all
    ∙ covers_outstanding c.args.object c.args.callbacks.now.rows)
