use Rattle.std.proofs.Common.{◌≡◌, ◌+◌, ◌<◌, ◌≤◌, ℕ, Bool, true, false, if◌then◌else◌, [], ◌∷◌, ◌++◌, List, refl, arith, length}
use Rattle.std.specs.List.{All, AllByRecursion}
use Rattle.std.proofs.lemmas.List.{length-map, map-append}
use Rattle.std.proofs.lemmas.List.Elements.{All-from_recursion, recursion_from_All}
use Rattle.tp_base.specs.declared.rows.CallbackRow.{CallbackRow}
use Rattle.tp_model.specs.Counts.{is_operating}
use Rattle.tp_model.specs.Support.Sound.{IsRising}
use Rattle.tp_model.proofs.Callbacks.{rising_append}
use Rattle.tp_model.proofs.Lists.{all_append}
use Rattle.live_callbacks.specs.Callbacks.{Callbacks, is_waiting_persistent}
use Rattle.live_callbacks.specs.Held.{Held, rows_of}
use Rattle.live_callbacks.specs.Lists.{IsAtHome}
use Rattle.live_callbacks.specs.declared.LiveCallbacks.TheInside.{Inside}
use Rattle.live_callbacks.proofs.Parts.{came}
use Rattle.live_callbacks.proofs.Standing.{count_more, count_most, lists_there, may_group, may_line, may_object, of_row, stand}
use Rattle.live_callbacks.proofs.LiveCallbacks.push.Goals as goal

-- a new row in terms of the parts
record IsComing (i : Inside) (r : CallbackRow) : Type 0 where
  room : length (rows_of i.rows.held) < i.rows.slots
  home : IsAtHome i.lists.pools i.lists.objects r
  above : AllByRecursion (λ (h : Held). h.row.number < r.number) i.rows.held

coming : (i : Inside) (r : CallbackRow) (old : Callbacks) → record { slots = i.rows.slots; pools = i.lists.pools; objects = i.lists.objects; rows = rows_of i.rows.held } ≡ old
    → length old.rows < old.slots → r.pool.0 < old.pools → r.object.0 ≤ old.objects → All (λ (x : CallbackRow). x.number < r.number) old.rows → IsComing i r
coming i r old is room pool object last =
    record {
      room = rw (← is) at room;
      home = (rw (← is) at pool, rw (← is) at object);
      above = of_held i.rows.held (recursion_from_All (λ (x : CallbackRow). x.number < r.number) (rows_of i.rows.held) (rw (← is) at last));
    }
  where
    of_held : (hs : List Held) → AllByRecursion (λ (x : CallbackRow). x.number < r.number) (rows_of hs) → AllByRecursion (λ (h : Held). h.row.number < r.number) hs
    of_held [] all = tt
    of_held (h ∷ hs) all = (all.0, of_held hs all.1)

one : (b : Bool) → (if b then 1 else 0) ≤ 1
one true = omega arith
one false = omega arith

-- rising numbers that are below one rise up to it
rising_below : (low number next_number : ℕ) (hs : List Held) → low ≤ number → IsRising low next_number (rows_of hs) → AllByRecursion (λ (h : Held). h.row.number < number) hs → IsRising low number (rows_of hs)
rising_below low number next_number [] le rising below = le
rising_below low number next_number (h ∷ hs) le rising below = (rising.0, rising_below (h.row.number + 1) number next_number hs (omega (arith, below.0)) rising.1 below.1)

pub stands-to-requires-clause-lists : goal.stands-to-requires-clause-lists
stands-to-requires-clause-lists c = lists_there c.self.invariant.standing

pub push-key-requires-clause-last : goal.push-key-requires-clause-last
push-key-requires-clause-last c =
    let i = c.self.inside in
    let new = coming i c.args.row c.args.self.now c.self.view_is c.requires.room c.requires.pool c.requires.object c.requires.last in
    All-from_recursion (λ (h : Held). h.row.number < c.args.row.number) i.rows.held new.above

pub overflow_add-self : goal.overflow_add-self
overflow_add-self c =
    let i = c.self.inside in
    let new = coming i c.args.row c.args.self.now c.self.view_is c.requires.room c.requires.pool c.requires.object c.requires.last in
    let most = count_most (λ (x : CallbackRow). is_operating x.status) (rows_of i.rows.held) in
    omega (arith, new.room, most, c.self.invariant.counted, length-map i.rows.held (λ (h : Held). h.row), c.len-known.ensures.fits, one (is_operating c.args.row.status), c.operations.ensures)

pub recount-requires-clause-fits : goal.recount-requires-clause-fits
recount-requires-clause-fits c =
    let i = c.self.inside in
    let new = coming i c.args.row c.args.self.now c.self.view_is c.requires.room c.requires.pool c.requires.object c.requires.last in
    let most = count_most is_waiting_persistent (rows_of i.rows.held) in
    omega (arith, new.room, most, c.self.invariant.counted_persistent, length-map i.rows.held (λ (h : Held). h.row), c.len-known.ensures.fits, c.waiting_persistent-is.ensures.most)

pub settle-requires-clause-line : goal.settle-requires-clause-line
settle-requires-clause-line c =
    may_line c.push-key.result c.stands-to.result (λ heads line. line c.args.row) c.self.invariant.standing (of_row c.self.inside.lists c.stands-to.result c.args.row c.stands-to.ensures) c.self.invariant.rising.0 c.self.invariant.rising.1 (rw c.push-key.ensures.after at c.push-key.ensures.within)

pub settle-requires-clause-object : goal.settle-requires-clause-object
settle-requires-clause-object c =
    may_object c.push-key.result c.stands-to.result (λ heads line. line c.args.row) c.self.invariant.standing (of_row c.self.inside.lists c.stands-to.result c.args.row c.stands-to.ensures) c.self.invariant.rising.0 c.self.invariant.rising.1 (rw c.push-key.ensures.after at c.push-key.ensures.within)

pub settle-requires-clause-group : goal.settle-requires-clause-group
settle-requires-clause-group c =
    may_group c.push-key.result c.stands-to.result (λ heads line. line c.args.row) c.self.invariant.standing (of_row c.self.inside.lists c.stands-to.result c.args.row c.stands-to.ensures) c.self.invariant.rising.0 c.self.invariant.rising.1 (rw c.push-key.ensures.after at c.push-key.ensures.within)

pub invariant_of-self : goal.invariant_of-self
invariant_of-self c =
    let i = c.self.inside in
    let k = c.self.invariant in
    let r = c.args.row in
    let hs = i.rows.held in
    let h : Held = record { key = c.push-key.result; row = r } in
    let new = coming i r c.args.self.now c.self.view_is c.requires.room c.requires.pool c.requires.object c.requires.last in
    let rows : rows_of (hs ++ h ∷ []) ≡ rows_of hs ++ r ∷ [] = map-append (λ (x : Held). x.row) hs (h ∷ []) in
    let done = c.settle.ensures.settled in
    let standing = stand c.push-key.result c.stands-to.result (λ heads line. line r) k.standing (of_row i.lists c.stands-to.result r c.stands-to.ensures) (hs ++ h ∷ []) r.number c.settle.new.self (λ heads line. came heads line hs h c.push-key.ensures.fresh new.above) done in
    rw c.push-key.ensures.after
    (record {
      rising = (r.number + 1, rw rows (rising_append 0 r.number (rows_of hs) r refl (rising_below 0 r.number k.rising.0 hs (omega arith) k.rising.1 new.above)));
      homes = rw (done.pools, done.objects, rows) (all_append (IsAtHome i.lists.pools i.lists.objects) (rows_of hs) r k.homes new.home);
      standing = standing;
      counted = rw rows (omega (arith, k.counted, c.operations.ensures, count_more (λ (x : CallbackRow). is_operating x.status) r (rows_of hs)));
      counted_persistent = rw rows (omega (arith, k.counted_persistent, c.recount.ensures, c.waiting_persistent-is.ensures.value, count_more is_waiting_persistent r (rows_of hs)));
    })

pub returns : goal.returns
returns c =
    let i = c.self.inside in
    let h : Held = record { key = c.push-key.result; row = c.args.row } in
    let rows : rows_of (i.rows.held ++ h ∷ []) ≡ rows_of i.rows.held ++ c.args.row ∷ [] = map-append (λ (x : Held). x.row) i.rows.held (h ∷ []) in
    let done = c.settle.ensures.settled in
    rw (← c.self.view_is, c.push-key.ensures.after, done.pools, done.objects, rows) refl
