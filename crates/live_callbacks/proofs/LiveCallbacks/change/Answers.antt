use Rattle.std.proofs.Common.{◌≡◌, ◌+◌, ◌<◌, ◌≤◌, ℕ, ◌*◌, ◌⊎◌, Bool, Some, true, false, cond, if◌then◌else◌, inl, inr, is_some, refl, sym, ap, ◌∙◌, arith, find, ◌==◌, ◌++◌, ◌∷◌}
use Rattle.std.specs.List.{AllByRecursion}
use Rattle.tp_base.specs.declared.ids.GroupId.{GroupId}
use Rattle.tp_base.specs.declared.ids.ObjectId.{ObjectId}
use Rattle.tp_base.specs.declared.ids.PoolId.{PoolId}
use Rattle.tp_base.specs.declared.rows.CallbackRow.{CallbackRow}
use Rattle.tp_base.specs.declared.rows.Status.{Status}
use Rattle.tp_base.specs.declared.rows.Status.TheVariants.{Expected, Issued, Pending, Running, Returned, Cancelled}
use Rattle.linked_lists.specs.Linked.{owner_of}
use Rattle.tp_model.specs.Changes.{replaced}
use Rattle.tp_model.specs.Counts.{has_number, is_operating, is_pending}
use Rattle.tp_model.proofs.Callbacks.{length_filter_replaced, length_replaced, rising_replaced}
use Rattle.std.proofs.lemmas.List.{length-map}
use Rattle.tp_model.proofs.Lists.{all_map, find_all}
use Rattle.live_callbacks.specs.Callbacks.{MovesOn, is_tied, is_waiting_persistent}
use Rattle.live_callbacks.specs.Held.{AreApart, Held, rows_of}
use Rattle.live_callbacks.specs.Kept.{IsKept}
use Rattle.live_callbacks.specs.Lists.{IsAtHome, group_of, has_list, line_by, lines, object_of, queue_number}
use Rattle.live_callbacks.specs.declared.LiveCallbacks.TheInside.{Inside}
use Rattle.live_callbacks.proofs.Found.{owner_is}
use Rattle.live_callbacks.proofs.Lines.{queue_most}
use Rattle.live_callbacks.proofs.Parts.{changed}
use Rattle.live_callbacks.proofs.Standing.{IsAmong, among, count_fewer, count_most, key_found, key_is, lists_there, marks_put, may_line, may_object, of_row, put_among, rows_put, stand_in_group}
use Rattle.live_callbacks.proofs.LiveCallbacks.change.Goals as goal

-- the row before is among the rows, and that after is of a pool and an object that there may be
record IsMoving (i : Inside) (b r : CallbackRow) : Type 0 where
  found : find (has_number r.number) (rows_of i.rows.held) ≡ Some b
  is : IsAmong i.rows.held b
  home : IsAtHome i.lists.pools i.lists.objects r
  places : is.held.key < i.rows.places

moving : (i : Inside) (b r : CallbackRow) → IsKept i → AreApart i.rows.held → AllByRecursion (λ (h : Held). h.key < i.rows.places) i.rows.held → MovesOn b r → find (has_number b.number) (rows_of i.rows.held) ≡ Some b → IsMoving i b r
moving i b r k apart within goes found =
    let home : IsAtHome i.lists.pools i.lists.objects b = find_all (IsAtHome i.lists.pools i.lists.objects) (has_number b.number) b (rows_of i.rows.held) k.homes found in
    let among_them = among k.rising.0 i.rows.held b k.rising.1 apart found in
    record {
      found = ap (λ n. find (has_number n) (rows_of i.rows.held)) goes.number ∙ found;
      is = among_them;
      home = (omega (arith, home.0, ap (λ (p : PoolId). p.0) goes.pool), omega (arith, home.1, ap (λ (o : ObjectId). o.0) goes.object));
      places = find_all (λ (h : Held). h.key < i.rows.places) (λ (h : Held). h.row.number == b.number) among_them.held i.rows.held within among_them.found;
    }

fewer : (a b : Bool) → (b ≡ true → a ≡ true) → (if b then 1 else 0) ≤ (if a then 1 else 0)
fewer true true onwards = omega arith
fewer true false onwards = omega arith
fewer false true onwards = let no : false ≡ true = onwards refl in absurd (cc)
fewer false false onwards = omega arith

pub stands-to-requires-clause-home : goal.stands-to-requires-clause-home
stands-to-requires-clause-home c =
    let m = moving c.self.inside c.args.before.now c.args.after c.self.invariant c.len-known.ensures.apart c.len-known.ensures.within c.requires.goes (rw (← c.self.view_is) at c.requires.found) in
    m.home

pub stands-to-requires-clause-lists : goal.stands-to-requires-clause-lists
stands-to-requires-clause-lists c = lists_there c.self.invariant.standing

pub unwrap-key-requires : goal.unwrap-key-requires
unwrap-key-requires c =
    let m = moving c.self.inside c.args.before.now c.args.after c.self.invariant c.len-known.ensures.apart c.len-known.ensures.within c.requires.goes (rw (← c.self.view_is) at c.requires.found) in
    ap is_some (c.key_of.ensures ∙ key_found m.is c.args.after.number c.requires.goes.number)

pub near-near-requires-clause-line : goal.near-near-requires-clause-line
near-near-requires-clause-line c pending =
    let i = c.self.inside in
    let r = c.args.after in
    let m = moving i c.args.before.now r c.self.invariant c.len-known.ensures.apart c.len-known.ensures.within c.requires.goes (rw (← c.self.view_is) at c.requires.found) in
    let queue = queue_line i.lists.pools i.lists.objects (6 * r.pool.0 + queue_number r.persistent r.priority) r.object.0 r.status pending in
    omega (arith, c.stands-to.ensures.line, queue, m.home.0, queue_most r.persistent r.priority, c.self.invariant.standing.by_line.many)
  where
    queue_line : (pools objects queue object : ℕ) (s : Status) → is_pending s ≡ true → line_by pools objects queue object s ≡ queue
    queue_line pools objects queue object Expected pending = absurd (cc)
    queue_line pools objects queue object Issued pending = absurd (cc)
    queue_line pools objects queue object Pending pending = refl
    queue_line pools objects queue object (Running worker associated slots) pending = absurd (cc)
    queue_line pools objects queue object Returned pending = absurd (cc)
    queue_line pools objects queue object Cancelled pending = absurd (cc)

pub near-near-requires-clause-order : goal.near-near-requires-clause-order
near-near-requires-clause-order c within =
    let m = moving c.self.inside c.args.before.now c.args.after c.self.invariant c.len-known.ensures.apart c.len-known.ensures.within c.requires.goes (rw (← c.self.view_is) at c.requires.found) in
    let same = key_is m.is c.args.after.number c.requires.goes.number c.key_of.result c.unwrap-key.result c.key_of.ensures c.unwrap-key.ensures in
    let may = may_line c.unwrap-key.result c.stands-to.result (λ heads line. line c.args.after) c.self.invariant.standing (of_row c.self.inside.lists c.stands-to.result c.args.after c.stands-to.ensures) c.self.invariant.rising.0 c.self.invariant.rising.1 (omega (arith, same, m.places)) in
    may.order (omega (arith, within, may.many))

pub overflow_sub-self-2 : goal.overflow_sub-self-2
overflow_sub-self-2 c =
    let i = c.self.inside in
    let k = c.self.invariant in
    let b = c.args.before.now in
    let r = c.args.after in
    let m = moving i b r k c.len-known.ensures.apart c.len-known.ensures.within c.requires.goes (rw (← c.self.view_is) at c.requires.found) in
    omega (arith, k.counted, c.operations.ensures, c.operations-2.ensures, length_filter_replaced (λ (x : CallbackRow). is_operating x.status) r b 0 k.rising.0 (rows_of i.rows.held) k.rising.1 m.found)

pub recount-requires-clause-there : goal.recount-requires-clause-there
recount-requires-clause-there c =
    let k = c.self.invariant in
    let b = c.args.before.now in
    omega (arith, k.counted_persistent, c.waiting_persistent-was.ensures.value, count_fewer is_waiting_persistent k.rising.0 b 0 (rows_of c.self.inside.rows.held) k.rising.1 (rw (← c.self.view_is) at c.requires.found))

pub recount-requires-clause-fits : goal.recount-requires-clause-fits
recount-requires-clause-fits c =
    let i = c.self.inside in
    let k = c.self.invariant in
    let b = c.args.before.now in
    let r = c.args.after in
    let m = moving i b r k c.len-known.ensures.apart c.len-known.ensures.within c.requires.goes (rw (← c.self.view_is) at c.requires.found) in
    let after = length_filter_replaced is_waiting_persistent r b 0 k.rising.0 (rows_of i.rows.held) k.rising.1 m.found in
    let most = count_most is_waiting_persistent (replaced r (rows_of i.rows.held)) in
    omega (
      arith,
      k.counted_persistent,
      c.waiting_persistent-was.ensures.value,
      c.waiting_persistent-is.ensures.value,
      after,
      most,
      length_replaced r (rows_of i.rows.held),
      length-map i.rows.held (λ (h : Held). h.row),
      c.len-known.ensures.limited,
      c.len-known.ensures.fits,
    )

pub settle_in_group-requires-clause-line : goal.settle_in_group-requires-clause-line
settle_in_group-requires-clause-line c =
    let m = moving c.self.inside c.args.before.now c.args.after c.self.invariant c.len-known.ensures.apart c.len-known.ensures.within c.requires.goes (rw (← c.self.view_is) at c.requires.found) in
    let same = key_is m.is c.args.after.number c.requires.goes.number c.key_of.result c.unwrap-key.result c.key_of.ensures c.unwrap-key.ensures in
    may_line c.unwrap-key.result c.stands-to.result (λ heads line. line c.args.after) c.self.invariant.standing (of_row c.self.inside.lists c.stands-to.result c.args.after c.stands-to.ensures) c.self.invariant.rising.0 c.self.invariant.rising.1 (omega (arith, same, m.places))

pub settle_in_group-requires-clause-object : goal.settle_in_group-requires-clause-object
settle_in_group-requires-clause-object c =
    let m = moving c.self.inside c.args.before.now c.args.after c.self.invariant c.len-known.ensures.apart c.len-known.ensures.within c.requires.goes (rw (← c.self.view_is) at c.requires.found) in
    let same = key_is m.is c.args.after.number c.requires.goes.number c.key_of.result c.unwrap-key.result c.key_of.ensures c.unwrap-key.ensures in
    may_object c.unwrap-key.result c.stands-to.result (λ heads line. line c.args.after) c.self.invariant.standing (of_row c.self.inside.lists c.stands-to.result c.args.after c.stands-to.ensures) c.self.invariant.rising.0 c.self.invariant.rising.1 (omega (arith, same, m.places))

pub invariant_of-self : goal.invariant_of-self
invariant_of-self c =
    let i = c.self.inside in
    let k = c.self.invariant in
    let b = c.args.before.now in
    let r = c.args.after in
    let hs = i.rows.held in
    let m = moving i b r k c.len-known.ensures.apart c.len-known.ensures.within c.requires.goes (rw (← c.self.view_is) at c.requires.found) in
    let same = key_is m.is r.number c.requires.goes.number c.key_of.result c.unwrap-key.result c.key_of.ensures c.unwrap-key.ensures in
    let done = c.settle_in_group.ensures.settled in
    let number : r.number ≡ m.is.held.row.number = c.requires.goes.number ∙ sym (ap (λ (x : CallbackRow). x.number) m.is.row) in
    let ds = m.is.around.lo ++ record { key = m.is.held.key; row = r } ∷ m.is.around.hi in
    let belongs = of_row i.lists c.stands-to.result r c.stands-to.ensures in
    let groups = marks_put m.is r.number c.requires.goes.number (group_of i.lists.groups) r refl (ap (λ (x : GroupId). if has_list i.lists.groups x.0 then x.0 else i.lists.groups + 1) c.requires.goes.group) in
    let standing = stand_in_group c.unwrap-key.result c.stands-to.result (λ heads line. line r) k.standing belongs ds r.number c.settle_in_group.new.self (λ heads line. rw same (changed heads line hs m.is.held m.is.around r number)) groups done in
    let put = put_among m.is r.number c.requires.goes.number r in
    let rows = rows_put r.number r hs in
    let AtHome : CallbackRow → Type 0 = IsAtHome i.lists.pools i.lists.objects in
    rw c.replace.ensures
    (record {
      rising = (k.rising.0, rw rows (rising_replaced r 0 k.rising.0 (rows_of hs) k.rising.1));
      homes = rw (done.pools, done.objects, rows) (all_map AtHome (λ x. cond (has_number r.number x) r x) (λ x at. elim (has_number r.number x) as (λ y. AtHome (cond y r x)) [ true ↦ m.home | false ↦ at ]) (rows_of hs) k.homes);
      standing = rw put standing;
      counted =
          rw rows
          (omega (
            arith,
            k.counted,
            c.operations.ensures,
            c.operations-2.ensures,
            fewer (is_operating b.status) (is_operating r.status) c.requires.goes.operating,
            length_filter_replaced (λ (x : CallbackRow). is_operating x.status) r b 0 k.rising.0 (rows_of hs) k.rising.1 m.found,
          ));
      counted_persistent =
          rw rows
          (omega (
            arith,
            k.counted_persistent,
            c.recount.ensures,
            c.waiting_persistent-was.ensures.value,
            c.waiting_persistent-is.ensures.value,
            count_fewer is_waiting_persistent k.rising.0 b 0 (rows_of hs) k.rising.1 (rw (← c.self.view_is) at c.requires.found),
            length_filter_replaced is_waiting_persistent r b 0 k.rising.0 (rows_of hs) k.rising.1 m.found,
          ));
    })

pub returns-clause-moved : goal.returns-clause-moved
returns-clause-moved c =
    let i = c.self.inside in
    let rows = rows_put c.args.after.number c.args.after i.rows.held in
    let done = c.settle_in_group.ensures.settled in
    rw (← c.self.view_is, c.replace.ensures, rows, done.pools, done.objects) refl

pub returns-clause-bound : goal.returns-clause-bound
returns-clause-bound c pending operating =
    let i = c.self.inside in
    let b = c.args.before.now in
    let r = c.args.after in
    let to = c.stands-to.ensures in
    let goes = c.requires.goes in
    let m = moving i b r c.self.invariant c.len-known.ensures.apart c.len-known.ensures.within goes (rw (← c.self.view_is) at c.requires.found) in
    let same = key_is m.is r.number goes.number c.key_of.result c.unwrap-key.result c.key_of.ensures c.unwrap-key.ensures in
    let k = c.self.invariant.standing in
    let cost : c.settle_in_group.new.steps ≤ c.near-near.new.steps + 2 =
    c.settle_in_group.ensures.cost
    (record {
      line = to.line ∙ no_line i.lists.pools i.lists.objects (6 * r.pool.0 + queue_number r.persistent r.priority) r.object.0 r.status pending operating;
      object =
          elim (is_tied r) as (λ x. is_tied r ≡ x → (c.stands-to.result.object ≡ i.lists.objects + 1) ⊎ (owner_of i.lists.outstanding c.unwrap-key.result ≡ c.stands-to.result.object)) [
            | true ↦ λ tied.
                let was : object_of i.lists.objects b ≡ b.object.0 = ap (λ x. if x then b.object.0 else i.lists.objects + 1) (goes.outstanding tied) in
                inr
                (ap (owner_of i.lists.outstanding) same
                ∙ owner_is (object_of i.lists.objects) i.rows.held m.is.held m.is.around (object_of i.lists.objects m.is.held.row) refl k.by_object
                ∙ ap (object_of i.lists.objects) m.is.row
                ∙ was
                ∙ sym (ap (λ (o : ObjectId). o.0) goes.object)
                ∙ sym (to.object ∙ ap (λ x. if x then r.object.0 else i.lists.objects + 1) tied))
            | false ↦ λ free. inl (to.object ∙ ap (λ x. if x then r.object.0 else i.lists.objects + 1) free)
          ] refl;
    })
    in
    omega (arith, cost, c.near-near.ensures.still pending)
  where
    no_line : (pools objects queue object : ℕ) (s : Status) → is_pending s ≡ false → is_operating s ≡ false → line_by pools objects queue object s ≡ lines pools objects
    no_line pools objects queue object Expected pending operating = absurd (cc)
    no_line pools objects queue object Issued pending operating = absurd (cc)
    no_line pools objects queue object Pending pending operating = absurd (cc)
    no_line pools objects queue object (Running worker associated slots) pending operating = refl
    no_line pools objects queue object Returned pending operating = refl
    no_line pools objects queue object Cancelled pending operating = refl
