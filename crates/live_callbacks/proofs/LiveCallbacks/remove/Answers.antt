use Rattle.std.proofs.Common.{◌≡◌, ℕ, ◌<◌, Bool, is_some, not, refl, ap, ◌∙◌, arith, subst, ◌==◌, ◌++◌}
use Rattle.tp_base.specs.declared.rows.CallbackRow.{CallbackRow}
use Rattle.tp_model.specs.Counts.{is_operating}
use Rattle.tp_model.proofs.Callbacks.{rising_filter}
use Rattle.tp_model.proofs.Lists.{all_filter, find_all}
use Rattle.live_callbacks.specs.Callbacks.{is_waiting_persistent}
use Rattle.live_callbacks.specs.Held.{Held, rows_of}
use Rattle.live_callbacks.specs.Lists.{IsAtHome, marks}
use Rattle.live_callbacks.proofs.Parts.{left}
use Rattle.live_callbacks.proofs.Settled.{IsStep}
use Rattle.live_callbacks.proofs.Standing.{among, count_fewer, key_found, key_is, lists_there, may_group, may_line, may_object, of_none, out_among, rows_out, stand}
use Rattle.live_callbacks.proofs.LiveCallbacks.remove.Goals as goal

pub unwrap-key-requires : goal.unwrap-key-requires
unwrap-key-requires c =
    let i = c.self.inside in
    let row = c.args.row.now in
    let is = among c.self.invariant.rising.0 i.rows.held row c.self.invariant.rising.1 c.len-known.ensures.apart (rw (← c.self.view_is) at c.requires) in
    ap is_some (c.remove.ensures.key ∙ key_found is row.number refl)

pub overflow_sub-self : goal.overflow_sub-self
overflow_sub-self c =
    let i = c.self.inside in
    let row = c.args.row.now in
    omega (arith, c.self.invariant.counted, c.operations.ensures, count_fewer (λ (x : CallbackRow). is_operating x.status) c.self.invariant.rising.0 row 0 (rows_of i.rows.held) c.self.invariant.rising.1 (rw (← c.self.view_is) at c.requires))

pub recount-requires-clause-there : goal.recount-requires-clause-there
recount-requires-clause-there c =
    let i = c.self.inside in
    let row = c.args.row.now in
    omega (arith, c.self.invariant.counted_persistent, c.waiting_persistent-was.ensures.value, count_fewer is_waiting_persistent c.self.invariant.rising.0 row 0 (rows_of i.rows.held) c.self.invariant.rising.1 (rw (← c.self.view_is) at c.requires))

pub nowhere-to-requires : goal.nowhere-to-requires
nowhere-to-requires c = lists_there c.self.invariant.standing

pub settle-requires-clause-line : goal.settle-requires-clause-line
settle-requires-clause-line c =
    let i = c.self.inside in
    let row = c.args.row.now in
    let is = among c.self.invariant.rising.0 i.rows.held row c.self.invariant.rising.1 c.len-known.ensures.apart (rw (← c.self.view_is) at c.requires) in
    let same = key_is is row.number refl c.remove.result c.unwrap-key.result c.remove.ensures.key c.unwrap-key.ensures in
    let within : is.held.key < i.rows.places = find_all (λ (h : Held). h.key < i.rows.places) (λ (h : Held). h.row.number == row.number) is.held i.rows.held c.len-known.ensures.within is.found in
    may_line c.unwrap-key.result c.nowhere-to.result (λ heads line. heads) c.self.invariant.standing (of_none i.lists c.nowhere-to.result c.nowhere-to.ensures) c.self.invariant.rising.0 c.self.invariant.rising.1 (omega (arith, same, within))

pub settle-requires-clause-object : goal.settle-requires-clause-object
settle-requires-clause-object c =
    let i = c.self.inside in
    let row = c.args.row.now in
    let is = among c.self.invariant.rising.0 i.rows.held row c.self.invariant.rising.1 c.len-known.ensures.apart (rw (← c.self.view_is) at c.requires) in
    let same = key_is is row.number refl c.remove.result c.unwrap-key.result c.remove.ensures.key c.unwrap-key.ensures in
    let within : is.held.key < i.rows.places = find_all (λ (h : Held). h.key < i.rows.places) (λ (h : Held). h.row.number == row.number) is.held i.rows.held c.len-known.ensures.within is.found in
    may_object c.unwrap-key.result c.nowhere-to.result (λ heads line. heads) c.self.invariant.standing (of_none i.lists c.nowhere-to.result c.nowhere-to.ensures) c.self.invariant.rising.0 c.self.invariant.rising.1 (omega (arith, same, within))

pub settle-requires-clause-group : goal.settle-requires-clause-group
settle-requires-clause-group c =
    let i = c.self.inside in
    let row = c.args.row.now in
    let is = among c.self.invariant.rising.0 i.rows.held row c.self.invariant.rising.1 c.len-known.ensures.apart (rw (← c.self.view_is) at c.requires) in
    let same = key_is is row.number refl c.remove.result c.unwrap-key.result c.remove.ensures.key c.unwrap-key.ensures in
    let within : is.held.key < i.rows.places = find_all (λ (h : Held). h.key < i.rows.places) (λ (h : Held). h.row.number == row.number) is.held i.rows.held c.len-known.ensures.within is.found in
    may_group c.unwrap-key.result c.nowhere-to.result (λ heads line. heads) c.self.invariant.standing (of_none i.lists c.nowhere-to.result c.nowhere-to.ensures) c.self.invariant.rising.0 c.self.invariant.rising.1 (omega (arith, same, within))

pub invariant_of-self : goal.invariant_of-self
invariant_of-self c =
    let i = c.self.inside in
    let k = c.self.invariant in
    let row = c.args.row.now in
    let hs = i.rows.held in
    let found = rw (← c.self.view_is) at c.requires in
    let is = among k.rising.0 hs row k.rising.1 c.len-known.ensures.apart found in
    let same = key_is is row.number refl c.remove.result c.unwrap-key.result c.remove.ensures.key c.unwrap-key.ensures in
    let done = c.settle.ensures.settled in
    let number : is.held.row.number ≡ row.number = ap (λ (x : CallbackRow). x.number) is.row in
    let rest = is.around.lo ++ is.around.hi in
    let step : (heads : ℕ) (line : CallbackRow → ℕ) → IsStep heads (marks line hs) (marks line rest) c.unwrap-key.result row.number heads = λ heads line.
    rw same (subst (λ n. IsStep heads (marks line hs) (marks line rest) is.held.key n heads) number (left heads line hs is.held is.around))
    in
    let belongs = of_none i.lists c.nowhere-to.result c.nowhere-to.ensures in
    let standing = stand c.unwrap-key.result c.nowhere-to.result (λ heads line. heads) k.standing belongs rest row.number c.settle.new.self step done in
    let out = out_among is row.number refl in
    let rows = rows_out row.number hs in
    let others : CallbackRow → Bool = λ (x : CallbackRow). not (x.number == row.number) in
    rw c.remove.ensures.after
    (record {
      rising = (k.rising.0, rw rows (rising_filter others 0 k.rising.0 (rows_of hs) k.rising.1));
      homes = rw (done.pools, done.objects, rows) (all_filter (IsAtHome i.lists.pools i.lists.objects) others (rows_of hs) k.homes);
      standing = rw out standing;
      counted = rw rows (omega (arith, k.counted, c.operations.ensures, count_fewer (λ (x : CallbackRow). is_operating x.status) k.rising.0 row 0 (rows_of hs) k.rising.1 found));
      counted_persistent = rw rows (omega (arith, k.counted_persistent, c.recount.ensures, c.waiting_persistent-was.ensures.value, count_fewer is_waiting_persistent k.rising.0 row 0 (rows_of hs) k.rising.1 found));
    })

pub returns : goal.returns
returns c =
    let i = c.self.inside in
    let rows = rows_out c.args.row.now.number i.rows.held in
    let done = c.settle.ensures.settled in
    rw (← c.self.view_is, c.remove.ensures.after, rows, done.pools, done.objects) refl
