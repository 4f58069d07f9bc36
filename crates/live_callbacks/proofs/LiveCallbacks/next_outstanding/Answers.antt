use Rattle.std.proofs.Common.{◌≡◌, ◌∙◌, ◌+◌, ◌≤◌, ◌==◌, ◌&&◌, ℕ, Bool, true, false, List, Some, if◌then◌else◌, is_some, refl, ap, find, nat_lt, sym, arith}
use Rattle.std.specs.List.{AllByRecursion}
use Rattle.tp_base.specs.declared.rows.CallbackRow.{CallbackRow}
use Rattle.tp_base.specs.declared.rows.WaitTarget.TheVariants.{Object}
use Rattle.tp_model.specs.Counts.{has_number}
use Rattle.tp_model.specs.Support.Sound.{IsRising}
use Rattle.tp_model.specs.Waits.{is_outstanding_for}
use Rattle.tp_model.proofs.Callbacks.{find_numbered}
use Rattle.tp_model.proofs.Lists.{find_all, find_passes}
use Rattle.live_callbacks.specs.Callbacks.{is_tied, outstanding_among}
use Rattle.live_callbacks.specs.Held.{rows_of}
use Rattle.live_callbacks.specs.Lists.{IsAtHome, object_of}
use Rattle.live_callbacks.proofs.Following.{following_held, following_owner, following_row}
use Rattle.live_callbacks.proofs.Found.{filter_same, find_filter}
use Rattle.live_callbacks.proofs.Lines.{outstanding_agree}
use Rattle.live_callbacks.proofs.Standing.{among, key_found, key_is}
use Rattle.live_callbacks.proofs.LiveCallbacks.next_outstanding.Goals as goal

-- what is outstanding is a row, and in the list of its object
record IsOut (pools objects : ℕ) (cs : List CallbackRow) (row : CallbackRow) : Type 0 where
  found : find (has_number row.number) cs ≡ Some row
  own : object_of objects row ≡ row.object.0
  within : row.object.0 ≤ objects

is_out : (above pools objects : ℕ) (cs : List CallbackRow) (row : CallbackRow) → IsRising 0 above cs → AllByRecursion (IsAtHome pools objects) cs → find (λ c. c.number == row.number) (outstanding_among cs row.object) ≡ Some row → IsOut pools objects cs row
is_out above pools objects cs row rising homes found =
    let p = is_outstanding_for (Object row.object) in
    let both = sym (find_filter p (has_number row.number) cs) ∙ found in
    let there = find_numbered (λ c. p c && has_number row.number c) 0 above cs row rising both in
    let tied : is_tied row ≡ true = last (row.object.0 == row.object.0) (is_tied row) (has_number row.number row) (find_passes (λ c. p c && has_number row.number c) row cs both) in
    let home : IsAtHome pools objects row = find_all (IsAtHome pools objects) (has_number row.number) row cs homes there in
    record { found = there; own = ap (λ b. if b then row.object.0 else objects + 1) tied; within = home.1 }
  where
    last : (a b c : Bool) → ((a && b) && c) ≡ true → b ≡ true
    last true true c e = refl
    last true false c e = e
    last false b c e = absurd (cc)

pub unwrap-key-requires : goal.unwrap-key-requires
unwrap-key-requires c =
    let i = c.self.inside in
    let k = c.self.invariant in
    let row = c.args.row.now in
    let out = is_out k.rising.0 i.lists.pools i.lists.objects (rows_of i.rows.held) row k.rising.1 k.homes (rw (← c.self.view_is) at c.requires) in
    let is = among k.rising.0 i.rows.held row k.rising.1 c.len-known.ensures.apart out.found in
    ap is_some (c.key_of.ensures ∙ key_found is row.number refl)

pub after_in-requires : goal.after_in-requires
after_in-requires c =
    let i = c.self.inside in
    let k = c.self.invariant in
    let row = c.args.row.now in
    let out = is_out k.rising.0 i.lists.pools i.lists.objects (rows_of i.rows.held) row k.rising.1 k.homes (rw (← c.self.view_is) at c.requires) in
    let is = among k.rising.0 i.rows.held row k.rising.1 c.len-known.ensures.apart out.found in
    let same = key_is is row.number refl c.key_of.result c.unwrap-key.result c.key_of.ensures c.unwrap-key.ensures in
    omega (arith, following_owner (object_of i.lists.objects) row.object.0 k.standing.by_object c.len-known.ensures.apart is c.unwrap-key.result same out.own (omega (arith, out.within)), out.within, k.standing.by_object.many)

pub lent_under-requires : goal.lent_under-requires
lent_under-requires c =
    let i = c.self.inside in
    let k = c.self.invariant in
    let row = c.args.row.now in
    let out = is_out k.rising.0 i.lists.pools i.lists.objects (rows_of i.rows.held) row k.rising.1 k.homes (rw (← c.self.view_is) at c.requires) in
    let is = among k.rising.0 i.rows.held row k.rising.1 c.len-known.ensures.apart out.found in
    let same = key_is is row.number refl c.key_of.result c.unwrap-key.result c.key_of.ensures c.unwrap-key.ensures in
    following_held (object_of i.lists.objects) row.object.0 k.standing.by_object c.len-known.ensures.apart is c.unwrap-key.result same out.own (omega (arith, out.within)) c.after_in.result c.after_in.ensures

pub returns : goal.returns
returns c =
    let i = c.self.inside in
    let k = c.self.invariant in
    let row = c.args.row.now in
    let out = is_out k.rising.0 i.lists.pools i.lists.objects (rows_of i.rows.held) row k.rising.1 k.homes (rw (← c.self.view_is) at c.requires) in
    let is = among k.rising.0 i.rows.held row k.rising.1 c.len-known.ensures.apart out.found in
    let same = key_is is row.number refl c.key_of.result c.unwrap-key.result c.key_of.ensures c.unwrap-key.ensures in
    rw (← c.self.view_is)
    (c.lent_under.ensures
    ∙ following_row (object_of i.lists.objects) row.object.0 k.standing.by_object c.len-known.ensures.apart is c.unwrap-key.result same out.own (omega (arith, out.within)) c.after_in.result c.after_in.ensures
    ∙ ap (find (λ x. nat_lt row.number x.number)) (filter_same (λ x. object_of i.lists.objects x == row.object.0) (is_outstanding_for (Object row.object)) (rows_of i.rows.held) (outstanding_agree i.lists.objects row.object out.within (rows_of i.rows.held))))
