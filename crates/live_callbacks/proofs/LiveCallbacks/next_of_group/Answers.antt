use Rattle.std.proofs.Common.{◌≡◌, ◌∙◌, ◌+◌, ◌==◌, if◌then◌else◌, is_some, refl, ap, find, nat_lt, sym, arith}
use Rattle.tp_base.specs.declared.rows.CallbackRow.{CallbackRow}
use Rattle.live_callbacks.specs.Held.{rows_of}
use Rattle.live_callbacks.specs.Lists.{group_of}
use Rattle.live_callbacks.proofs.Following.{following_held, following_owner, following_row}
use Rattle.live_callbacks.proofs.Found.{filter_same}
use Rattle.live_callbacks.proofs.Lines.{group_agree, listed_group}
use Rattle.live_callbacks.proofs.Standing.{among, key_found, key_is}
use Rattle.live_callbacks.proofs.LiveCallbacks.next_of_group.Goals as goal

pub unwrap-key-requires : goal.unwrap-key-requires
unwrap-key-requires c =
    let i = c.self.inside in
    let row = c.args.row.now in
    let is = among c.self.invariant.rising.0 i.rows.held row c.self.invariant.rising.1 c.len-known.ensures.apart (rw (← c.self.view_is) at c.requires) in
    ap is_some (c.key_of.ensures ∙ key_found is row.number refl)

pub after_in-requires : goal.after_in-requires
after_in-requires c =
    let i = c.self.inside in
    let row = c.args.row.now in
    let has = sym c.if-not-has_list.ensures in
    let is = among c.self.invariant.rising.0 i.rows.held row c.self.invariant.rising.1 c.len-known.ensures.apart (rw (← c.self.view_is) at c.requires) in
    let same = key_is is row.number refl c.key_of.result c.unwrap-key.result c.key_of.ensures c.unwrap-key.ensures in
    let own : group_of i.lists.groups row ≡ row.group.0 = ap (λ b. if b then row.group.0 else i.lists.groups + 1) has in
    let are = c.self.invariant.standing.in_group in
    let within = listed_group i.lists.groups row.group.0 has in
    omega (arith, following_owner (group_of i.lists.groups) row.group.0 are c.len-known.ensures.apart is c.unwrap-key.result same own within, within, are.many)

pub lent_under-requires : goal.lent_under-requires
lent_under-requires c =
    let i = c.self.inside in
    let row = c.args.row.now in
    let has = sym c.if-not-has_list.ensures in
    let is = among c.self.invariant.rising.0 i.rows.held row c.self.invariant.rising.1 c.len-known.ensures.apart (rw (← c.self.view_is) at c.requires) in
    let same = key_is is row.number refl c.key_of.result c.unwrap-key.result c.key_of.ensures c.unwrap-key.ensures in
    let own : group_of i.lists.groups row ≡ row.group.0 = ap (λ b. if b then row.group.0 else i.lists.groups + 1) has in
    following_held (group_of i.lists.groups) row.group.0 c.self.invariant.standing.in_group c.len-known.ensures.apart is c.unwrap-key.result same own (listed_group i.lists.groups row.group.0 has) c.after_in.result c.after_in.ensures

pub returns : goal.returns
returns c =
    let i = c.self.inside in
    let row = c.args.row.now in
    let has = sym c.if-not-has_list.ensures in
    let is = among c.self.invariant.rising.0 i.rows.held row c.self.invariant.rising.1 c.len-known.ensures.apart (rw (← c.self.view_is) at c.requires) in
    let same = key_is is row.number refl c.key_of.result c.unwrap-key.result c.key_of.ensures c.unwrap-key.ensures in
    let own : group_of i.lists.groups row ≡ row.group.0 = ap (λ b. if b then row.group.0 else i.lists.groups + 1) has in
    rw (← c.self.view_is)
    (c.lent_under.ensures
    ∙ following_row (group_of i.lists.groups) row.group.0 c.self.invariant.standing.in_group c.len-known.ensures.apart is c.unwrap-key.result same own (listed_group i.lists.groups row.group.0 has) c.after_in.result c.after_in.ensures
    ∙ ap (find (λ x. nat_lt row.number x.number)) (filter_same (λ x. group_of i.lists.groups x == row.group.0) (λ (x : CallbackRow). x.group.0 == row.group.0) (rows_of i.rows.held) (group_agree i.lists.groups row.group.0 has (rows_of i.rows.held))))
