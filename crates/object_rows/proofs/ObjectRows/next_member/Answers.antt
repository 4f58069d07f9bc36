use Rattle.std.proofs.Common.{◌∙◌, arith}
use Rattle.object_rows.proofs.Walked.{has_stood, next_listed, owner_listed}
use Rattle.object_rows.proofs.ObjectRows.next_member.Goals as goal

pub after-requires : goal.after-requires
after-requires c =
    let i = c.self.inside in
    let k = c.self.invariant in
    let stood = has_stood i.groups.items c.args.group.0 (rw (← c.self.view_is) at c.requires.made) in
    let owner = owner_listed i.group_limit i.object_limit i.objects.items i.members c.args.group.0 k.membered (omega (arith, stood.1, k.groups_within)) c.args.member (rw (← c.self.view_is) at c.requires.member) c.owner-group.ensures.owned in
    omega (arith, owner, stood.1, k.groups_within, k.membered.lists)

pub returns : goal.returns
returns c =
    let i = c.self.inside in
    let k = c.self.invariant in
    let stood = has_stood i.groups.items c.args.group.0 (rw (← c.self.view_is) at c.requires.made) in
    rw (← c.self.view_is) (c.after.ensures.value ∙ next_listed i.group_limit i.object_limit i.objects.items i.members c.args.group.0 k.membered (omega (arith, stood.1, k.groups_within)) c.args.member (rw (← c.self.view_is) at c.requires.member) c.owner-group.ensures.owned)
