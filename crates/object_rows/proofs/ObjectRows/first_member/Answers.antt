use Rattle.std.proofs.Common.{◌∙◌, arith}
use Rattle.object_rows.proofs.Walked.{first_listed, has_stood}
use Rattle.object_rows.proofs.ObjectRows.first_member.Goals as goal

pub returns : goal.returns
returns c =
    let i = c.self.inside in
    let k = c.self.invariant in
    let stood = has_stood i.groups.items c.args.group.0 (rw (← c.self.view_is) at c.requires) in
    rw (← c.self.view_is) (c.first.ensures.value ∙ first_listed i.group_limit i.object_limit i.objects.items i.members c.args.group.0 k.membered (omega (arith, stood.1, k.groups_within)))
