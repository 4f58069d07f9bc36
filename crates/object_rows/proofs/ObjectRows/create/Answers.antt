use Rattle.std.proofs.Common.{◌≡◌, ◌+◌, ◌∷◌, [], ap, arith, length, length-append}
use Rattle.object_rows.proofs.Listed.{membered_created}
use Rattle.object_rows.proofs.ObjectRows.create.Goals as goal

pub invariant_of-self : goal.invariant_of-self
invariant_of-self c =
    let i = c.self.inside in
    let k = c.self.invariant in
    let room = rw (← c.self.view_is) at c.requires.room in
    let number : c.len-number.result ≡ length i.objects.items + 1 = omega (arith, c.len-number.ensures, ap length c.push_reserved.ensures.items, length-append i.objects.items (c.args.row ∷ [])) in
    record {
      fits = k.fits;
      groups_within = k.groups_within;
      groups_reserved = k.groups_reserved;
      objects_within = omega (arith, ap length c.push_reserved.ensures.items, length-append i.objects.items (c.args.row ∷ []), room);
      objects_reserved = omega (arith, k.objects_reserved, c.push_reserved.ensures.capacity);
      membered = rw (c.push_reserved.ensures.items, c.list_member.ensures) (membered_created i.group_limit i.object_limit i.objects.items i.members k.membered c.args.row c.requires.unreleased _ number);
    }
