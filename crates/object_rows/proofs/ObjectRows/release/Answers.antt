use Rattle.std.proofs.Common.{◌≡◌, ◌-◌, true, Some, refl, arith, length-set}
use Rattle.std.proofs.lemmas.Option.{slice_get_read}
use Rattle.tp_model.specs.Counts.{numbered}
use Rattle.tp_model.proofs.Refusals.{numbered_at}
use Rattle.object_rows.proofs.Listed.{membered_released}
use Rattle.object_rows.proofs.Walked.{has_stood}
use Rattle.object_rows.proofs.ObjectRows.release.Goals as goal
use Rattle.object_rows.proofs.ObjectRows.release.Goals.{After-index_mut-row}

-- the row that is read
read : (c : After-index_mut-row) → numbered c.self.inside.objects.items c.args.object.0 ≡ Some c.index_mut-row.result.now
read c =
    let there = has_stood c.self.inside.objects.items c.args.object.0 (rw (← c.self.view_is) at c.requires.made) in
    numbered_at c.self.inside.objects.items c.args.object.0 c.index_mut-row.result.now there.0
    (slice_get_read c.self.inside.objects.items _ (c.args.object.0 - 1) c.index_mut-row.result.now refl (omega (arith, there.0, there.1)) c.index_mut-row.ensures.value)

pub invariant_of-self : goal.invariant_of-self
invariant_of-self c =
    let i = c.self.inside in
    let k = c.self.invariant in
    record {
      fits = k.fits;
      groups_within = k.groups_within;
      groups_reserved = k.groups_reserved;
      objects_within = omega (arith, k.objects_within, length-set i.objects.items (c.args.object.0 - 1) (record c.index_mut-row.result.now { released = true }));
      objects_reserved = k.objects_reserved;
      membered = rw c.unlist_member.ensures.after (membered_released i.group_limit i.object_limit i.objects.items i.members k.membered c.args.object.0 c.index_mut-row.result.now (read (goal.at.invariant_of-self c).After-index_mut-row) c.unlist_member.ensures.owned);
    }

pub returns : goal.returns
returns c = rw (← c.self.view_is) (rw (read (goal.at.returns c).After-index_mut-row) refl)
