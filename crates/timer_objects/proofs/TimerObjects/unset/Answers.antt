use Rattle.std.proofs.Common.{◌+◌, refl, ◌∙◌}
use Rattle.timer_objects.proofs.Kept.{from_1, kept_unset}
use Rattle.timer_objects.proofs.Padding.{there_filled}
use Rattle.timer_objects.proofs.Shown.{shown_set, shown_without}
use Rattle.timer_objects.proofs.TimerObjects.unset.Goals as goal

pub key_of-requires : goal.key_of-requires
key_of-requires c =
    from_1 _ _ _ _ _ c.args.object.0 c.self.invariant (there_filled (c.self.inside.dues.keys + 1) c.self.inside.there.items c.args.object.0 (rw (← c.self.view_is) at c.requires))

pub invariant_of-self : goal.invariant_of-self
invariant_of-self c = kept_unset _ _ _ _ _ c.self.invariant c.key_of.result _ c.unset.ensures.after

pub returns-clause-was : goal.returns-clause-was
returns-clause-was c =
    rw (← c.self.view_is) (c.unset.ensures.was ∙ shown_set c.self.inside.paces.items _ _ _ c.key_of.ensures)

pub returns-clause-after : goal.returns-clause-after
returns-clause-after c =
    let without = shown_without c.self.inside.paces.items c.key_of.result c.args.object c.self.inside.dues.entries c.key_of.ensures in
    rw (← c.self.view_is, c.unset.ensures.after) (rw without refl)
