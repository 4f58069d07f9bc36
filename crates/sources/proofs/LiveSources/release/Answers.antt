use Rattle.std.proofs.Common.{◌-◌, sym, ◌∙◌}
use Rattle.sources.proofs.Releasing.{none_fires, none_kept, released_fires, released_kept, released_there}
use Rattle.sources.proofs.LiveSources.release.Goals as goal

pub returns-in_err-object : goal.returns-in_err-object
returns-in_err-object c =
    rw c.from_residual.ensures
    (none_fires c.self.inside c.args.self.now c.args.kernel c.next_released.new.self c.self.view_is (sym c.next_released.ensures.released ∙ c.in_err-object.was) c.next_released.ensures.after)

pub unset-requires : goal.unset-requires
unset-requires c = released_there c.self.inside c.args.kernel.0 c.in_ok-object.object c.self.invariant (sym c.next_released.ensures.released ∙ c.in_ok-object.was)

pub invariant_of-self-2 : goal.invariant_of-self-2
invariant_of-self-2 c =
    released_kept c.self.inside c.args.kernel.0 c.in_ok-object.object c.self.invariant (sym c.next_released.ensures.released ∙ c.in_ok-object.was) c.unset.new.self c.next_released.new.self c.next_released.ensures.after c.unset.ensures.after

pub returns : goal.returns
returns c =
    released_fires c.self.inside c.args.self.now c.args.kernel c.in_ok-object.object c.unset.new.self c.next_released.new.self (c.self.inside.armed - 1) c.self.view_is c.self.invariant
    (sym c.next_released.ensures.released ∙ c.in_ok-object.was) c.next_released.ensures.after c.unset.ensures.after

pub invariant_of-self : goal.invariant_of-self
invariant_of-self c =
    none_kept c.self.inside c.args.kernel.0 c.next_released.new.self c.self.invariant (sym c.next_released.ensures.released ∙ c.in_err-object.was) c.next_released.ensures.after
