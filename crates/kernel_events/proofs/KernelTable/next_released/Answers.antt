use Rattle.std.proofs.Common.{◌≤◌, length, length-set}
use Rattle.std.proofs.lemmas.List.Elements.{All-filter}
use Rattle.kernel_events.proofs.KernelTable.next_released.Goals as goal

pub invariant_of-self : goal.invariant_of-self
invariant_of-self c =
    let least = All-filter _ (λ a. 1 ≤ a.kernel.0) c.self.inside.armings.armed c.self.invariant.armed_least in
    let most = All-filter _ (λ a. a.kernel.0 ≤ length c.self.inside.rows.items) c.self.inside.armings.armed c.self.invariant.armed_most in
    record {
      limited = rw length-set c.self.invariant.limited;
      reserved = c.self.invariant.reserved;
      fits = c.self.invariant.fits;
      kernels = rw c.disarm.ensures.after c.self.invariant.kernels;
      armed_least = rw c.disarm.ensures.after least;
      armed_most = rw (c.disarm.ensures.after, length-set) most;
    }
