use Rattle.std.proofs.Common.{◌+◌, arith}
use Rattle.plain_worlds.proofs.Kept.{set_few}
use Rattle.plain_worlds.proofs.PlainWorld.rows.Goals as goal

pub returns-clause-workers : goal.returns-clause-workers
returns-clause-workers c = let k = c.self.invariant.within in omega (arith, k.workers, k.limits.workers_most)

pub returns-clause-pools : goal.returns-clause-pools
returns-clause-pools c = let k = c.self.invariant.within in omega (arith, k.pools, k.limits.pools_most)

pub returns-clause-groups : goal.returns-clause-groups
returns-clause-groups c = let k = c.self.invariant.within in omega (arith, k.groups, k.limits.groups_most)

pub returns-clause-objects : goal.returns-clause-objects
returns-clause-objects c = let k = c.self.invariant.within in omega (arith, k.objects, k.limits.objects_most)

pub returns-clause-kernels : goal.returns-clause-kernels
returns-clause-kernels c = let k = c.self.invariant.within in omega (arith, k.kernels, k.limits.kernels_most)

pub returns-clause-callbacks : goal.returns-clause-callbacks
returns-clause-callbacks c = let k = c.self.invariant.within in omega (arith, k.slots, k.limits.slots_most)

pub returns-clause-armings : goal.returns-clause-armings
returns-clause-armings c = let k = c.self.invariant.within in omega (arith, k.slots, k.limits.slots_most)

pub returns-clause-settings : goal.returns-clause-settings
returns-clause-settings c =
    let r = c.self.invariant in
    omega (arith, set_few (c.self.inside.made + 1) c.self.inside.rows r.sound r.once, r.within.objects, r.within.limits.objects_most)

pub returns-clause-armed : goal.returns-clause-armed
returns-clause-armed c = c.self.invariant.once.armed

pub returns-clause-clock : goal.returns-clause-clock
returns-clause-clock c = c.self.invariant.sound.clock
