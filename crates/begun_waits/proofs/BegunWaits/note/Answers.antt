use Rattle.std.proofs.Common.{arith, sym, ◌∙◌}
use Rattle.begun_waits.proofs.Actors.{place_there}
use Rattle.begun_waits.proofs.Keeping.{acts, kept_noted, not_listed}
use Rattle.begun_waits.proofs.BegunWaits.note.Goals as goal

pub unwrap-place-requires : goal.unwrap-place-requires
unwrap-place-requires g c =
    let i = c.self.inside in
    let begun = rw (← c.self.view_is) at c.requires.begun in
    rw c.place_of.ensures (acts i.limits i.purposes.items i.notices i.list.waits i.waiting c.self.invariant c.args.who begun)

pub put-requires-clause-there : goal.put-requires-clause-there
put-requires-clause-there g c = omega (arith, place_there c.self.inside.limits c.args.who c.unwrap-place.result (sym c.place_of.ensures ∙ c.unwrap-place.ensures), c.self.invariant.lists)

pub put-requires-clause-most : goal.put-requires-clause-most
put-requires-clause-most g c =
    let most = rw (← c.self.view_is) at c.requires.most in
    omega (arith, most, c.self.invariant.objects)

pub put-requires-clause-free : goal.put-requires-clause-free
put-requires-clause-free g c =
    let i = c.self.inside in
    let free = rw (← c.self.view_is) at c.requires.free in
    not_listed i.limits i.purposes.items i.notices i.list.waits i.waiting c.self.invariant c.args.object free

pub invariant_of-self : goal.invariant_of-self
invariant_of-self g c =
    let i = c.self.inside in
    let begun = rw (← c.self.view_is) at c.requires.begun in
    rw (c.put.ensures, c.note.ensures) (kept_noted i.limits i.purposes.items i.notices i.list.waits i.waiting c.self.invariant c.args.who c.unwrap-place.result c.args.object (sym c.place_of.ensures ∙ c.unwrap-place.ensures) begun)
