use Rattle.std.proofs.Common.{◌≡◌, ℕ, List, [], get_or, map, refl, sym, ap, arith, ◌∙◌}
use Rattle.std.proofs.lemmas.List.{get_or-map, map-set}
use Rattle.std.specs.Global.{Vec}
use Rattle.begun_waits.proofs.covers.Covers.list.Goals as goal

pub returns : goal.returns
returns c =
    let items : Vec ℕ → List ℕ = λ v. v.items in
    let lists = c.self.inside.listed.items in
    let before = c.index_mut.result.now in
    let within = rw (← c.self.view_is) at c.requires.place in
    let had : get_or (map items lists) c.args.place [] ≡ before.items = get_or-map items lists c.args.place before [] (omega (arith, within, c.self.invariant.many)) ∙ ap items (sym c.index_mut.ensures.value) in
    rw (← c.self.view_is, map-set items lists c.args.place c.push_reserved.new.self, c.push_reserved.ensures.items, had) refl
