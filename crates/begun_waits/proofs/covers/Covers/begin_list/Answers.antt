use Rattle.std.proofs.Common.{ℕ, refl}
use Rattle.std.proofs.lemmas.List.{map-set}
use Rattle.std.specs.Global.{Vec}
use Rattle.begun_waits.proofs.covers.Covers.begin_list.Goals as goal

pub returns : goal.returns
returns c = rw (← c.self.view_is, map-set (λ (v : Vec ℕ). v.items) c.self.inside.listed.items c.args.place c.clear.new.self, c.clear.ensures.items) refl
