use Rattle.std.proofs.Common.{◌≡◌, [], ◌∷◌, refl, ap, ◌∙◌, arith}
use Rattle.breadth_first.proofs.Held.{held_first}
use Rattle.breadth_first.proofs.Steps.{met_first}
use Rattle.breadth_first.proofs.searching.begin.Goals as goal

pub returns : goal.returns
returns g c =
    let r = g.S.System.rules c.args.system.now in
    let first = c.in_ok-first.ensures in
    let is_key : c.in_ok-key.key.items ≡ r.key r.first = c.in_ok-key.ensures ∙ ap r.key first in
    record {
      mets = record { state = r.first; path = [] } ∷ [];
      of = record {
        limit = refl;
        within = omega arith;
        held = rw (c.in_ok-insert.ensures.entries, c.new-origins.ensures.empty) (held_first r c.in_ok-key.key is_key);
        queue = rw (c.in_ok-push_back.ensures.items, c.new-waiting.ensures.items) refl;
      };
      are = met_first r;
    }
