use Rattle.std.proofs.Common.{rules, ap, ◌∷◌, ◌++◌, List, [], refl, sym, ◌∙◌}
use Rattle.turn_lock.proofs.Keeping.{opens}
use Rattle.turn_lock.proofs.locks.TurnLock.new.Goals as goal

pub new-requires : goal.new-requires
new-requires g c =
    opens g.B.Recorded.recording _ _ c.push_reserved.new.self.items c.args.book refl
    (c.push_reserved.ensures.items ∙ ap (λ (l : List g.row.B.Denot). l ++ c.args.book ∷ []) c.in_ok-slots.ensures.items)
    (λ i. record { limits = sym c.limits.ensures.value i; capacity = sym c.capacity.ensures i; history = c.requires.empty i })
    (search rules)
