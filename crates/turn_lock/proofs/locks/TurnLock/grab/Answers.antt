use Rattle.std.proofs.Common.{rules, ℕ, ◌≡◌, ◌∷◌, [], sym, subst, arith}
use Rattle.turn_lock.proofs.Keeping.{grabs}
use Rattle.turn_lock.proofs.Seating.{enters, meets, numbered}
use Rattle.turn_lock.specs.Seats.{mine_of}
use Rattle.turn_lock.specs.Views.{part}
use Rattle.turn_lock.proofs.locks.TurnLock.grab.Goals as goal

pub compare_exchange-found-requires : goal.compare_exchange-found-requires
compare_exchange-found-requires g c =
    let seat = c.args.seat.now in
    let idle = c.requires.idle in
    let parts = subst (λ (n : ℕ). seat.raw.me.0.parts ≡ part n (mine_of seat) ∷ []) (sym c.from.ensures) (numbered seat idle.whole c.requires.numbered) in
    (c.requires.of.lock_is, search rules, grabs _ _ _ _ _ (mine_of seat) _ (λ none_there. absurd (omega arith)) idle.whole.there idle.holds parts)

pub returns-then-found-eq0-clause-entered : goal.returns-then-found-eq0-clause-entered
returns-then-found-eq0-clause-entered g c =
    let told = c.compare_exchange-found.ensures in
    enters g.B.Recorded.recording c.args.seat.now c.compare_exchange-found.new.seat told.0 c.requires.idle (told.2.0 c.if-found-eq0.true)

pub returns-else-found-eq0-clause-met : goal.returns-else-found-eq0-clause-met
returns-else-found-eq0-clause-met g c =
    let told = c.compare_exchange-found.ensures in
    meets c.args.seat.now c.compare_exchange-found.new.seat c.compare_exchange-found.result _ c.from.ensures told.0 c.requires.idle (told.2.1 c.if-found-eq0.false)
