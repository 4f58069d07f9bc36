-- The seats of a new pool.
use Rattle.std.proofs.Common.{◌≡◌, ℕ, zero, suc, ◌+◌, ◌-◌, ◌<◌, ◌≤◌, List, [], ◌∷◌, length, get_or, All, Any, refl, sym, ap, ◌∙◌, arith}
use Rattle.turn_lock.specs.declared.locks.TurnLock.{TurnLock}
use Rattle.turn_lock.specs.declared.seats.Seat.{Seat}
use Rattle.turn_lock.specs.Locks.{setup_of, AreDealt}
use Rattle.turn_lock.specs.Seats.{number_of}
use Rattle.shared_pool.specs.declared.pool.SharedPool.{SharedPool}
use Rattle.shared_pool.specs.Pools.{lock_in, IsPlayer}

module _ {B : Type 0} where
  the_one_at : (seats : List (Seat B)) (k : ℕ) → k < length seats → (x : Seat B) × ((d : Seat B) → get_or seats k d ≡ x)
  the_one_at [] k inside = absurd (omega arith)
  the_one_at (x ∷ seats) zero inside = (x, λ d. refl)
  the_one_at (x ∷ seats) (suc k) inside = the_one_at seats k (omega arith)

  pub players : (pool : SharedPool B) (seats : List (Seat B)) → AreDealt (lock_in pool) seats → All (IsPlayer pool) seats
  players pool seats dealt k d inside =
      let new = dealt.each k d inside in
      record { of = record { lock_is = new.lock_is; setup_is = new.setup_is }; idle = new.idle; numbered = let is : number_of (get_or seats k d) ≡ k + 1 = new.number_is in omega arith }

  pub have_all : (lock : TurnLock B) (seats : List (Seat B)) → AreDealt lock seats → (number : ℕ) → 1 ≤ number → number ≤ (setup_of lock).seats → Any (λ (seat : Seat B). number_of seat ≡ number) seats
  have_all lock seats dealt number least most =
      let k : ℕ = number - 1 in
      let inside : k < length seats = omega (arith, dealt.count) in
      let one = the_one_at seats k inside in
      let new = dealt.each k one.0 inside in
      let is : number_of one.0 ≡ number = ap number_of (sym (one.1 one.0)) ∙ (new.number_is ∙ (omega arith)) in
      (k, one.0, inside, one.1 one.0, is)
