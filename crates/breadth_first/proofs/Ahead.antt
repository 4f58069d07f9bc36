-- What is ahead of the states that were gone through: all that comes of their moves.
use Rattle.std.proofs.Common.{◌≡◌, ◌≢◌, ℕ, ◌+◌, ◌<◌, ◌≤◌, List, [], ◌∷◌, Some, fold, length, slice_get, subst, inl, arith}
use Rattle.breadth_first.specs.declared.Next.{Next}
use Rattle.breadth_first.specs.declared.Next.TheVariants.{Nowhere, Bad, To}
use Rattle.breadth_first.specs.Rules.{Rules, move_of, goes_on, comes_to, HasLike, Keeps}
use Rattle.breadth_first.specs.Searched.{Met, AreMet, IsLedTo}

-- from nowhere no moves come to what is bad
nowhere_ahead : {S : Type 0} (r : Rules S) (moves : List ℕ) → fold (goes_on r) Nowhere moves ≢ Bad
nowhere_ahead r [] h = cc
nowhere_ahead r (by ∷ moves) h = nowhere_ahead r moves h

module _ {S : Type 0} (r : Rules S) (like : S → S → Type 0)
    (itself : (s : S) → like s s)
    (kept : (s t u : S) → like s t → r.key t ≡ r.key u → like s u)
    (keeps : (s t : S) (by : ℕ) → like s t → Keeps r like s t by) where
  -- each state that was met by fewer moves than these was gone through
  abbrev pub AreGone : List (Met S) → ℕ → ℕ → Type 0
  AreGone mets at limit = (i : ℕ) (m : Met S) → slice_get mets i ≡ Some m → length m.path < limit → i < at

  module _ (mets : List (Met S)) (at by limit : ℕ) (are : AreMet r mets at by) (gone : AreGone mets at limit) where
    ahead : (moves : List ℕ) (s : S) (i : ℕ) (m : Met S) (depth : ℕ) → slice_get mets i ≡ Some m → like s m.state → length m.path ≤ depth → depth + length moves ≤ limit → fold (goes_on r) (To s) moves ≢ Bad
    ahead [] s i m depth here alike deep within h = cc
    ahead (move ∷ moves) s i m depth here alike deep within h =
        along (λ u j n k a d. ahead moves u j n (depth + 1) k a d (omega arith)) (move_of r s move) (keeps s m.state move alike) h
      where
        led : (other : ℕ) → IsLedTo r mets (length m.path + 1) (move_of r m.state other)
        led other = are.made i other m (inl (gone i m here (omega arith))) here

        along : ((u : S) (j : ℕ) (n : Met S) → slice_get mets j ≡ Some n → like u n.state → length n.path ≤ depth + 1 → fold (goes_on r) (To u) moves ≢ Bad)
            → (next : Next S) → HasLike r like m.state next → fold (goes_on r) next moves ≡ Bad → ⊥
        along on Nowhere has h = nowhere_ahead r moves h
        along on Bad has h = subst (IsLedTo r mets (length m.path + 1)) has.1 (led has.0)
        along on (To u) has h =
            let to = subst (IsLedTo r mets (length m.path + 1)) has.2 (led has.0) in
            on u to.0 to.1 to.2 (kept u has.1 to.1.state has.3 to.3) (omega (arith, to.4)) h

    -- so few moves don't come to what is bad
    pub none_bad : (moves : List ℕ) → length moves ≤ limit → comes_to r moves ≢ Bad
    none_bad moves within h = ahead moves r.first 0 (record { state = r.first; path = [] }) 0 are.begun (itself r.first) (omega arith) (omega arith) h
