-- Where a key tells all states apart, states are like each other only if they are the same. So an `impl` gives `IsSame`,
-- `same_itself`, that the key tells apart, and `keeps_itself`.
use Rattle.std.specs.Prelude.{◌≡◌, ℕ}
use Rattle.std.proofs.Common.{refl, subst, sym}
use Rattle.breadth_first.specs.declared.Next.{Next}
use Rattle.breadth_first.specs.declared.Next.TheVariants.{Nowhere, Bad, To}
use Rattle.breadth_first.specs.Rules.{Rules, move_of, HasLike, Keeps}

abbrev pub IsSame : {A S : Type 0} → A → S → S → Type 0
IsSame a s t = s ≡ t

pub same_itself : {A S : Type 0} → (a : A) (s : S) → IsSame a s s
same_itself a s = refl

-- states with one key are the same
abbrev pub TellsApart : {S : Type 0} → Rules S → Type 0
TellsApart {S} r = (s t : S) → r.key s ≡ r.key t → s ≡ t

pub same_kept : {A S : Type 0} (r : A → Rules S) → ((a : A) → TellsApart (r a)) → (a : A) (s t u : S) → IsSame a s t → (r a).key t ≡ (r a).key u → IsSame a s u
same_kept {A} {S} r apart a s t u same keys = subst (λ (x : S). x ≡ u) (sym same) (apart a t u keys)

pub keeps_itself : {A S : Type 0} (r : A → Rules S) (a : A) (s t : S) (by : ℕ) → IsSame a s t → Keeps (r a) (IsSame a) s t by
keeps_itself {A} {S} r a s t by same = subst (λ (x : S). Keeps (r a) (IsSame a) s x by) same (itself (move_of (r a) s by) refl)
  where
    itself : (next : Next S) → move_of (r a) s by ≡ next → HasLike (r a) (IsSame a) s next
    itself Nowhere e = tt
    itself Bad e = (by, e)
    itself (To u) e = (by, u, e, refl)
