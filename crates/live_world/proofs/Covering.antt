-- Things by rising keys are gone along, and the keys of those that pass a test are listed.
use Rattle.std.proofs.Common.{◌≡◌, ℕ, ◌<◌, Bool, true, false, cond, List, [], ◌∷◌, ◌++◌, length, map, slice_get, slice_set, nat_lt, None, Option, Some, refl, sym, ap, ◌∙◌, subst, arith, filter, find, append_assoc, length-append, get_or-set_same}
use Rattle.begun_waits.specs.Covers.{Covering, listed_of, with_cover}
use Rattle.live_world.proofs.Lists.{set_twice}
use Rattle.live_world.proofs.Walks.{IsAmong, Onward, Rises, first_among, onward, rest, rest_first}

module _ {X : Type 0} (key : X → ℕ) (q : X → Bool) (xs : List X) (before : Covering) (place : ℕ) where
  -- so far those are listed that pass and are not left
  pub record Listing (now : Covering) (next : Option X) : Type 0 where
    pub so_far : List ℕ
    pub lists : now ≡ with_cover before place None so_far
    pub all : so_far ++ map key (filter q (rest key xs next)) ≡ map key (filter q xs)
    pub among : IsAmong key xs next

  -- the next is listed, if it passes
  pub record Listed (now : Covering) (x : X) (next : Option X) : Type 0 where
    pub at : Onward key xs x next
    pub few : place < length before.listed → q x ≡ true → length (listed_of now place) < length (map key (filter q xs))
    pub listed : q x ≡ true → place < length before.listed → (new : Covering) → new ≡ record now { listed = slice_set now.listed place (listed_of now place ++ key x ∷ []) } → (after : Option X) → after ≡ find (λ y. nat_lt (key x) (key y)) xs → Listing new after
    pub passed : q x ≡ false → (after : Option X) → after ≡ find (λ y. nat_lt (key x) (key y)) xs → Listing now after

  module _ (low : ℕ) (rises : Rises key low xs) (now : Covering) (next : Option X) where
    pub listing : now ≡ with_cover before place None [] → next ≡ slice_get xs 0 → Listing now next
    listing begun is =
        record {
          so_far = [];
          lists = begun;
          all = ap (λ o. map key (filter q (rest key xs o))) is ∙ ap (λ ys. map key (filter q ys)) (rest_first key low xs rises);
          among = subst (IsAmong key xs) (sym is) (first_among key xs);
        }

    pub lists_next : (x : X) → next ≡ Some x → Listing now next → Listed now x next
    lists_next x is k =
        record {
          at = at;
          few = λ within passes.
              let split : length (k.so_far ++ key x ∷ left behind) ≡ length (map key (filter q xs)) = ap length (whole true passes behind refl) in
              omega (arith, ap length (had within), split, length-append k.so_far (key x ∷ left behind));
          listed = λ passes within new becomes after found.
              record {
                so_far = k.so_far ++ key x ∷ [];
                lists = becomes ∙ ap (λ ns. record now { listed = slice_set now.listed place (ns ++ key x ∷ []) }) (had within)
                    ∙ ap (λ (c : Covering). record c { listed = slice_set c.listed place (k.so_far ++ key x ∷ []) }) k.lists
                    ∙ ap (λ ls. record before { bounds = slice_set before.bounds place None; listed = ls }) (set_twice before.listed place k.so_far (k.so_far ++ key x ∷ []));
                all = append_assoc k.so_far (key x ∷ []) (left after) ∙ whole true passes after found;
                among = at.among after found;
              };
          passed = λ fails after found. record { so_far = k.so_far; lists = k.lists; all = whole false fails after found; among = at.among after found };
        }
      where
        at : Onward key xs x next
        at = onward key low xs x next rises is k.among

        behind : Option X
        behind = find (λ y. nat_lt (key x) (key y)) xs

        left : Option X → List ℕ
        left o = map key (filter q (rest key xs o))

        had : place < length before.listed → listed_of now place ≡ k.so_far
        had within = ap (λ (c : Covering). listed_of c place) k.lists ∙ get_or-set_same before.listed place k.so_far [] within

        whole : (b : Bool) → q x ≡ b → (after : Option X) → after ≡ behind → k.so_far ++ map key (cond b (x ∷ filter q (rest key xs after)) (filter q (rest key xs after))) ≡ map key (filter q xs)
        whole b e after found = ap (λ y. k.so_far ++ map key (cond y (x ∷ filter q (rest key xs after)) (filter q (rest key xs after)))) (sym e) ∙ ap (λ ys. k.so_far ++ map key (filter q ys)) (sym (at.step after found)) ∙ k.all
