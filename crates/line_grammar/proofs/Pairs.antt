-- Reading one part, and then what follows it.
use Rattle.std.proofs.Common.{◌≡◌, ℕ, ◌+◌, List, [], ◌∷◌, ◌++◌, take, drop, refl, sym, ap, ◌∙◌, subst, append_assoc, arith, length-drop}
use Rattle.std.proofs.lemmas.List.{append-nil, take-append-drop, drop-drop}
use Rattle.std.proofs.Math.Seq.{take-add}
use Rattle.line_grammar.specs.Language.{Stops, Reaches, AnyOf, IsReadTo, IsStuck}
use Rattle.line_grammar.specs.Parts.{IsPair, Pairs, Opens, IsPart, IsTail}
use Rattle.line_grammar.proofs.Cuts.{Cut, cut, further, nearer, same}

-- the first element of t, if any, is that of s
abbrev pub GoesAlong : {A : Type 0} → List A → List A → Type 0
GoesAlong [] s = Unit {0}
GoesAlong (x ∷ t) [] = ⊥
GoesAlong (x ∷ t) (y ∷ s) = x ≡ y

pub along_itself : {A : Type 0} (t : List A) → GoesAlong t t
along_itself [] = tt
along_itself (x ∷ t) = refl

pub along_front : {A : Type 0} (front rest : List A) → GoesAlong front (front ++ rest)
along_front [] rest = tt
along_front (x ∷ front) rest = refl

-- what goes on from the front and the next element
pub along_next : {A : Type 0} (front : List A) (x : A) (rest more : List A) → GoesAlong ((front ++ x ∷ []) ++ more) (front ++ x ∷ rest)
along_next [] x rest more = refl
along_next (y ∷ front) x rest more = refl

pub one_then : {A : Type 0} (front : List A) (x : A) (m : List A) → (front ++ x ∷ []) ++ m ≡ front ++ x ∷ m
one_then front x m = append_assoc front (x ∷ []) m

pub stopped : {A : Type 0} (L : List A → Type 0) (front rest : List A) → Stops L front rest
    → (t : List A) → GoesAlong t rest → (x : A) (m c : List A) → t ≡ x ∷ c → L (front ++ x ∷ m) → ⊥
stopped L front rest stops [] along x m c e l = let no_such : ⊥ = cc in no_such
stopped L front [] stops (z ∷ t) along x m c e l = along
stopped {A} L front (y ∷ s) stops (z ∷ t) along x m c e l =
    let heads : x ≡ y = cc in
    let at_y : L (front ++ y ∷ m) = subst (λ k. L (front ++ k ∷ m)) heads l in
    stops (m, subst L (sym (one_then front y m)) at_y)

take_both : {A : Type 0} (n m : ℕ) (s : List A) → take (n + m) s ≡ take n s ++ take m (drop n s)
take_both n m s = take-add n m s

module _ {V U A : Type 0} (separator : A) (P : V → List A → Type 0) (R : V → U → List A → Type 0)
    (part : IsPart separator P) (tail : (v : V) → IsTail separator (R v)) where
  -- behind a part that was read, a text that goes along with what follows begins with the very part
  at_cut : (front rest : List A) (v : V) → P v front → Stops (AnyOf P) front rest
      → (t : List A) → GoesAlong t rest → (w : V) (u : U) (f b : List A) → P w f → R w u b
      → Cut front t f b → (f ≡ front) × (b ≡ t)
  at_cut front rest v p stops t along w u f b q r (further x m e g) =
      let opened : Opens separator (x ∷ m ++ t) = subst (λ l. Opens separator l) g ((tail w).opens u b r) in
      let again : P v (f ++ x ∷ m) = subst (λ l. P v l) e p in
      absurd (part.apart w v f m q (subst (λ y. P v (f ++ y ∷ m)) opened again))
  at_cut front rest v p stops t along w u f b q r (nearer x m e g) =
      absurd (stopped (AnyOf P) front rest stops t along x m (m ++ b) g (w, subst (λ l. P w l) e q))
  at_cut front rest v p stops t along w u f b q r (same e g) = (sym e, sym g)

  -- behind a front that is no part, no text goes along with what follows
  no_cut : (front rest : List A) → Reaches (AnyOf P) front rest → (AnyOf P front → ⊥)
      → (t : List A) → GoesAlong t rest → (w : V) (u : U) (f b : List A) → P w f → R w u b
      → Cut front t f b → ⊥
  no_cut front rest reach none t along w u f b q r (further x m e g) =
      let opened : x ≡ separator = subst (λ l. Opens separator l) g ((tail w).opens u b r) in
      let more = reach.begins in
      let again : P more.1.0 ((f ++ x ∷ m) ++ more.0) = subst (λ l. P more.1.0 (l ++ more.0)) e more.1.1 in
      let regrouped : P more.1.0 (f ++ x ∷ (m ++ more.0)) = subst (λ l. P more.1.0 l) (append_assoc f (x ∷ m) more.0) again in
      part.apart w more.1.0 f (m ++ more.0) q (subst (λ y. P more.1.0 (f ++ y ∷ (m ++ more.0))) opened regrouped)
  no_cut front rest reach none t along w u f b q r (nearer x m e g) =
      stopped (AnyOf P) front rest reach.stops t along x m (m ++ b) g (w, subst (λ l. P w l) e q)
  no_cut front rest reach none t along w u f b q r (same e g) =
      none (w, subst (λ l. P w l) (sym e) q)

  -- the same for the text of a pair
  pair_at : (front rest : List A) (v : V) → P v front → Stops (AnyOf P) front rest
      → (t : List A) → GoesAlong t rest → (w : V) (u : U) → IsPair P R w u (front ++ t) → R v u t
  pair_at front rest v p stops t along w u pair =
      let ends = at_cut front rest v p stops t along w u pair.front pair.back pair.first pair.second
      (cut front t pair.front pair.back pair.split) in
      let first : P w front = subst (λ l. P w l) ends.0 pair.first in
      let second : R w u t = subst (λ l. R w u l) ends.1 pair.second in
      subst (λ y. R y u t) (part.unique w v front first p) second

  no_pair : (front rest : List A) → Reaches (AnyOf P) front rest → (AnyOf P front → ⊥)
      → (t : List A) → GoesAlong t rest → AnyOf (Pairs P R) (front ++ t) → ⊥
  no_pair front rest reach none t along ((w, u), pair) =
      no_cut front rest reach none t along w u pair.front pair.back pair.first pair.second
      (cut front t pair.front pair.back pair.split)

  -- the place where the first part is stuck
  reaches_first : (front rest : List A) → Reaches (AnyOf P) front rest → (AnyOf P front → ⊥) → Reaches (AnyOf (Pairs P R)) front rest
  reaches_first front rest reach none = record {
    begins = let more = reach.begins in let end = (tail more.1.0).some in
        (more.0 ++ end.1, ((more.1.0, end.0), record { front = front ++ more.0; back = end.1; split = sym (append_assoc front more.0 end.1); first = more.1.1; second = end.2 }));
    stops = stops_first rest reach.stops (λ t along pair. no_pair front rest reach none t along pair);
  }
    where
      stops_first : (rest : List A) → Stops (AnyOf P) front rest → ((t : List A) → GoesAlong t rest → AnyOf (Pairs P R) (front ++ t) → ⊥) → Stops (AnyOf (Pairs P R)) front rest
      stops_first [] s h = tt
      stops_first (x ∷ rest) s h = λ (more, pair). h (x ∷ more) refl (subst (AnyOf (Pairs P R)) (one_then front x more) pair)

  stops_second : (front middle rest : List A) (v : V) → P v front → Stops (AnyOf P) front (middle ++ rest)
      → Stops (AnyOf (R v)) middle rest → Stops (AnyOf (Pairs P R)) (front ++ middle) rest
  stops_second front middle [] v p s h = tt
  stops_second front middle (x ∷ rest) v p s h = λ (more, ((w, u), pair)).
      let regrouped : ((front ++ middle) ++ x ∷ []) ++ more ≡ front ++ ((middle ++ x ∷ []) ++ more) =
      ap (λ l. l ++ more) (append_assoc front middle (x ∷ [])) ∙ append_assoc front (middle ++ x ∷ []) more in
      h (
        more,
        (
          u,
          pair_at front (middle ++ x ∷ rest) v p s ((middle ++ x ∷ []) ++ more) (along_next middle x rest more) w u
              (subst (λ l. IsPair P R w u l) regrouped pair),
        ),
      )

  pub pairs_read : (s : List A) (v : V) (n : ℕ) → IsReadTo P s v n → (u : U) (m : ℕ) → IsReadTo (R v) (drop n s) u m → IsReadTo (Pairs P R) s (v, u) (n + m)
  pairs_read s v n first u m second =
      let fronts = take_both n m s in
      record {
        within = omega (arith, first.within, second.within, length-drop n s);
        text_of = record { front = take n s; back = take m (drop n s); split = fronts; first = first.text_of; second = second.text_of };
        stops = let rest : drop m (drop n s) ≡ drop (n + m) s = drop-drop m n s in
            subst (λ l. Stops (AnyOf (Pairs P R)) l (drop (n + m) s)) (sym fronts)
            (subst (λ l. Stops (AnyOf (Pairs P R)) (take n s ++ take m (drop n s)) l) rest
            (stops_second (take n s) (take m (drop n s)) (drop m (drop n s)) v first.text_of
            (subst (λ l. Stops (AnyOf P) (take n s) l) (sym (take-append-drop m (drop n s))) first.stops) second.stops));
      }

  pub pairs_stuck_first : (s : List A) (k : ℕ) → IsStuck P s k → IsStuck (Pairs P R) s k
  pairs_stuck_first s k stuck = record {
    within = stuck.within;
    absent = λ pair. no_pair (take k s) (drop k s) stuck.reaches stuck.absent [] tt
        (subst (λ l. AnyOf (Pairs P R) l) (sym (append-nil (take k s))) pair);
    reaches = reaches_first (take k s) (drop k s) stuck.reaches stuck.absent;
  }

  pub pairs_stuck_second : (s : List A) (v : V) (n : ℕ) → IsReadTo P s v n → (k : ℕ) → IsStuck (R v) (drop n s) k → IsStuck (Pairs P R) s (n + k)
  pairs_stuck_second s v n first k stuck =
      let fronts = take_both n k s in
      let rest : drop k (drop n s) ≡ drop (n + k) s = drop-drop k n s in
      let whole = sym (take-append-drop k (drop n s)) in
      let stops_here : Stops (AnyOf P) (take n s) (take k (drop n s) ++ drop k (drop n s)) = subst (λ l. Stops (AnyOf P) (take n s) l) whole first.stops in
      record {
        within = omega (arith, first.within, stuck.within, length-drop n s);
        absent = λ ((w, u), pair). stuck.absent (
          u,
          pair_at (take n s) (take k (drop n s) ++ drop k (drop n s)) v first.text_of stops_here (take k (drop n s))
              (along_front (take k (drop n s)) (drop k (drop n s))) w u (subst (λ l. IsPair P R w u l) fronts pair),
        );
        reaches = record {
          begins = let more = stuck.reaches.begins in
              (more.0, ((v, more.1.0), record { front = take n s; back = take k (drop n s) ++ more.0; split = ap (λ l. l ++ more.0) fronts ∙ append_assoc (take n s) (take k (drop n s)) more.0; first = first.text_of; second = more.1.1 }));
          stops = subst (λ l. Stops (AnyOf (Pairs P R)) l (drop (n + k) s)) (sym fronts)
              (subst (λ l. Stops (AnyOf (Pairs P R)) (take n s ++ take k (drop n s)) l) rest
              (stops_second (take n s) (take k (drop n s)) (drop k (drop n s)) v first.text_of stops_here stuck.reaches.stops));
        };
      }

  -- a part stops where the separator comes, or nothing
  pub stops_at_separator : (v : V) (front : List A) → P v front → (rest : List A) → Opens separator rest → Stops (AnyOf P) front rest
  stops_at_separator v front p [] opened = tt
  stops_at_separator v front p (x ∷ rest) opened = λ (more, (w, q)).
      part.apart v w front more p (subst (λ y. P w (front ++ y ∷ more)) opened (subst (λ l. P w l) (one_then front x more) q))

  opens_behind : (text more : List A) → Opens separator text → Opens separator (text ++ separator ∷ more)
  opens_behind [] more opened = refl
  opens_behind (x ∷ text) more opened = opened

  opens_then : (text more : List A) → Opens separator text → Opens separator more → Opens separator (text ++ more)
  opens_then [] more opened behind = behind
  opens_then (x ∷ text) more opened behind = opened

  -- of two pairs of which one has more behind it, the first parts are one
  pub pair_same : (v : V) (u : U) (w : V) (x : U) (text more : List A) → Opens separator more → (a : IsPair P R v u text) → IsPair P R w x (text ++ more)
      → (w ≡ v) × R v x (a.back ++ more)
  pair_same v u w x text more behind a b =
      let after = a.back ++ more in
      let stops = stops_at_separator v a.front a.first after (opens_then a.back more ((tail v).opens u a.back a.second) behind) in
      let whole : text ++ more ≡ a.front ++ after = ap (λ l. l ++ more) a.split ∙ append_assoc a.front a.back more in
      let here : IsPair P R w x (a.front ++ after) = subst (λ l. IsPair P R w x l) whole b in
      let ends = at_cut a.front after v a.first stops after (along_itself after) w x here.front here.back here.first here.second
      (cut a.front after here.front here.back here.split) in
      (part.unique w v a.front (subst (λ l. P w l) ends.0 here.first) a.first, pair_at a.front after v a.first stops after (along_itself after) w x here)

  -- a pair is a part again
  pub pairs_part : ((v : V) → IsPart separator (R v)) → IsPart separator (Pairs P R)
  pairs_part parts = record {
    unique = λ (v, u) (w, x) text a b.
        let opened = (tail v).opens u a.back a.second in
        let here : IsPair P R w x (a.front ++ a.back) = subst (λ l. IsPair P R w x l) a.split b in
        let second : R v x a.back = pair_at a.front a.back v a.first (stops_at_separator v a.front a.first a.back opened) a.back (along_itself a.back) w x here in
        let ends = at_cut a.front a.back v a.first (stops_at_separator v a.front a.first a.back opened) a.back (along_itself a.back) w x b.front b.back b.first b.second
        (cut a.front a.back b.front b.back (sym a.split ∙ b.split)) in
        let values : w ≡ v = part.unique w v a.front (subst (λ l. P w l) ends.0 b.first) a.first in
        let others : u ≡ x = (parts v).unique u x a.back a.second second in
        let pairs : (v, u) ≡ (w, x) = cc in
        pairs;
    apart = λ (v, u) (w, x) text more a b.
        let after = a.back ++ separator ∷ more in
        let opened : Opens separator after = opens_behind a.back more ((tail v).opens u a.back a.second) in
        let whole : text ++ separator ∷ more ≡ a.front ++ after = ap (λ l. l ++ separator ∷ more) a.split ∙ append_assoc a.front a.back (separator ∷ more) in
        let second : R v x after = pair_at a.front after v a.first (stops_at_separator v a.front a.first after opened) after (along_itself after) w x (subst (λ l. IsPair P R w x l) whole b) in
        (parts v).apart u x a.back more a.second second;
  }
