-- Lines with their line feeds.
use Rattle.std.proofs.Common.{◌≡◌, ℕ, ◌+◌, List, [], ◌∷◌, ◌++◌, length, take, drop, refl, sym, ap, ◌∙◌, subst, arith}
use Rattle.std.proofs.lemmas.List.{append_assoc, length-append, take-append-drop}
use Rattle.std.proofs.Math.Seq.{take-append_seam}
use Rattle.line_grammar.specs.Language.{AnyOf, Begins, Stops, Reaches, IsReadTo, IsStuck}
use Rattle.line_grammar.specs.Parts.{IsPair, Pairs, Opens, IsPart, IsTail}
use Rattle.line_grammar.specs.Traces.{Ended, EndedLine, IsAhead}
use Rattle.line_grammar.specs.Words.{Word}
use Rattle.line_grammar.proofs.Cuts.{Cut, cut, further, nearer, same}
use Rattle.line_grammar.proofs.Pairs.{pairs_read, pairs_stuck_first, pairs_stuck_second, one_then}
use Rattle.line_grammar.proofs.Readings.{read_renamed, stuck_renamed}
use Rattle.line_grammar.proofs.WordFacts.{word_stuck}

-- the line feed
abbrev Feed : ℕ → List ℕ → Type 0
Feed = Word {V = ℕ} 0 (10 ∷ [])

feed_tail : IsTail 10 Feed
feed_tail = record {
  opens = λ v text w. subst (λ l. Opens 10 l) (sym w.split) refl;
  some = (0, 10 ∷ [], record { means = refl; split = refl });
}

feed_read : (more : List ℕ) → IsReadTo Feed (10 ∷ more) 0 1
feed_read more = record { within = omega arith; text_of = record { means = refl; split = refl }; stops = stops more }
  where
    stops : (rest : List ℕ) → Stops (AnyOf Feed) (10 ∷ []) rest
    stops [] = tt
    stops (x ∷ rest) = λ (tail, (v, w)). let none : ⊥ = omega (arith, ap length w.split) in none

feed_stuck : (rest : List ℕ) → ((x : ℕ) (more : List ℕ) → rest ≡ x ∷ more → x ≡ 10 → ⊥) → IsStuck Feed rest 0
feed_stuck [] none = word_stuck {V = ℕ} 0 (10 ∷ []) [] 0 (omega arith) (omega arith) refl (λ more e. omega arith)
feed_stuck (x ∷ rest) none = word_stuck {V = ℕ} 0 (10 ∷ []) (x ∷ rest) 0 (omega arith) (omega arith) refl (λ more e. none x rest refl (sym e))

module _ {V : Type 0} (W : V → List ℕ → Type 0) (part : IsPart 10 W) where
  Lines : (V × ℕ) → List ℕ → Type 0
  Lines = Pairs W (λ v. Feed)

  ended_to : (v : V) (n : ℕ) (text : List ℕ) → IsPair W (λ v. Feed) v n text → Ended W v text
  ended_to v n text p = record { line = p.front; is_line = p.first; split = p.split ∙ ap (λ l. p.front ++ l) p.second.split }

  ended_back : (v : V) (text : List ℕ) → Ended W v text → AnyOf (Pairs W (λ v. Feed)) text
  ended_back v text e = ((v, 0), record { front = e.line; back = 10 ∷ []; split = e.split; first = e.is_line; second = record { means = refl; split = refl } })

  any_ended : (p : V × ℕ) (text : List ℕ) → Pairs W (λ v. Feed) p text → AnyOf (Ended W) text
  any_ended (v, n) text p = (v, ended_to v n text p)

  pub ended_stuck : (text : List ℕ) (k : ℕ) → IsStuck W text k → IsStuck (Ended W) text k
  ended_stuck text k stuck =
      stuck_renamed (Pairs W (λ v. Feed)) (Ended W) ended_back text k any_ended
      (pairs_stuck_first 10 W (λ v. Feed) part (λ v. feed_tail) text k stuck)

  -- what was read has no line feed behind it
  pub ended_open : (text : List ℕ) (v : V) (n : ℕ) → IsReadTo W text v n → (rest : List ℕ) → rest ≡ drop n text → ((x : ℕ) (more : List ℕ) → rest ≡ x ∷ more → x ≡ 10 → ⊥) → IsStuck (Ended W) text n
  ended_open text v n read rest e none =
      let at : n + 0 ≡ n = omega arith in
      subst (λ i. IsStuck (Ended W) text i) at
      (stuck_renamed (Pairs W (λ v. Feed)) (Ended W) ended_back text (n + 0) any_ended
      (pairs_stuck_second 10 W (λ v. Feed) part (λ v. feed_tail) text v n read 0 (subst (λ l. IsStuck Feed l 0) e (feed_stuck rest none))))

  pub ended_read : (text : List ℕ) (v : V) (n : ℕ) → IsReadTo W text v n → (rest more : List ℕ) → rest ≡ drop n text → rest ≡ 10 ∷ more → IsReadTo (Ended W) text v (n + 1)
  ended_read text v n read rest more e f =
      read_renamed (Pairs W (λ v. Feed)) (Ended W) ended_back text (v, 0) v (n + 1) (λ t p. ended_to v 0 t p)
      (pairs_read 10 W (λ v. Feed) part (λ v. feed_tail) text v n read 0 1 (subst (λ l. IsReadTo Feed l 0 1) (sym f ∙ e) (feed_read more)))

  -- of two lines that a text begins with, each with its line feed
  pub first_same : (v w : V) (a b x y : List ℕ) → W v a → W w b → a ++ 10 ∷ x ≡ b ++ 10 ∷ y → (v ≡ w) × (a ≡ b) × (x ≡ y)
  first_same v w a b x y p q e = by_cut (cut a (10 ∷ x) b (10 ∷ y) e)
    where
      by_cut : Cut a (10 ∷ x) b (10 ∷ y) → (v ≡ w) × (a ≡ b) × (x ≡ y)
      by_cut (further z m f g) =
          let at : z ≡ 10 = cc in
          absurd (part.apart w v b m q (subst (λ l. W v (b ++ l ∷ m)) at (subst (λ l. W v l) f p)))
      by_cut (nearer z m f g) =
          let at : z ≡ 10 = cc in
          absurd (part.apart v w a m p (subst (λ l. W w (a ++ l ∷ m)) at (subst (λ l. W w l) f q)))
      by_cut (same f g) =
          let rests : x ≡ y = cc in
          (part.unique v w a p (subst (λ l. W w l) (sym f) q), f, rests)

  -- a line is the longest that the text begins with
  pub ahead_read : (text : List ℕ) (v : V) (n : ℕ) → IsAhead W text v n → IsReadTo (Ended W) text v n
  ahead_read text v n ahead =
      let cut_is : take n text ≡ ahead.line ++ 10 ∷ [] = front ahead.line (drop n text) text n ahead.split ahead.size_of in
      record {
        within = ahead.within;
        text_of = record { line = ahead.line; is_line = ahead.is_line; split = cut_is };
        stops = subst (λ t. Stops (AnyOf (Ended W)) t (drop n text)) (sym cut_is) (stops (drop n text));
      }
    where
      front : (line rest all : List ℕ) (i : ℕ) → all ≡ line ++ 10 ∷ rest → i ≡ length line + 1 → take i all ≡ line ++ 10 ∷ []
      front line rest all i e f =
          let whole : all ≡ (line ++ 10 ∷ []) ++ rest = e ∙ sym (append_assoc line (10 ∷ []) rest) in
          let size : i ≡ length (line ++ 10 ∷ []) = omega (arith, f, length-append line (10 ∷ [])) in
          rw (whole, size) (take-append_seam (line ++ 10 ∷ []) rest)

      stops : (rest : List ℕ) → Stops (AnyOf (Ended W)) (ahead.line ++ 10 ∷ []) rest
      stops [] = tt
      stops (x ∷ rest) = λ (more, (w, e)).
          let whole : e.line ++ 10 ∷ [] ≡ ahead.line ++ 10 ∷ (x ∷ more) =
          sym e.split ∙ append_assoc (ahead.line ++ 10 ∷ []) (x ∷ []) more ∙ append_assoc ahead.line (10 ∷ []) (x ∷ more) in
          let s = first_same w v e.line ahead.line [] (x ∷ more) e.is_line ahead.is_line whole in
          let none : ⊥ = cc (s.2) in none

  -- what was read is the first line
  pub read_first : (text : List ℕ) (v : V) (n : ℕ) → IsReadTo (Ended W) text v n → (w : V) (line more : List ℕ) → W w line → text ≡ line ++ 10 ∷ more
      → (v ≡ w) × (drop n text ≡ more)
  read_first text v n read w line more q e =
      let t = read.text_of in
      let whole : t.line ++ 10 ∷ drop n text ≡ line ++ 10 ∷ more =
      sym (append_assoc t.line (10 ∷ []) (drop n text)) ∙ ap (λ l. l ++ drop n text) (sym t.split) ∙ take-append-drop n text ∙ e in
      let s = first_same v w t.line line (drop n text) more t.is_line q whole in
      (s.0, s.2)

  -- a text that is stuck begins with no line
  pub stuck_first : (text : List ℕ) (k : ℕ) → IsStuck (Ended W) text k → (w : V) (line more : List ℕ) → W w line → text ≡ line ++ 10 ∷ more → ⊥
  stuck_first text k stuck w line more q e = by_cut (cut (take k text) (drop k text) (line ++ 10 ∷ []) more (take-append-drop k text ∙ e ∙ sym (append_assoc line (10 ∷ []) more)))
    where
      ended_line : Ended W w (line ++ 10 ∷ [])
      ended_line = record { line = line; is_line = q; split = refl }

      stopped : (rest : List ℕ) → Stops (AnyOf (Ended W)) (take k text) rest → (x : ℕ) (m : List ℕ) → line ++ 10 ∷ [] ≡ take k text ++ x ∷ m → rest ≡ x ∷ m ++ more → ⊥
      stopped [] stops x m f g = let none : ⊥ = cc in none
      stopped (z ∷ rest) stops x m f g =
          let at : z ≡ x = cc in
          stops (m, (w, subst (λ l. Ended W w l) (f ∙ ap (λ b. take k text ++ b ∷ m) (sym at) ∙ sym (one_then (take k text) z m)) ended_line))

      longer : (x : ℕ) (m : List ℕ) → take k text ≡ (line ++ 10 ∷ []) ++ x ∷ m → ⊥
      longer x m f =
          let b = stuck.reaches.begins in
          let l = b.1.1 in
          let whole : l.line ++ 10 ∷ [] ≡ line ++ 10 ∷ (x ∷ m ++ b.0) =
          sym l.split ∙ ap (λ t. t ++ b.0) f ∙ append_assoc (line ++ 10 ∷ []) (x ∷ m) b.0 ∙ append_assoc line (10 ∷ []) (x ∷ m ++ b.0) in
          let s = first_same b.1.0 w l.line line [] (x ∷ m ++ b.0) l.is_line q whole in
          let none : ⊥ = cc in none

      by_cut : Cut (take k text) (drop k text) (line ++ 10 ∷ []) more → ⊥
      by_cut (further x m f g) = longer x m f
      by_cut (nearer x m f g) = stopped (drop k text) stuck.reaches.stops x m f g
      by_cut (same f g) = stuck.absent (w, subst (λ l. Ended W w l) (sym f) ended_line)

  -- the same as a language of texts
  begins_line : (front : List ℕ) → Begins (AnyOf (Ended W)) front → Begins (EndedLine (AnyOf W)) front
  begins_line front (rest, (v, e)) = (rest, record { line = e.line; is_line = (v, e.is_line); split = e.split })

  line_begins : (front : List ℕ) → Begins (EndedLine (AnyOf W)) front → Begins (AnyOf (Ended W)) front
  line_begins front (rest, e) = (rest, (e.is_line.0, record { line = e.line; is_line = e.is_line.1; split = e.split }))

  stops_line : (front rest : List ℕ) → Stops (AnyOf (Ended W)) front rest → Stops (EndedLine (AnyOf W)) front rest
  stops_line front [] stops = tt
  stops_line front (x ∷ rest) stops = λ b. stops (line_begins (front ++ x ∷ []) b)

  pub reaches_line : (front rest : List ℕ) → Reaches (AnyOf (Ended W)) front rest → Reaches (EndedLine (AnyOf W)) front rest
  reaches_line front rest r = record { begins = begins_line front r.begins; stops = stops_line front rest r.stops }

  pub absent_line : (front : List ℕ) → (AnyOf (Ended W) front → ⊥) → EndedLine (AnyOf W) front → ⊥
  absent_line front none e = none (e.is_line.0, record { line = e.line; is_line = e.is_line.1; split = e.split })
