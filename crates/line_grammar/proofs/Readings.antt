-- Readings of a whole text, behind a first element, and of other names for the values.
use Rattle.std.proofs.Common.{◌≡◌, ℕ, suc, ◌+◌, ◌<◌, List, [], ◌∷◌, ◌++◌, length, take, drop, refl, sym, ap, ◌∙◌, subst, arith, length-drop}
use Rattle.std.proofs.lemmas.List.{append-nil, append_assoc, take-append-drop}
use Rattle.std.specs.Prelude.{Result, Ok, Err}
use Rattle.line_grammar.specs.Language.{Begins, Stops, AnyOf, IsReadTo, IsStuck, IsRead, IsFault}
use Rattle.line_grammar.specs.Parts.{Led, Opens, IsPart, IsTail}

stops_inside : {A : Type 0} (L : List A → Type 0) (front rest : List A) → Stops L front rest → 0 < length rest → L (front ++ rest) → ⊥
stops_inside L front [] stops long l = let no_such : ⊥ = omega arith in no_such
stops_inside L front (x ∷ rest) stops long l = stops (rest, subst L (sym (append_assoc front (x ∷ []) rest)) l)

-- a text that goes on behind what was read has its fault there
pub longer_text : {V A : Type 0} (W : V → List A → Type 0) (text : List A) (v : V) (n : ℕ) → IsReadTo W text v n → n < length text → IsFault (AnyOf W) text n
longer_text W text v n read more = record {
  within = read.within;
  absent = λ l. stops_inside (AnyOf W) (take n text) (drop n text) read.stops (omega (arith, length-drop n text)) (subst (AnyOf W) (sym (take-append-drop n text)) l);
  reaches = record { begins = ([], (v, subst (λ l. W v l) (sym (append-nil (take n text))) read.text_of)); stops = read.stops };
}

absent_from : {A : Type 0} (L : List A → Type 0) (front rest : List A) → Stops L front rest → (L front → ⊥) → L (front ++ rest) → ⊥
absent_from L front [] stops none l = none (subst L (append-nil front) l)
absent_from L front (x ∷ rest) stops none l = stops (rest, subst L (sym (append_assoc front (x ∷ []) rest)) l)

-- a reader that is stuck is at the fault
pub stuck_text : {V A : Type 0} (W : V → List A → Type 0) (text : List A) (k : ℕ) → IsStuck W text k → IsFault (AnyOf W) text k
stuck_text W text k stuck = record {
  within = stuck.within;
  absent = λ l. absent_from (AnyOf W) (take k text) (drop k text) stuck.reaches.stops stuck.absent (subst (AnyOf W) (sym (take-append-drop k text)) l);
  reaches = stuck.reaches;
}

-- the same texts under other names
module _ {V U A : Type 0} (W : V → List A → Type 0) (N : U → List A → Type 0)
    (back : (u : U) (text : List A) → N u text → AnyOf W text) where
  begins_back : (front : List A) → Begins (AnyOf N) front → Begins (AnyOf W) front
  begins_back front (rest, (u, q)) = (rest, back u (front ++ rest) q)

  stops_renamed : (front rest : List A) → Stops (AnyOf W) front rest → Stops (AnyOf N) front rest
  stops_renamed front [] s = tt
  stops_renamed front (x ∷ rest) s = λ b. s (begins_back (front ++ x ∷ []) b)

  pub read_renamed : (text : List A) (v : V) (u : U) (n : ℕ) → ((t : List A) → W v t → N u t) → IsReadTo W text v n → IsReadTo N text u n
  read_renamed text v u n to read = record { within = read.within; text_of = to (take n text) read.text_of; stops = stops_renamed (take n text) (drop n text) read.stops }

  pub stuck_renamed : (text : List A) (k : ℕ) → ((v : V) (t : List A) → W v t → AnyOf N t) → IsStuck W text k → IsStuck N text k
  stuck_renamed text k to stuck = record {
    within = stuck.within;
    absent = λ (u, q). stuck.absent (back u (take k text) q);
    reaches = record {
      begins = let more = stuck.reaches.begins in (more.0, to more.1.0 (take k text ++ more.0) more.1.1);
      stops = stops_renamed (take k text) (drop k text) stuck.reaches.stops;
    };
  }

-- the same language in other words
pub read_same : {V A : Type 0} (W N : V → List A → Type 0) → ((v : V) (t : List A) → W v t → N v t) → ((v : V) (t : List A) → N v t → W v t)
    → (text : List A) (r : Result (V × ℕ) ℕ) → IsRead W text r → IsRead N text r
read_same W N to back text (Ok (v, n)) read = read_renamed W N (λ u t q. (u, back u t q)) text v v n (to v) read
read_same W N to back text (Err k) stuck = stuck_renamed W N (λ u t q. (u, back u t q)) text k (λ v t w. (v, to v t w)) stuck

-- a part in other words: each text has the value that `name` gives the value of W
pub part_renamed : {V U A : Type 0} (separator : A) (W : V → List A → Type 0) (N : U → List A → Type 0) (name : V → U)
    → ((u : U) (t : List A) → N u t → (v : V) × (W v t) × (u ≡ name v)) → IsPart separator W → IsPart separator N
part_renamed separator W N name back part = record {
  unique = λ u w text a b.
      let x = back u text a in let y = back w text b in
      x.2 ∙ ap name (part.unique x.0 y.0 text x.1 y.1) ∙ sym y.2;
  apart = λ u w text more a b.
      let x = back u text a in let y = back w (text ++ separator ∷ more) b in
      part.apart x.0 y.0 text more x.1 y.1;
}

-- behind a first element
module _ {V A : Type 0} (first : A) (W : V → List A → Type 0) where
  behind_first : (x : A) (text : List A) → AnyOf (Led first W) (x ∷ text) → (x ≡ first) × AnyOf W text
  behind_first x text (v, led) =
      let heads : x ≡ first = cc in
      let tails : text ≡ led.rest = cc in
      (heads, (v, subst (λ l. W v l) (sym tails) led.behind))

  led_by : (text : List A) → AnyOf W text → AnyOf (Led first W) (first ∷ text)
  led_by text (v, q) = (v, record { rest = text; split = refl; behind = q })

  stops_led : (front rest : List A) → Stops (AnyOf W) front rest → Stops (AnyOf (Led first W)) (first ∷ front) rest
  stops_led front [] s = tt
  stops_led front (y ∷ rest) s = λ (more, l). s (more, (behind_first first ((front ++ y ∷ []) ++ more) l).1)

  pub led_read : (text : List A) (v : V) (n : ℕ) → IsReadTo W text v n → IsReadTo (Led first W) (first ∷ text) v (suc n)
  led_read text v n read = record {
    within = omega (arith, read.within);
    text_of = record { rest = take n text; split = refl; behind = read.text_of };
    stops = stops_led (take n text) (drop n text) read.stops;
  }

  pub led_stuck : (text : List A) (k : ℕ) → IsStuck W text k → IsStuck (Led first W) (first ∷ text) (suc k)
  led_stuck text k stuck = record {
    within = omega (arith, stuck.within);
    absent = λ l. stuck.absent (behind_first first (take k text) l).1;
    reaches = record {
      begins = let more = stuck.reaches.begins in (more.0, led_by (take k text ++ more.0) more.1);
      stops = stops_led (take k text) (drop k text) stuck.reaches.stops;
    };
  }

  pub led_missing : (text : List A) → AnyOf W text → IsStuck (Led first W) [] 0
  led_missing some w = record {
    within = omega arith;
    absent = λ (v, led). let no_such : ⊥ = cc in no_such;
    reaches = record { begins = (first ∷ some, led_by some w); stops = tt };
  }

  pub led_other : (x : A) (text some : List A) → AnyOf W some → (x ≡ first → ⊥) → IsStuck (Led first W) (x ∷ text) 0
  led_other x text some w apart = record {
    within = omega arith;
    absent = λ (v, led). let no_such : ⊥ = cc in no_such;
    reaches = record { begins = (first ∷ some, led_by some w); stops = λ (more, l). apart (behind_first x more l).0 };
  }

  -- the text doesn't begin with the element
  pub led_none : (text some : List A) → AnyOf W some → ((x : A) (rest : List A) → text ≡ x ∷ rest → x ≡ first → ⊥) → IsStuck (Led first W) text 0
  led_none [] some w apart = led_missing some w
  led_none (x ∷ text) some w apart = led_other x text some w (apart x text refl)

  -- the text begins with it
  pub led_then : (whole text : List A) → whole ≡ first ∷ text → (v : V) (n : ℕ) → IsReadTo W text v n → IsReadTo (Led first W) whole v (n + 1)
  led_then whole text e v n read =
      let size : suc n ≡ n + 1 = omega arith in
      subst (λ l. IsReadTo (Led first W) l v (n + 1)) (sym e) (subst (λ i. IsReadTo (Led first W) (first ∷ text) v i) size (led_read text v n read))

  pub led_then_stuck : (whole text : List A) → whole ≡ first ∷ text → (k : ℕ) → IsStuck W text k → IsStuck (Led first W) whole (k + 1)
  led_then_stuck whole text e k stuck =
      let size : suc k ≡ k + 1 = omega arith in
      subst (λ l. IsStuck (Led first W) l (k + 1)) (sym e) (subst (λ i. IsStuck (Led first W) (first ∷ text) i) size (led_stuck text k stuck))

  pub led_unique : ((v w : V) (text : List A) → W v text → W w text → v ≡ w) → (v w : V) (text : List A) → Led first W v text → Led first W w text → v ≡ w
  led_unique unique v w text a b =
      let rests : b.rest ≡ a.rest = cc in
      unique v w a.rest a.behind (subst (λ l. W w l) rests b.behind)

  pub led_part : (separator : A) → IsPart separator W → IsPart separator (Led first W)
  led_part separator part = record {
    unique = led_unique part.unique;
    apart = λ v w text more a b.
        let rests : b.rest ≡ a.rest ++ separator ∷ more = led_rest text a.rest b.rest separator more a.split b.split in
        part.apart v w a.rest more a.behind (subst (λ l. W w l) rests b.behind);
  }
    where
      led_rest : (text a b : List A) (separator : A) (more : List A) → text ≡ first ∷ a → text ++ separator ∷ more ≡ first ∷ b → b ≡ a ++ separator ∷ more
      led_rest text a b separator more e f =
          let whole : first ∷ (a ++ separator ∷ more) ≡ first ∷ b = sym (ap (λ l. l ++ separator ∷ more) e) ∙ f in
          let rest : b ≡ a ++ separator ∷ more = cc in
          rest

  pub led_tail : (text : List A) → AnyOf W text → IsTail first (Led first W)
  led_tail text w = record {
    opens = λ v t led. subst (λ l. Opens first l) (sym led.split) refl;
    some = let l = led_by text w in (l.0, first ∷ text, l.1);
  }
