-- Words and choices.
use Rattle.std.proofs.Common.{◌≡◌, ℕ, ◌+◌, ◌-◌, ◌<◌, ◌≤◌, List, [], ◌∷◌, ◌++◌, length, take, drop, get_or, refl, sym, ap, ◌∙◌, subst, arith, length-drop, ◌⊎◌, inl, inr, Bool, true, false, nat_eq, IsTrue}
use Rattle.std.proofs.lemmas.Bool.{ltb-true, ltb-false, cases_eq, eqb-false, eqb-true, leb-false, leb-true}
use Rattle.std.proofs.lemmas.List.{append-nil, append_assoc, length-take-le, take-append-drop, get_or-drop, get_or_at, drop-drop, take_more}
use Rattle.std.proofs.Math.Seq.{take-add}
use Rattle.std.specs.Prelude.{Option, Some, None, Result, Ok, Err, nat_le, nat_lt, if◌then◌else◌}
use Rattle.line_grammar.specs.Language.{Begins, Stops, AnyOf, IsReadTo, IsStuck, IsRead}
use Rattle.line_grammar.specs.Words.{Word, Either, Optional, further_of, lacks, is_solid, something_of}
use Rattle.line_grammar.specs.Parts.{IsPart}
use Rattle.line_grammar.proofs.Pairs.{one_then}
use Rattle.line_grammar.proofs.Readings.{read_renamed, read_same, stuck_renamed}

word_stops : {V : Type 0} (meaning : V) (word text : List ℕ) (k : ℕ) → k ≤ length text
    → (k < length text → get_or word k 0 ≡ get_or text k 0 → ⊥)
    → (rest : List ℕ) → drop k text ≡ rest → Stops (AnyOf (Word meaning word)) (take k text) rest
word_stops meaning word text k within apart [] e = tt
word_stops meaning word text k within apart (b ∷ rest) e = λ (more, (v, w)).
    let here : word ≡ take k text ++ b ∷ more = sym w.split ∙ one_then (take k text) b more in
    let of_word : get_or word k 0 ≡ b = ap (λ l. get_or l k 0) here ∙ get_or_at (take k text) b more 0 k (length-take-le k text within) in
    let of_text : get_or text (k + 0) 0 ≡ b = sym (get_or-drop k text 0 0) ∙ ap (λ l. get_or l 0 0) e in
    let at : k + 0 ≡ k = omega arith in
    apart (omega (arith, ap length e, length-drop k text)) (of_word ∙ sym of_text ∙ ap (λ i. get_or text i 0) at)

pub word_stuck : {V : Type 0} (meaning : V) (word text : List ℕ) (k : ℕ) → k < length word → k ≤ length text → take k word ≡ take k text
    → (k < length text → get_or word k 0 ≡ get_or text k 0 → ⊥) → IsStuck (Word meaning word) text k
word_stuck meaning word text k more within shared apart = record {
  within = within;
  absent = λ (v, w). omega (arith, ap length w.split, length-take-le k text within);
  reaches = record {
    begins = (drop k word, (meaning, record { means = refl; split = ap (λ l. l ++ drop k word) (sym shared) ∙ take-append-drop k word }));
    stops = word_stops meaning word text k within apart (drop k text) refl;
  };
}

-- where a language stops, it stops further on too
module _ {A : Type 0} (L : List A → Type 0) where
  absent_behind : (f : List A) (y : A) (g : List A) (rest : List A) → Stops L f ((y ∷ g) ++ rest) → L (f ++ y ∷ g) → ⊥
  absent_behind f y g rest stops l = stops (g, subst L (sym (one_then f y g)) l)

  stops_behind : (f g rest : List A) → Stops L f (g ++ rest) → Stops L (f ++ g) rest
  stops_behind f g [] stops = tt
  stops_behind f [] (x ∷ rest) stops = λ b. stops (subst (λ l. Begins L (l ++ x ∷ [])) (append-nil f) b)
  stops_behind f (y ∷ g) (x ∷ rest) stops = λ (more, l).
      let regrouped : ((f ++ y ∷ g) ++ x ∷ []) ++ more ≡ (f ++ y ∷ []) ++ (g ++ x ∷ more) =
      one_then (f ++ y ∷ g) x more ∙ append_assoc f (y ∷ g) (x ∷ more) ∙ sym (one_then f y (g ++ x ∷ more)) in
      stops (g ++ x ∷ more, subst L regrouped l)

  pub stops_later : (t : List A) (n m : ℕ) → n ≤ m → Stops L (take n t) (drop n t) → Stops L (take m t) (drop m t)
  stops_later t n m order stops =
      let k = m - n in
      let e : n + k ≡ m = omega arith in
      let fronts : take (n + k) t ≡ take n t ++ take k (drop n t) = take-add n k t in
      let rests : drop k (drop n t) ≡ drop (n + k) t = drop-drop k n t in
      subst (λ i. Stops L (take i t) (drop i t)) e
      (subst (λ l. Stops L l (drop (n + k) t)) (sym fronts)
      (subst (λ l. Stops L (take n t ++ take k (drop n t)) l) rests
      (stops_behind (take n t) (take k (drop n t)) (drop k (drop n t)) (subst (λ l. Stops L (take n t) l) (sym (take-append-drop k (drop n t))) stops))))

  absent_split : (f g rest : List A) → 0 < length g → Stops L f (g ++ rest) → L (f ++ g) → ⊥
  absent_split f [] rest long stops l = omega arith
  absent_split f (y ∷ g) rest long stops l = absent_behind f y g rest stops l

  pub absent_later : (t : List A) (n m : ℕ) → n < m → m ≤ length t → Stops L (take n t) (drop n t) → L (take m t) → ⊥
  absent_later t n m order within stops l =
      let k = m - n in
      let e : n + k ≡ m = omega arith in
      let fronts : take m t ≡ take n t ++ take k (drop n t) = ap (λ i. take i t) (sym e) ∙ take-add n k t in
      absent_split (take n t) (take k (drop n t)) (drop k (drop n t)) (omega (arith, length-take-le k (drop n t) (omega (arith, length-drop n t))))
      (subst (λ l. Stops L (take n t) l) (sym (take-append-drop k (drop n t))) stops) (subst L fronts l)

-- a choice
module _ {V A : Type 0} (P Q : V → List A → Type 0) where
  either_of : (text : List A) → AnyOf (Either P Q) text → AnyOf P text ⊎ AnyOf Q text
  either_of text (v, e) = elim e [ inl p ↦ inl (v, p) | inr q ↦ inr (v, q) ]

  stops_either : (front rest : List A) → Stops (AnyOf P) front rest → Stops (AnyOf Q) front rest → Stops (AnyOf (Either P Q)) front rest
  stops_either front [] s t = tt
  stops_either front (x ∷ rest) s t = λ (more, e).
      elim (either_of ((front ++ x ∷ []) ++ more) e) [ inl p ↦ s (more, p) | inr q ↦ t (more, q) ]

  read_left : (t : List A) (v : V) (n : ℕ) → IsReadTo P t v n → Stops (AnyOf Q) (take n t) (drop n t) → IsReadTo (Either P Q) t v n
  read_left t v n read s = record { within = read.within; text_of = inl read.text_of; stops = stops_either (take n t) (drop n t) read.stops s }

  read_right : (t : List A) (v : V) (n : ℕ) → IsReadTo Q t v n → Stops (AnyOf P) (take n t) (drop n t) → IsReadTo (Either P Q) t v n
  read_right t v n read s = record { within = read.within; text_of = inr read.text_of; stops = stops_either (take n t) (drop n t) s read.stops }

  stuck_left : (t : List A) (k : ℕ) → IsStuck P t k → Stops (AnyOf Q) (take k t) (drop k t) → (AnyOf Q (take k t) → ⊥) → IsStuck (Either P Q) t k
  stuck_left t k stuck s none = record {
    within = stuck.within;
    absent = λ e. elim (either_of (take k t) e) [ inl p ↦ stuck.absent p | inr q ↦ none q ];
    reaches = record {
      begins = let more = stuck.reaches.begins in (more.0, (more.1.0, inl more.1.1));
      stops = stops_either (take k t) (drop k t) stuck.reaches.stops s;
    };
  }

  stuck_right : (t : List A) (k : ℕ) → IsStuck Q t k → Stops (AnyOf P) (take k t) (drop k t) → (AnyOf P (take k t) → ⊥) → IsStuck (Either P Q) t k
  stuck_right t k stuck s none = record {
    within = stuck.within;
    absent = λ e. elim (either_of (take k t) e) [ inl p ↦ none p | inr q ↦ stuck.absent q ];
    reaches = record {
      begins = let more = stuck.reaches.begins in (more.0, (more.1.0, inr more.1.1));
      stops = stops_either (take k t) (drop k t) s stuck.reaches.stops;
    };
  }

  both_read : (t : List A) (v w : V) (n m : ℕ) → IsReadTo P t v n → IsReadTo Q t w m → (b : Bool) → nat_lt n m ≡ b → IsRead (Either P Q) t (if b then Ok (w, m) else Ok (v, n))
  both_read t v w n m p q true e = read_right t w m q (stops_later (AnyOf P) t n m (omega (arith, ltb-true n m e)) p.stops)
  both_read t v w n m p q false e = read_left t v n p (stops_later (AnyOf Q) t m n (omega (arith, ltb-false n m e)) q.stops)

  left_read : (t : List A) (v : V) (n k : ℕ) → IsReadTo P t v n → IsStuck Q t k → (b : Bool) → nat_lt n k ≡ b → IsRead (Either P Q) t (if b then Err k else Ok (v, n))
  left_read t v n k p q true e = stuck_right t k q (stops_later (AnyOf P) t n k (omega (arith, ltb-true n k e)) p.stops) (absent_later (AnyOf P) t n k (ltb-true n k e) q.within p.stops)
  left_read t v n k p q false e = read_left t v n p (stops_later (AnyOf Q) t k n (omega (arith, ltb-false n k e)) q.reaches.stops)

  right_read : (t : List A) (w : V) (m k : ℕ) → IsStuck P t k → IsReadTo Q t w m → (b : Bool) → nat_lt m k ≡ b → IsRead (Either P Q) t (if b then Err k else Ok (w, m))
  right_read t w m k p q true e = stuck_left t k p (stops_later (AnyOf Q) t m k (omega (arith, ltb-true m k e)) q.stops) (absent_later (AnyOf Q) t m k (ltb-true m k e) p.within q.stops)
  right_read t w m k p q false e = read_right t w m q (stops_later (AnyOf P) t k m (omega (arith, ltb-false m k e)) p.reaches.stops)

  neither_read : (t : List A) (j k : ℕ) → IsStuck P t j → IsStuck Q t k → (b : Bool) → nat_lt j k ≡ b → IsRead (Either P Q) t (if b then Err k else Err j)
  neither_read t j k p q true e = stuck_right t k q (stops_later (AnyOf P) t j k (omega (arith, ltb-true j k e)) p.reaches.stops) (absent_later (AnyOf P) t j k (ltb-true j k e) q.within p.reaches.stops)
  neither_read t j k p q false e = elim (cases_eq j k) [
    | inl same ↦ let Q_at : IsStuck Q t j = subst (λ i. IsStuck Q t i) (sym same) q in stuck_left t j p Q_at.reaches.stops Q_at.absent
    | inr other ↦ let less : k < j = omega (arith, ltb-false j k e) in stuck_left t j p (stops_later (AnyOf Q) t k j (omega arith) q.reaches.stops) (absent_later (AnyOf Q) t k j less p.within q.reaches.stops)
  ]

  pub either_read : (t : List A) (r s : Result (V × ℕ) ℕ) → IsRead P t r → IsRead Q t s → IsRead (Either P Q) t (further_of r s)
  either_read t (Ok (v, n)) (Ok (w, m)) p q = both_read t v w n m p q (nat_lt n m) refl
  either_read t (Ok (v, n)) (Err k) p q = left_read t v n k p q (nat_lt n k) refl
  either_read t (Err k) (Ok (w, m)) p q = right_read t w m k p q (nat_lt m k) refl
  either_read t (Err j) (Err k) p q = neither_read t j k p q (nat_lt j k) refl

  pub further_read : (t : List A) (r s z : Result (V × ℕ) ℕ) → z ≡ further_of r s → IsRead P t r → IsRead Q t s → IsRead (Either P Q) t z
  further_read t r s z e p q = subst (λ x. IsRead (Either P Q) t x) (sym e) (either_read t r s p q)

-- a text in which the separator doesn't stand
lacks_cons : (separator x : ℕ) (text : List ℕ) (b : Bool) → nat_eq x separator ≡ b → (if b then false else lacks separator text) ≡ true → (x ≡ separator → ⊥) × IsTrue (lacks separator text)
lacks_cons separator x text true e h = let no_such : ⊥ = cc in absurd no_such
lacks_cons separator x text false e h = (eqb-false x separator e, h)

pub lacks_apart : (separator : ℕ) (text more : List ℕ) → IsTrue (lacks separator (text ++ separator ∷ more)) → ⊥
lacks_apart separator [] more h = (lacks_cons separator separator more (nat_eq separator separator) refl h).0 refl
lacks_apart separator (x ∷ text) more h = lacks_apart separator text more (lacks_cons separator x (text ++ separator ∷ more) (nat_eq x separator) refl h).1

-- one more element
lacks_all : (separator x : ℕ) (text : List ℕ) (b : Bool) → nat_eq x separator ≡ b → (x ≡ separator → ⊥) → IsTrue (lacks separator text) → IsTrue (if b then false else lacks separator text)
lacks_all separator x text true e apart h = absurd (apart (eqb-true x separator e))
lacks_all separator x text false e apart h = h

pub lacks_push : (separator x : ℕ) (text : List ℕ) → IsTrue (lacks separator text) → (x ≡ separator → ⊥) → IsTrue (lacks separator (text ++ x ∷ []))
lacks_push separator x [] h apart = lacks_all separator x [] (nat_eq x separator) refl apart refl
lacks_push separator x (y ∷ text) h apart =
    let old = lacks_cons separator y text (nat_eq y separator) refl h in
    lacks_all separator y (text ++ x ∷ []) (nat_eq y separator) refl old.0 (lacks_push separator x text old.1 apart)

pub lacks_append : (separator : ℕ) (text more : List ℕ) → IsTrue (lacks separator text) → IsTrue (lacks separator more) → IsTrue (lacks separator (text ++ more))
lacks_append separator [] more h k = k
lacks_append separator (x ∷ text) more h k =
    let old = lacks_cons separator x text (nat_eq x separator) refl h in
    lacks_all separator x (text ++ more) (nat_eq x separator) refl old.0 (lacks_append separator text more old.1 k)

pub lacks_next : (separator : ℕ) (text : List ℕ) (i : ℕ) → i < length text → IsTrue (lacks separator (take i text)) → (get_or text i 0 ≡ separator → ⊥) → IsTrue (lacks separator (take (i + 1) text))
lacks_next separator text i inside h apart = subst (λ t. IsTrue (lacks separator t)) (sym (take_more text i 0 inside)) (lacks_push separator (get_or text i 0) (take i text) h apart)

-- a language in whose texts the separator doesn't stand
pub lacking_part : {V : Type 0} (separator : ℕ) (P : V → List ℕ → Type 0) → ((v w : V) (text : List ℕ) → P v text → P w text → v ≡ w)
    → ((v : V) (text : List ℕ) → P v text → IsTrue (lacks separator text)) → IsPart separator P
lacking_part separator P unique lacking = record { unique = unique; apart = λ v w text more p q. lacks_apart separator text more (lacking w (text ++ separator ∷ more) q) }

-- words of bytes from `-` on
solid_cons : (x : ℕ) (text : List ℕ) (b : Bool) → nat_le 45 x ≡ b → (if b then is_solid text else false) ≡ true → (45 ≤ x) × IsTrue (is_solid text)
solid_cons x text true e h = (leb-true 45 x e, h)
solid_cons x text false e h = let no_such : ⊥ = cc in absurd no_such

pub solid_lacks : (separator : ℕ) → separator < 45 → (text : List ℕ) → IsTrue (is_solid text) → IsTrue (lacks separator text)
solid_lacks separator low [] h = refl
solid_lacks separator low (x ∷ text) h =
    let parts = solid_cons x text (nat_le 45 x) refl h in
    lacks_all separator x text (nat_eq x separator) refl (λ e. omega (arith, parts.0)) (solid_lacks separator low text parts.1)

pub solid_behind : (front : List ℕ) (x : ℕ) (more : List ℕ) → IsTrue (is_solid (front ++ x ∷ more)) → x < 45 → ⊥
solid_behind [] x more h low = omega (arith, (solid_cons x more (nat_le 45 x) refl h).0)
solid_behind (y ∷ front) x more h low = solid_behind front x more (solid_cons y (front ++ x ∷ more) (nat_le 45 y) refl h).1 low

solid_all : (x : ℕ) (text : List ℕ) (b : Bool) → nat_le 45 x ≡ b → 45 ≤ x → IsTrue (is_solid text) → IsTrue (if b then is_solid text else false)
solid_all x text true e high h = h
solid_all x text false e high h = let no_such : ⊥ = omega (arith, leb-false 45 x e) in absurd no_such

solid_push : (x : ℕ) (text : List ℕ) → 45 ≤ x → IsTrue (is_solid text) → IsTrue (is_solid (text ++ x ∷ []))
solid_push x [] high h = solid_all x [] (nat_le 45 x) refl high h
solid_push x (y ∷ text) high h =
    let parts = solid_cons y text (nat_le 45 y) refl h in
    solid_all y (text ++ x ∷ []) (nat_le 45 y) refl parts.0 (solid_push x text high parts.1)

pub solid_next : (text : List ℕ) (i : ℕ) → i < length text → IsTrue (is_solid (take i text)) → 45 ≤ get_or text i 0 → IsTrue (is_solid (take (i + 1) text))
solid_next text i inside h high = subst (λ t. IsTrue (is_solid t)) (sym (take_more text i 0 inside)) (solid_push (get_or text i 0) (take i text) high h)

-- a word for nothing, or something
module _ {V : Type 0} (word : List ℕ) (W : V → List ℕ → Type 0) where
  abbrev Something : Option V → List ℕ → Type 0
  Something None text = ⊥
  Something (Some v) text = W v text

  something_back : (o : Option V) (t : List ℕ) → Something o t → AnyOf W t
  something_back None t a = absurd a
  something_back (Some v) t a = (v, a)

  something_read : (text : List ℕ) (r : Result (V × ℕ) ℕ) → IsRead W text r → IsRead Something text (something_of r)
  something_read text (Ok (v, n)) read = read_renamed W Something something_back text v (Some v) n (λ t a. a) read
  something_read text (Err k) stuck = stuck_renamed W Something something_back text k (λ v t a. (Some v, a)) stuck

  optional_to : (o : Option V) (t : List ℕ) → Either Something (Word None word) o t → Optional word W o t
  optional_to None t (inl a) = absurd a
  optional_to None t (inr a) = a.split
  optional_to (Some v) t (inl a) = a
  optional_to (Some v) t (inr a) = let no_such : ⊥ = cc (a.means) in absurd no_such

  optional_back : (o : Option V) (t : List ℕ) → Optional word W o t → Either Something (Word None word) o t
  optional_back None t a = inr (record { means = refl; split = a })
  optional_back (Some v) t a = inl a

  pub optional_read : (text : List ℕ) (r : Result (V × ℕ) ℕ) (q z : Result (Option V × ℕ) ℕ) → z ≡ further_of (something_of r) q → IsRead W text r
      → IsRead (Word None word) text q → IsRead (Optional word W) text z
  optional_read text r q z e a b =
      read_same (Either Something (Word None word)) (Optional word W) optional_to optional_back text z
      (further_read Something (Word None word) text (something_of r) q z e (something_read text r a) b)

  pub optional_part : (separator : ℕ) → IsTrue (lacks separator word) → (W_unique : (v w : V) (text : List ℕ) → W v text → W w text → v ≡ w)
      → ((v : V) (text : List ℕ) → W v text → IsTrue (lacks separator text)) → ((v : V) → W v word → ⊥) → IsPart separator (Optional word W)
  optional_part separator word_lacks W_unique W_lacks apart = lacking_part separator (Optional word W) unique lacking
    where
      unique : (o p : Option V) (text : List ℕ) → Optional word W o text → Optional word W p text → o ≡ p
      unique None None text a b = refl
      unique None (Some w) text a b = absurd (apart w (subst (λ t. W w t) a b))
      unique (Some v) None text a b = absurd (apart v (subst (λ t. W v t) b a))
      unique (Some v) (Some w) text a b = ap (λ x. Some x) (W_unique v w text a b)

      lacking : (o : Option V) (text : List ℕ) → Optional word W o text → IsTrue (lacks separator text)
      lacking None text a = subst (λ t. IsTrue (lacks separator t)) (sym a) word_lacks
      lacking (Some v) text a = W_lacks v text a
