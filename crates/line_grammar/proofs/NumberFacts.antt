-- Fronts of decimal numbers.
use Rattle.std.proofs.Common.{◌≡◌, ℕ, zero, suc, ◌+◌, ◌-◌, ◌*◌, ◌/◌, ◌%◌, ◌^◌, ◌<◌, ◌≤◌, ℤ, pos, negsuc, FitsSigned, w64, List, [], ◌∷◌, ◌++◌, length, take, drop, get_or, refl, sym, ap, ◌∙◌, arith, ◌⊎◌, inl, inr, IsTrue, Result}
use Rattle.std.proofs.lemmas.List.{length-append, take_more}
use Rattle.std.proofs.lemmas.Fmt.{decimal_step, decimal_by_steps, decimal_digit, decimal_nonempty, decimal_injective, signed_decimal_injective}
use Rattle.std.specs.Fmt.{signed_decimal}
use Rattle.std.specs.Prelude.{decimal}
use Rattle.line_grammar.specs.Language.{Stops, AnyOf, IsRead, IsReadTo, IsStuck}
use Rattle.line_grammar.specs.Numbers.{Numbers, IsLonger, Negative, NotNegative, Signed}
use Rattle.line_grammar.specs.Parts.{Led, IsPart}
use Rattle.line_grammar.specs.Words.{Either, further_of, lacks}
use Rattle.line_grammar.proofs.Cuts.{Cut, cut, further, nearer, same}
use Rattle.line_grammar.proofs.Pairs.{one_then}
use Rattle.line_grammar.proofs.Readings.{read_same, stuck_renamed}
use Rattle.line_grammar.proofs.WordFacts.{further_read, lacks_append, lacks_push}

-- what is known of the first byte of a number's text
record StartsAs (n b : ℕ) : Type 0 where
  digit_least : 48 ≤ b
  digit_most : b ≤ 57
  at_most : b - 48 ≤ n
  not_zero : 0 < n → 48 < b

Starts : ℕ → List ℕ → Type 0
Starts n ds = (0 < length ds) × ((b : ℕ) (rest : List ℕ) → ds ≡ b ∷ rest → StartsAs n b)

starts_one : (n : ℕ) → n < 10 → Starts n ((48 + n) ∷ [])
unfolding Starts
starts_one n small = (omega arith, λ b rest e. let first : 48 + n ≡ b = cc in record { digit_least = omega arith; digit_most = omega arith; at_most = omega arith; not_zero = λ h. omega arith })

starts_more : (n : ℕ) (ds : List ℕ) → 10 ≤ n → Starts (n / 10) ds → Starts n (ds ++ ((48 + n % 10) ∷ []))
unfolding Starts
starts_more n [] large s = absurd (omega (arith, s.0))
starts_more n (d ∷ ds) large s = (
  omega arith,
  λ b rest e.
      let first : d ≡ b = cc in
      let old = s.1 d ds refl in
      record { digit_least = omega (arith, old.digit_least); digit_most = omega (arith, old.digit_most); at_most = omega (arith, old.at_most); not_zero = λ h. omega (arith, old.not_zero) },
)

pub starts : (n b : ℕ) (rest : List ℕ) → n < 2 ^ 64 → decimal n ≡ b ∷ rest → (48 ≤ b) × (b ≤ 57) × (b - 48 ≤ n) × (0 < n → 48 < b)
unfolding Starts
starts n b rest bound e =
    let s = (decimal_by_steps Starts starts_one starts_more n bound).1 b rest e in
    (s.digit_least, s.digit_most, s.at_most, s.not_zero)

-- the text of v goes on with b in the text of n
record GoesOn (n v b : ℕ) : Type 0 where
  digit_least : 48 ≤ b
  digit_most : b ≤ 57
  not_zero : 0 < v
  at_most : v * 10 + (b - 48) ≤ n

Longer : ℕ → List ℕ → Type 0
Longer n ds = n < 2 ^ 64 → (ds ≡ decimal n) × ((v b : ℕ) (rest : List ℕ) → v < 2 ^ 64 → ds ≡ decimal v ++ b ∷ rest → GoesOn n v b)

longer_one : (n : ℕ) → n < 10 → Longer n ((48 + n) ∷ [])
unfolding Longer
longer_one n small bound = (
  sym (decimal_digit n small),
  λ v b rest vb e.
      absurd (omega (arith, ap length e, length-append (decimal v) (b ∷ rest), decimal_nonempty v vb)),
)

longer_more : (n : ℕ) (ds : List ℕ) → 10 ≤ n → Longer (n / 10) ds → Longer n (ds ++ ((48 + n % 10) ∷ []))
unfolding Longer
longer_more n ds large h bound =
    let old = h (omega arith) in
    (ap (λ l. l ++ ((48 + n % 10) ∷ [])) old.0 ∙ sym (decimal_step n large bound), λ v b rest vb e. by_cut v b rest vb (cut ds ((48 + n % 10) ∷ []) (decimal v) (b ∷ rest) e))
  where
    by_cut : (v b : ℕ) (rest : List ℕ) → v < 2 ^ 64 → Cut ds ((48 + n % 10) ∷ []) (decimal v) (b ∷ rest) → GoesOn n v b
    by_cut v b rest vb (further x m e f) =
        let first : b ≡ x = cc in
        let inner = (h (omega arith)).1 v x m vb e in
        record { digit_least = omega (arith, inner.digit_least); digit_most = omega (arith, inner.digit_most); not_zero = inner.not_zero; at_most = omega (arith, inner.at_most) }
    by_cut v b rest vb (nearer x m e f) = absurd (omega (arith, ap length f, length-append m (b ∷ rest)))
    by_cut v b rest vb (same e f) =
        let first : 48 + n % 10 ≡ b = cc in
        let value : n / 10 ≡ v = decimal_injective (n / 10) v (omega arith) vb (sym (h (omega arith)).0 ∙ e) in
        record { digit_least = omega arith; digit_most = omega arith; not_zero = omega arith; at_most = omega arith }

pub goes_on : (n v b : ℕ) (rest : List ℕ) → n < 2 ^ 64 → v < 2 ^ 64 → decimal n ≡ decimal v ++ b ∷ rest → (48 ≤ b) × (b ≤ 57) × (0 < v) × (v * 10 + (b - 48) ≤ n)
unfolding Longer
goes_on n v b rest bound vb e =
    let s = (decimal_by_steps Longer longer_one longer_more n bound bound).1 v b rest vb e in
    (s.digit_least, s.digit_most, s.not_zero, s.at_most)

-- a digit behind a number
pub decimal_longer : (v d : ℕ) → 0 < v → d < 10 → v * 10 + d < 2 ^ 64 → decimal (v * 10 + d) ≡ decimal v ++ (48 + d) ∷ []
decimal_longer v d positive small bound =
    let quotient : (v * 10 + d) / 10 ≡ v = omega arith in
    let remainder : (v * 10 + d) % 10 ≡ d = omega arith in
    decimal_step (v * 10 + d) (omega arith) bound ∙ ap (λ q. decimal q ++ (48 + (v * 10 + d) % 10) ∷ []) quotient ∙ ap (λ r. decimal v ++ (48 + r) ∷ []) remainder

-- what the loop of read_number keeps
pub record IsSoFar (text : List ℕ) (least most value size : ℕ) : Type 0 where
  pub begun : 1 ≤ size
  pub within : size ≤ length text
  pub at_most : value ≤ most
  pub split : take size text ≡ decimal value
  pub positive : 0 < value

pub so_far_first : (text : List ℕ) (least most digit : ℕ) → digit < 10 → digit ≤ most → 0 < digit → 0 < length text → get_or text 0 0 ≡ 48 + digit → IsSoFar text least most digit 1
so_far_first text least most digit small fits low long e = record {
  begun = omega arith;
  within = omega arith;
  at_most = fits;
  split = let one : take 1 text ≡ get_or text 0 0 ∷ [] = take_more text 0 0 long in one ∙ ap (λ b. b ∷ []) e ∙ sym (decimal_digit digit small);
  positive = low;
}

pub so_far_next : (text : List ℕ) (least most value size longer : ℕ) → most < 2 ^ 64 → IsSoFar text least most value size → size < length text
    → IsLonger most value (get_or text size 0) longer → IsSoFar text least most longer (size + 1)
so_far_next text least most value size longer bound s more l =
    let b = get_or text size 0 in
    let d : b ≡ 48 + (b - 48) = omega (arith, l.digit_least) in
    record {
      begun = omega arith;
      within = omega arith;
      at_most = l.at_most;
      split = take_more text size 0 more ∙ ap (λ t. t ++ b ∷ []) s.split ∙ ap (λ y. decimal value ++ y ∷ []) d
          ∙ sym (decimal_longer value (b - 48) l.not_zero (omega (arith, l.digit_most)) (omega (arith, l.value_of, l.at_most))) ∙ ap decimal (sym l.value_of);
      positive = omega (arith, l.value_of, l.not_zero);
    }

module _ (least most : ℕ) (bound : most < 2 ^ 64) where
  number_stops : (front rest : List ℕ) (value : ℕ) → value ≤ most → front ≡ decimal value
      → ((byte : ℕ) (more : List ℕ) (longer : ℕ) → rest ≡ byte ∷ more → IsLonger most value byte longer → ⊥)
      → Stops (AnyOf (Numbers least most)) front rest
  number_stops front [] value fits e none = tt
  number_stops front (b ∷ rest) value fits e none = λ (more, (m, number)).
      let text : decimal m ≡ decimal value ++ b ∷ more = sym number.split ∙ one_then front b more ∙ ap (λ l. l ++ b ∷ more) e in
      let on = goes_on m value b more (omega (arith, number.at_most)) (omega arith) text in
      none b rest (value * 10 + (b - 48)) refl (record { digit_least = on.0; digit_most = on.1; not_zero = on.2; value_of = refl; at_most = omega (arith, on.3, number.at_most) })

  pub number_read : (text : List ℕ) (value size : ℕ) → IsSoFar text least most value size → least ≤ value
      → ((byte : ℕ) (more : List ℕ) (longer : ℕ) → drop size text ≡ byte ∷ more → IsLonger most value byte longer → ⊥)
      → IsReadTo (Numbers least most) text value size
  number_read text value size s low none = record {
    within = s.within;
    text_of = record { at_least = low; at_most = s.at_most; split = s.split };
    stops = number_stops (take size text) (drop size text) value s.at_most s.split none;
  }

  -- no number goes on behind a zero
  pub zero_read : (text : List ℕ) → least ≡ 0 → 0 < length text → get_or text 0 0 ≡ 48 → IsReadTo (Numbers least most) text 0 1
  zero_read text low long e =
      let split : take 1 text ≡ decimal 0 = take_more text 0 0 long ∙ ap (λ b. b ∷ []) e ∙ sym (decimal_digit 0 (omega arith)) in
      record {
        within = omega arith;
        text_of = record { at_least = omega (arith, low); at_most = omega arith; split = split };
        stops = number_stops (take 1 text) (drop 1 text) 0 (omega arith) split (λ byte more longer f l. omega (arith, l.not_zero));
      }

  -- a number below the least that digits behind it make one of the language
  pub number_short : (text : List ℕ) (value size : ℕ) → IsSoFar text least most value size → value < least → 0 < value → least ≤ 19 → 199 ≤ most
      → ((byte : ℕ) (more : List ℕ) (longer : ℕ) → drop size text ≡ byte ∷ more → IsLonger most value byte longer → ⊥)
      → IsStuck (Numbers least most) text size
  number_short text value size s low positive small large none = record {
    within = s.within;
    absent = λ (m, number). let same_value : value ≡ m = decimal_injective value m (omega (arith, s.at_most)) (omega (arith, number.at_most)) (sym s.split ∙ number.split) in omega (arith, number.at_least);
    reaches = record {
      begins = (57 ∷ [], (value * 10 + 9, record { at_least = omega arith; at_most = omega arith; split = ap (λ l. l ++ 57 ∷ []) s.split ∙ sym (decimal_longer value 9 positive (omega arith) (omega arith)) }));
      stops = number_stops (take size text) (drop size text) value s.at_most s.split none;
    };
  }

  number_missing_stops : (text : List ℕ) → ((b : ℕ) (rest : List ℕ) → text ≡ b ∷ rest → (m : ℕ) (more : List ℕ) → least ≤ m → m ≤ most → decimal m ≡ b ∷ more → ⊥)
      → Stops (AnyOf (Numbers least most)) [] text
  number_missing_stops [] none = tt
  number_missing_stops (b ∷ rest) none = λ (more, (m, number)). none b rest refl m more number.at_least number.at_most (sym number.split)

  number_missing : (text : List ℕ) → least ≤ most → ((b : ℕ) (rest : List ℕ) → text ≡ b ∷ rest → (m : ℕ) (more : List ℕ) → least ≤ m → m ≤ most → decimal m ≡ b ∷ more → ⊥)
      → IsStuck (Numbers least most) text 0
  number_missing text room none = record {
    within = omega arith;
    absent = λ (m, number). omega (arith, decimal_nonempty m (omega (arith, number.at_most)), ap length number.split);
    reaches = record {
      begins = (decimal least, (least, record { at_least = omega arith; at_most = room; split = refl }));
      stops = number_missing_stops text none;
    };
  }

  -- no digit stands there
  pub no_number : (text : List ℕ) → least ≤ most → ((byte : ℕ) (rest : List ℕ) → text ≡ byte ∷ rest → 48 ≤ byte → 57 < byte) → IsStuck (Numbers least most) text 0
  no_number text room none = number_missing text room (λ b rest e m more low high f.
      let s = starts m b more (omega arith) f in omega (arith, none b rest e s.0, s.1))

  -- a digit stands there that begins no number of the range
  pub wrong_digit : (text : List ℕ) (digit : ℕ) → least ≤ most → get_or text 0 0 ≡ 48 + digit → ((most < digit) ⊎ ((digit ≡ 0) × (0 < least))) → IsStuck (Numbers least most) text 0
  wrong_digit text digit room first wrong = number_missing text room (λ b rest e m more low high f.
      let s = starts m b more (omega arith) f in
      let byte : 48 + digit ≡ b = sym first ∙ ap (λ l. get_or l 0 0) e in
      elim wrong [ inl w ↦ omega (arith, s.2) | inr w ↦ omega (arith, s.3, w.0, w.1) ])

pub numbers_part : (least most separator : ℕ) → most < 2 ^ 64 → separator < 48 → IsPart separator (Numbers least most)
numbers_part least most separator bound low = record {
  unique = λ v w text a b. decimal_injective v w (omega (arith, a.at_most)) (omega (arith, b.at_most)) (sym a.split ∙ b.split);
  apart = λ v w text more a b.
      let on = goes_on w v separator more (omega (arith, b.at_most)) (omega (arith, a.at_most)) (sym b.split ∙ ap (λ l. l ++ separator ∷ more) a.split) in
      omega (arith, on.0);
}

pub some_number : (least most : ℕ) → least ≤ most → AnyOf (Numbers least most) (decimal least)
some_number least most room = (least, record { at_least = omega arith; at_most = room; split = refl })

-- digits alone stand in a number
DigitsLack : ℕ → ℕ → List ℕ → Type 0
DigitsLack separator n ds = IsTrue (lacks separator ds)

lack_one : (separator : ℕ) → separator < 48 → (n : ℕ) → n < 10 → DigitsLack separator n ((48 + n) ∷ [])
unfolding DigitsLack
lack_one separator low n small = lacks_push separator (48 + n) [] refl (λ e. omega arith)

lack_more : (separator : ℕ) → separator < 48 → (n : ℕ) (ds : List ℕ) → 10 ≤ n → DigitsLack separator (n / 10) ds → DigitsLack separator n (ds ++ ((48 + n % 10) ∷ []))
unfolding DigitsLack
lack_more separator low n ds large h = lacks_push separator (48 + n % 10) ds h (λ e. omega arith)

pub decimal_lacks : (separator : ℕ) → separator < 48 → (n : ℕ) → n < 2 ^ 64 → IsTrue (lacks separator (decimal n))
unfolding DigitsLack
decimal_lacks separator low n bound = decimal_by_steps (DigitsLack separator) (lack_one separator low) (lack_more separator low) n bound

-- numbers with a sign
not_negative_back : (z : ℤ) (t : List ℕ) → NotNegative z t → AnyOf (Numbers 0 9223372036854775807) t
not_negative_back (pos n) t a = (n, a)
not_negative_back (negsuc n) t a = absurd a

pub not_negative_stuck : (text : List ℕ) (place : ℕ) → IsStuck (Numbers 0 9223372036854775807) text place → IsStuck NotNegative text place
not_negative_stuck text place stuck = stuck_renamed (Numbers 0 9223372036854775807) NotNegative not_negative_back text place (λ n t a. (pos n, a)) stuck

abbrev Below : ℕ → List ℕ → Type 0
Below = Led 45 (Numbers 1 9223372036854775808)

negative_back : (z : ℤ) (t : List ℕ) → Negative z t → AnyOf Below t
negative_back (pos n) t a = absurd a
negative_back (negsuc n) t a = (suc n, a)

negative_from : (n : ℕ) (t : List ℕ) → Below n t → AnyOf Negative t
negative_from zero t a = let no_such : ⊥ = omega (arith, a.behind.at_least) in absurd no_such
negative_from (suc n) t a = (negsuc n, a)

pub negative_stuck : (text : List ℕ) (place : ℕ) → IsStuck Below text place → IsStuck Negative text place
negative_stuck text place stuck = stuck_renamed Below Negative negative_back text place negative_from stuck

signed_to : (z : ℤ) (t : List ℕ) → Either NotNegative Negative z t → Signed z t
signed_to (pos n) t (inl a) = record { fits = record { sfits = omega (arith, a.at_most) }; split = a.split }
signed_to (negsuc n) t (inl a) = absurd a
signed_to (pos n) t (inr a) = absurd a
signed_to (negsuc n) t (inr a) = record { fits = record { sfits = omega (arith, a.behind.at_most) }; split = a.split ∙ ap (λ l. 45 ∷ l) a.behind.split }

signed_back : (z : ℤ) (t : List ℕ) → Signed z t → Either NotNegative Negative z t
signed_back (pos n) t a = inl (record { at_least = omega arith; at_most = omega (arith, a.fits.sfits); split = a.split })
signed_back (negsuc n) t a = inr (record { rest = decimal (suc n); split = a.split; behind = record { at_least = omega arith; at_most = omega (arith, a.fits.sfits); split = refl } })

pub signed_read : (text : List ℕ) (r q z : Result (ℤ × ℕ) ℕ) → z ≡ further_of r q → IsRead NotNegative text r → IsRead Negative text q → IsRead Signed text z
signed_read text r q z e a b = read_same (Either NotNegative Negative) Signed signed_to signed_back text z (further_read NotNegative Negative text r q z e a b)

pub signed_unique : (y z : ℤ) (t : List ℕ) → Signed y t → Signed z t → y ≡ z
signed_unique y z t a b = signed_decimal_injective y z (omega (arith, a.fits.sfits)) (omega (arith, b.fits.sfits)) (sym a.split ∙ b.split)

pub signed_lacks : (separator : ℕ) → separator < 45 → (z : ℤ) → FitsSigned w64 z → IsTrue (lacks separator (signed_decimal z))
signed_lacks separator low (pos n) h = decimal_lacks separator (omega arith) n (omega (arith, h.sfits))
signed_lacks separator low (negsuc n) h = lacks_append separator (45 ∷ []) (decimal (suc n)) (lacks_push separator 45 [] refl (λ e. omega arith)) (decimal_lacks separator (omega arith) (suc n) (omega (arith, h.sfits)))

-- a digit or a `-` stands first
pub signed_first : (z : ℤ) → FitsSigned w64 z → (b : ℕ) (rest : List ℕ) → signed_decimal z ≡ b ∷ rest → b ≤ 57
signed_first (pos n) h b rest e = (starts n b rest (omega (arith, h.sfits)) e).1
signed_first (negsuc n) h b rest e = let first : 45 ≡ b = cc in omega arith
