-- The rows before and behind the one of a number, and what a family has of them as that row comes, changes or leaves.
use Rattle.std.proofs.Common.{◌≡◌, ◌≢◌, ℕ, ◌+◌, ◌<◌, ◌≤◌, Bool, true, false, not, ◌==◌, List, [], ◌∷◌, ◌++◌, Some, filter, find, map, if◌then◌else◌, refl, sym, ap, ap₂, subst, ◌∙◌, arith, append-nil, ⊎_elim}
use Rattle.std.specs.List.{AllByRecursion}
use Rattle.std.proofs.lemmas.Bool.{cases_eq, eq-eqb, ne_eqb}
use Rattle.std.proofs.lemmas.List.{map-append}
use Rattle.tp_base.specs.declared.rows.CallbackRow.{CallbackRow}
use Rattle.tp_model.specs.Support.Sound.{IsRising}
use Rattle.tp_model.proofs.Lists.{all_along, find_all}
use Rattle.live_callbacks.specs.Held.{AreApart, Held, rows_of}
use Rattle.live_callbacks.specs.Lists.{Mark, list_at, mark, marks, keys_in}
use Rattle.live_callbacks.proofs.Settled.{IsStep, MarksRise, at_skip, others}

-- ---- lists in which one alone passes

module _ {X : Type 0} (t : X → Bool) where
  abbrev pub AllFail : List X → Type 0
  AllFail xs = AllByRecursion (λ x. t x ≡ false) xs

  all_kept : (xs : List X) → AllFail xs → filter (λ x. not (t x)) xs ≡ xs
  all_kept [] fail = refl
  all_kept (x ∷ xs) fail = rw fail.0 (ap (λ ys. x ∷ ys) (all_kept xs fail.1))

  all_same : (f : X → X) (xs : List X) → AllFail xs → map (λ x. if t x then f x else x) xs ≡ xs
  all_same f [] fail = refl
  all_same f (x ∷ xs) fail = rw fail.0 (ap (λ ys. x ∷ ys) (all_same f xs fail.1))

  pub one_out : (xs : List X) (y : X) (ys : List X) → AllFail xs → t y ≡ true → AllFail ys → filter (λ x. not (t x)) (xs ++ y ∷ ys) ≡ xs ++ ys
  one_out [] y ys front is back = rw is (all_kept ys back)
  one_out (x ∷ xs) y ys front is back = rw front.0 (ap (λ zs. x ∷ zs) (one_out xs y ys front.1 is back))

  pub one_put : (f : X → X) (xs : List X) (y : X) (ys : List X) → AllFail xs → t y ≡ true → AllFail ys → map (λ x. if t x then f x else x) (xs ++ y ∷ ys) ≡ xs ++ f y ∷ ys
  one_put f [] y ys front is back = rw is (ap (λ zs. f y ∷ zs) (all_same f ys back))
  one_put f (x ∷ xs) y ys front is back = rw front.0 (ap (λ zs. x ∷ zs) (one_put f xs y ys front.1 is back))

all_image : {X Y : Type 0} (P : Y → Type 0) (f : X → Y) (xs : List X) → AllByRecursion (λ x. P (f x)) xs → AllByRecursion P (map f xs)
all_image P f [] all = tt
all_image P f (x ∷ xs) all = (all.0, all_image P f xs all.1)

-- ---- the rows before and behind one

pub record Parts (hs : List Held) (h : Held) : Type 0 where
  pub lo : List Held
  pub hi : List Held
  pub is : hs ≡ lo ++ h ∷ hi
  pub low : AllByRecursion (λ (g : Held). g.row.number < h.row.number) lo
  pub high : AllByRecursion (λ (g : Held). h.row.number < g.row.number) hi
  pub low_keys : AllByRecursion (λ (g : Held). g.key ≢ h.key) lo
  pub high_keys : AllByRecursion (λ (g : Held). g.key ≢ h.key) hi

pub rising_above : (low next_number : ℕ) (hs : List Held) → IsRising low next_number (rows_of hs) → AllByRecursion (λ (g : Held). low ≤ g.row.number) hs
rising_above low next_number [] rising = tt
rising_above low next_number (h ∷ hs) rising =
    (rising.0, all_along (λ (g : Held). h.row.number + 1 ≤ g.row.number) (λ (g : Held). low ≤ g.row.number) (λ g le. omega (arith, le, rising.0)) hs (rising_above (h.row.number + 1) next_number hs rising.1))

pub marks_rise : (line : CallbackRow → ℕ) (low next_number : ℕ) (hs : List Held) → IsRising low next_number (rows_of hs) → MarksRise low (marks line hs)
marks_rise line low next_number [] rising = tt
marks_rise line low next_number (h ∷ hs) rising = (rising.0, marks_rise line (h.row.number + 1) next_number hs rising.1)

pub parts : (low next_number : ℕ) (hs : List Held) (h : Held) → IsRising low next_number (rows_of hs) → AreApart hs → find (λ g. g.row.number == h.row.number) hs ≡ Some h → Parts hs h
parts low next_number [] h rising apart found = absurd (cc)
parts low next_number (g ∷ hs) h rising apart found =
    let above = rising_above (g.row.number + 1) next_number hs rising.1 in
    elim (g.row.number == h.row.number) as (λ b. (if b then Some g else find (λ g. g.row.number == h.row.number) hs) ≡ Some h → Parts (g ∷ hs) h) [
      | true ↦ λ here.
          let same : g ≡ h = cc in
          record {
            lo = [];
            hi = hs;
            is = ap (λ (x : Held). x ∷ hs) same;
            low = tt;
            high = subst (λ (x : Held). AllByRecursion (λ (y : Held). x.row.number < y.row.number) hs) same (all_along (λ (x : Held). g.row.number + 1 ≤ x.row.number) (λ (x : Held). g.row.number < x.row.number) (λ x le. omega (arith, le)) hs above);
            low_keys = tt;
            high_keys = subst (λ (x : Held). AllByRecursion (λ (y : Held). y.key ≢ x.key) hs) same apart.0;
          }
      | false ↦ λ later.
          let rest = parts (g.row.number + 1) next_number hs h rising.1 apart.1 later in
          let behind : g.row.number + 1 ≤ h.row.number = find_all (λ (x : Held). g.row.number + 1 ≤ x.row.number) (λ (x : Held). x.row.number == h.row.number) h hs above later in
          let other : h.key ≢ g.key = find_all (λ (x : Held). x.key ≢ g.key) (λ (x : Held). x.row.number == h.row.number) h hs apart.0 later in
          record {
            lo = g ∷ rest.lo;
            hi = rest.hi;
            is = ap (λ xs. g ∷ xs) rest.is;
            low = (omega (arith, behind), rest.low);
            high = rest.high;
            low_keys = ((λ e. other (sym e)), rest.low_keys);
            high_keys = rest.high_keys;
          }
    ] found

-- the row of a number among the rows is that of a key
pub record IsHeld (hs : List Held) (r : CallbackRow) : Type 0 where
  pub held : Held
  pub found : find (λ (g : Held). g.row.number == r.number) hs ≡ Some held
  pub row : held.row ≡ r

pub is_held : (r : CallbackRow) (hs : List Held) → find (λ c. c.number == r.number) (rows_of hs) ≡ Some r → IsHeld hs r
is_held r [] found = absurd (cc)
is_held r (h ∷ hs) found =
    elim (h.row.number == r.number) as (λ b. (h.row.number == r.number) ≡ b → (if b then Some h.row else find (λ c. c.number == r.number) (rows_of hs)) ≡ Some r → IsHeld (h ∷ hs) r) [
      | true ↦ λ is here. record { held = h; found = ap (λ b. if b then Some h else find (λ (g : Held). g.row.number == r.number) hs) is; row = cc }
      | false ↦ λ is later.
          let rest = is_held r hs later in
          record { held = rest.held; found = ap (λ b. if b then Some h else find (λ (g : Held). g.row.number == r.number) hs) is ∙ rest.found; row = rest.row }
    ] refl found

-- ---- what a family has, step by step

module _ (heads : ℕ) (line : CallbackRow → ℕ) where
  marked : (P : Mark → Type 0) (xs : List Held) → AllByRecursion (λ h. P (mark line h)) xs → AllByRecursion P (marks line xs)
  marked P xs all = all_image P (mark line) xs all

  key_fails : (key : ℕ) (xs : List Held) → AllByRecursion (λ (h : Held). h.key ≢ key) xs → AllFail (λ (m : Mark). m.key == key) (marks line xs)
  key_fails key xs apart = marked (λ (m : Mark). (m.key == key) ≡ false) xs (all_along (λ (h : Held). h.key ≢ key) (λ (h : Held). (h.key == key) ≡ false) (λ h other. ne_eqb h.key key other) xs apart)

  one_shows : (key number list s : ℕ) → keys_in s (record { key = key; number = number; list = list } ∷ []) ≡ if s == list then key ∷ [] else []
  one_shows key number list s =
      ⊎_elim
      (λ (same : s ≡ list). rw (eq-eqb list s (sym same), eq-eqb s list same) refl)
      (λ (other : s ≢ list). rw (ne_eqb list s (λ e. other (sym e)), ne_eqb s list other) refl)
      (cases_eq s list)

  -- a row comes behind the others, under a new key
  pub came : (hs : List Held) (h : Held) → AllByRecursion (λ (g : Held). g.key ≢ h.key) hs → AllByRecursion (λ (g : Held). g.row.number < h.row.number) hs → IsStep heads (marks line hs) (marks line (hs ++ h ∷ [])) h.key h.row.number (line h.row)
  came hs h fresh low = record {
    lo = marks line hs;
    new = mark line h ∷ [];
    hi = [];
    rest = all_kept (λ (m : Mark). m.key == h.key) (marks line hs) (key_fails h.key hs fresh) ∙ sym (append-nil (marks line hs));
    after = map-append (mark line) hs (h ∷ []);
    low = marked (λ (m : Mark). m.number < h.row.number) hs low;
    high = tt;
    are = (refl, tt);
    shows = λ s lt. one_shows h.key h.row.number (line h.row) s;
    stands = ap (λ b. if b then line h.row else heads) (eq-eqb h.key h.key refl);
    same = λ at lt. absurd (omega (arith, at, lt, none_at));
  }
    where
      none_at : list_at heads h.key (marks line hs) ≡ heads
      none_at = ap (list_at heads h.key) (sym (append-nil (marks line hs))) ∙ at_skip heads h.key (marks line hs) [] (marked (λ (m : Mark). m.key ≢ h.key) hs fresh)

  module _ (hs : List Held) (h : Held) (p : Parts hs h) where
    pub before : marks line hs ≡ marks line p.lo ++ mark line h ∷ marks line p.hi
    before = ap (marks line) p.is ∙ map-append (mark line) p.lo (h ∷ p.hi)

    rest_of : others h.key (marks line hs) ≡ marks line p.lo ++ marks line p.hi
    rest_of = ap (others h.key) before ∙ one_out (λ (m : Mark). m.key == h.key) (marks line p.lo) (mark line h) (marks line p.hi) (key_fails h.key p.lo p.low_keys) (eq-eqb h.key h.key refl) (key_fails h.key p.hi p.high_keys)

    pub own_list : list_at heads h.key (marks line hs) ≡ line h.row
    own_list =
        ap (list_at heads h.key) before
        ∙ at_skip heads h.key (marks line p.lo) (mark line h ∷ marks line p.hi) (marked (λ (m : Mark). m.key ≢ h.key) p.lo p.low_keys)
        ∙ ap (λ b. if b then line h.row else list_at heads h.key (marks line p.hi)) (eq-eqb h.key h.key refl)

    -- another row of its number comes in its place
    pub changed : (r : CallbackRow) → r.number ≡ h.row.number → IsStep heads (marks line hs) (marks line (p.lo ++ record { key = h.key; row = r } ∷ p.hi)) h.key r.number (line r)
    changed r same =
        let m : Mark = record { key = h.key; number = r.number; list = line r } in
        record {
          lo = marks line p.lo;
          new = m ∷ [];
          hi = marks line p.hi;
          rest = rest_of;
          after = map-append (mark line) p.lo (record { key = h.key; row = r } ∷ p.hi);
          low = marked (λ (x : Mark). x.number < r.number) p.lo (all_along (λ (g : Held). g.row.number < h.row.number) (λ (g : Held). g.row.number < r.number) (λ g lt. omega (arith, lt, same)) p.lo p.low);
          high = marked (λ (x : Mark). r.number < x.number) p.hi (all_along (λ (g : Held). h.row.number < g.row.number) (λ (g : Held). r.number < g.row.number) (λ g lt. omega (arith, lt, same)) p.hi p.high);
          are = (refl, tt);
          shows = λ s lt. one_shows h.key r.number (line r) s;
          stands = ap (λ b. if b then line r else heads) (eq-eqb h.key h.key refl);
          same = λ at lt.
              map-append (mark line) p.lo (record { key = h.key; row = r } ∷ p.hi)
              ∙ ap₂ (λ (n l : ℕ). let x : Mark = record { key = h.key; number = n; list = l } in marks line p.lo ++ x ∷ marks line p.hi) same (sym at ∙ own_list)
              ∙ sym before;
        }

    -- it leaves
    pub left : IsStep heads (marks line hs) (marks line (p.lo ++ p.hi)) h.key h.row.number heads
    left = record {
      lo = marks line p.lo;
      new = [];
      hi = marks line p.hi;
      rest = rest_of;
      after = map-append (mark line) p.lo p.hi;
      low = marked (λ (x : Mark). x.number < h.row.number) p.lo p.low;
      high = marked (λ (x : Mark). h.row.number < x.number) p.hi p.high;
      are = tt;
      shows = λ s lt. sym (ap (λ b. if b then h.key ∷ [] else []) (ne_eqb s heads (λ e. absurd (omega (arith, e, lt)))));
      stands = refl;
      same = λ at lt. absurd (omega (arith, lt));
    }
