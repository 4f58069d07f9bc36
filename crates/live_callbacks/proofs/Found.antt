-- What the lists tell of the rows.
use Rattle.std.proofs.Common.{◌≡◌, ◌≢◌, ℕ, ◌<◌, Bool, true, false, not, ◌&&◌, ◌==◌, List, [], ◌∷◌, ◌++◌, Option, Some, None, refl, sym, ap, ap₂, subst, ◌∙◌, arith}
use Rattle.std.proofs.Common.{filter, find, length, map, nat_lt, if◌then◌else◌, slice_get, eq-eqb, option_map, le-ltb, lt-ltb}
use Rattle.std.specs.Prelude.{IfSome, is_some}
use Rattle.std.specs.List.{AllByRecursion, list_any}
use Rattle.std.proofs.lemmas.Bool.{ne_eqb}
use Rattle.std.proofs.lemmas.Bool.Decides.{nat_tests}
use Rattle.tp_base.specs.declared.rows.CallbackRow.{CallbackRow}
use Rattle.tp_model.proofs.Lists.{find_all}
use Rattle.linked_lists.specs.Linked.{Linked, list_of, owner_of, place_after}
use Rattle.live_callbacks.specs.Held.{AreApart, Held, IsHeldUnder, row_under, rows_of}
use Rattle.live_callbacks.specs.Lists.{AreListed, Mark, mark, marks, keys_in}
use Rattle.live_callbacks.proofs.Parts.{Parts, before, own_list}
use Rattle.live_callbacks.proofs.Settled.{keys-append}

-- ---- tests

pub first_filtered : (p : CallbackRow → Bool) (cs : List CallbackRow) → slice_get (filter p cs) 0 ≡ find p cs
first_filtered p [] = refl
first_filtered p (c ∷ cs) = grind (arith, first_filtered p cs)

pub find_filter : (p t : CallbackRow → Bool) (cs : List CallbackRow) → find t (filter p cs) ≡ find (λ c. p c && t c) cs
find_filter p t [] = refl
find_filter p t (c ∷ cs) = grind (arith, find_filter p t cs)

pub any_some : (p : CallbackRow → Bool) (cs : List CallbackRow) → not (length (filter p cs) == 0) ≡ list_any p cs
any_some p [] = refl
any_some p (c ∷ cs) = grind (arith, nat_tests, any_some p cs)

-- tests that agree on all
abbrev pub AllAgree : (CallbackRow → Bool) → (CallbackRow → Bool) → List CallbackRow → Type 0
AllAgree t p cs = AllByRecursion (λ (c : CallbackRow). t c ≡ p c) cs

pub find_same : (t p : CallbackRow → Bool) (cs : List CallbackRow) → AllAgree t p cs → find t cs ≡ find p cs
find_same t p [] agree = refl
find_same t p (c ∷ cs) agree = ap₂ (λ (b : Bool) (o : Option CallbackRow). if b then Some c else o) agree.0 (find_same t p cs agree.1)

pub filter_same : (t p : CallbackRow → Bool) (cs : List CallbackRow) → AllAgree t p cs → filter t cs ≡ filter p cs
filter_same t p [] agree = refl
filter_same t p (c ∷ cs) agree = ap₂ (λ (b : Bool) (ds : List CallbackRow). if b then c ∷ ds else ds) agree.0 (filter_same t p cs agree.1)

-- a test that fails at all
pub find_none : (p : CallbackRow → Bool) (cs : List CallbackRow) → AllByRecursion (λ (c : CallbackRow). p c ≡ false) cs → find p cs ≡ None
find_none p [] fail = refl
find_none p (c ∷ cs) fail = rw fail.0 (find_none p cs fail.1)

pub filter_none : (p : CallbackRow → Bool) (cs : List CallbackRow) → AllByRecursion (λ (c : CallbackRow). p c ≡ false) cs → filter p cs ≡ []
filter_none p [] fail = refl
filter_none p (c ∷ cs) fail = rw fail.0 (filter_none p cs fail.1)

-- ---- rows by keys

find_rows : (t : CallbackRow → Bool) (hs : List Held) → find t (rows_of hs) ≡ option_map (λ (h : Held). h.row) (find (λ h. t h.row) hs)
find_rows t [] = refl
find_rows t (h ∷ hs) = grind (arith, find_rows t hs)

pub keyed : (t : Held → Bool) (hs : List Held) (h : Held) → AreApart hs → find t hs ≡ Some h → find (λ (g : Held). g.key == h.key) hs ≡ Some h
keyed t [] h apart found = absurd (cc)
keyed t (g ∷ hs) h apart found =
    elim (t g) as (λ b. (if b then Some g else find t hs) ≡ Some h → find (λ (x : Held). x.key == h.key) (g ∷ hs) ≡ Some h) [
      | true ↦ λ here.
          let same : g ≡ h = cc in
          ap (λ b. if b then Some g else find (λ (x : Held). x.key == h.key) hs) (eq-eqb g.key h.key (ap (λ (x : Held). x.key) same)) ∙ ap Some same
      | false ↦ λ later.
          let other : h.key ≢ g.key = find_all (λ (x : Held). x.key ≢ g.key) t h hs apart.0 later in
          ap (λ b. if b then Some g else find (λ (x : Held). x.key == h.key) hs) (ne_eqb g.key h.key (λ e. other (sym e))) ∙ keyed t hs h apart.1 later
    ] found

module _ (hs : List Held) (apart : AreApart hs) where
  abbrev pub key_of : Option Held → Option ℕ
  key_of o = option_map (λ (h : Held). h.key) o

  held_under : (o : Option Held) → ((h : Held) → o ≡ Some h → find (λ (g : Held). g.key == h.key) hs ≡ Some h) → IfSome (key_of o) (IsHeldUnder hs)
  held_under None at = tt
  held_under (Some h) at = ap is_some (at h refl)

  row_at_key : (o : Option Held) → ((h : Held) → o ≡ Some h → find (λ (g : Held). g.key == h.key) hs ≡ Some h) → row_under hs (key_of o) ≡ option_map (λ (h : Held). h.row) o
  row_at_key None at = refl
  row_at_key (Some h) at = ap (option_map (λ (g : Held). g.row)) (at h refl)

  -- the key of what a test finds
  module _ (t : CallbackRow → Bool) (key : Option ℕ) (is : key ≡ key_of (find (λ h. t h.row) hs)) where
    pub found_held : IfSome key (IsHeldUnder hs)
    found_held = subst (λ o. IfSome o (IsHeldUnder hs)) (sym is) (held_under (find (λ h. t h.row) hs) (λ h found. keyed (λ g. t g.row) hs h apart found))

    pub found_row : row_under hs key ≡ find t (rows_of hs)
    found_row = ap (row_under hs) is ∙ row_at_key (find (λ h. t h.row) hs) (λ h found. keyed (λ g. t g.row) hs h apart found) ∙ sym (find_rows t hs)

-- ---- what a list has

module _ (line : CallbackRow → ℕ) where
  first_key : (list : ℕ) (hs : List Held) → slice_get (keys_in list (marks line hs)) 0 ≡ option_map (λ (h : Held). h.key) (find (λ h. line h.row == list) hs)
  first_key list [] = refl
  first_key list (h ∷ hs) = grind (arith, first_key list hs)

  pub many_keys : (list : ℕ) (hs : List Held) → length (keys_in list (marks line hs)) ≡ length (filter (λ c. line c == list) (rows_of hs))
  many_keys list [] = refl
  many_keys list (h ∷ hs) = grind (arith, many_keys list hs)

  pub any_line : {heads places : ℕ} {all : Linked} (list : ℕ) (hs : List Held) → AreListed heads places (marks line hs) all → list < heads → not (length (list_of all list) == 0) ≡ list_any (λ c. line c == list) (rows_of hs)
  any_line list hs are within = ap (λ n. not (n == 0)) (ap length (are.listed list within) ∙ many_keys list hs) ∙ any_some (λ c. line c == list) (rows_of hs)

  -- the first key
  pub first_is : {heads places : ℕ} {all : Linked} (list : ℕ) (hs : List Held) → AreListed heads places (marks line hs) all → list < heads → slice_get (list_of all list) 0 ≡ option_map (λ (h : Held). h.key) (find (λ h. line h.row == list) hs)
  first_is list hs are within = ap (λ (ps : List ℕ). slice_get ps 0) (are.listed list within) ∙ first_key list hs

  -- and the next one
  after_skip : (p : ℕ) (xs ys : List ℕ) → AllByRecursion (λ x. x ≢ p) xs → place_after p (xs ++ p ∷ ys) ≡ slice_get ys 0
  after_skip p [] ys apart = ap (λ b. if b then slice_get ys 0 else place_after p ys) (eq-eqb p p refl)
  after_skip p (x ∷ xs) ys apart = rw (ne_eqb x p apart.0) (after_skip p xs ys apart.1)

  keys_apart : (key list : ℕ) (hs : List Held) → AllByRecursion (λ (h : Held). h.key ≢ key) hs → AllByRecursion (λ p. p ≢ key) (keys_in list (marks line hs))
  keys_apart key list [] apart = tt
  keys_apart key list (h ∷ hs) apart =
      elim (line h.row == list) as (λ b. AllByRecursion (λ p. p ≢ key) (map (λ (m : Mark). m.key) (if b then mark line h ∷ filter (λ (m : Mark). m.list == list) (marks line hs) else filter (λ (m : Mark). m.list == list) (marks line hs)))) [
        | true ↦ ((λ e. apart.0 (omega (arith, e))), keys_apart key list hs apart.1)
        | false ↦ keys_apart key list hs apart.1
      ]

  module _ (hs : List Held) (h : Held) (p : Parts hs h) (list : ℕ) (own : line h.row ≡ list) where
    abbrev pub is_later : CallbackRow → Bool
    is_later c = (line c == list) && nat_lt h.row.number c.number

    keys_here : keys_in list (marks line hs) ≡ keys_in list (marks line p.lo) ++ h.key ∷ keys_in list (marks line p.hi)
    keys_here =
        ap (keys_in list) (before 0 line hs h p)
        ∙ keys-append list (marks line p.lo) (mark line h ∷ marks line p.hi)
        ∙ ap (λ b. keys_in list (marks line p.lo) ++ map (λ (m : Mark). m.key) (if b then mark line h ∷ filter (λ (m : Mark). m.list == list) (marks line p.hi) else filter (λ (m : Mark). m.list == list) (marks line p.hi))) (eq-eqb (line h.row) list own)

    none_before : (xs ys : List Held) → AllByRecursion (λ (g : Held). g.row.number < h.row.number) xs → find (λ g. is_later g.row) (xs ++ h ∷ ys) ≡ find (λ g. is_later g.row) ys
    none_before [] ys low =
        ap (λ b. if (line h.row == list) && b then Some h else find (λ g. is_later g.row) ys) (le-ltb h.row.number h.row.number (omega arith))
        ∙ elim (line h.row == list) as (λ b. (if b && false then Some h else find (λ g. is_later g.row) ys) ≡ find (λ g. is_later g.row) ys) [ true ↦ refl | false ↦ refl ]
    none_before (g ∷ xs) ys low =
        ap (λ b. if (line g.row == list) && b then Some g else find (λ x. is_later x.row) (xs ++ h ∷ ys)) (le-ltb h.row.number g.row.number (omega (arith, low.0)))
        ∙ elim (line g.row == list) as (λ b. (if b && false then Some g else find (λ x. is_later x.row) (xs ++ h ∷ ys)) ≡ find (λ x. is_later x.row) (xs ++ h ∷ ys)) [ true ↦ refl | false ↦ refl ]
        ∙ none_before xs ys low.1

    all_behind : (ys : List Held) → AllByRecursion (λ (g : Held). h.row.number < g.row.number) ys → find (λ g. is_later g.row) ys ≡ find (λ g. line g.row == list) ys
    all_behind [] high = refl
    all_behind (g ∷ ys) high =
        ap (λ b. if (line g.row == list) && b then Some g else find (λ x. is_later x.row) ys) (lt-ltb h.row.number g.row.number high.0)
        ∙ elim (line g.row == list) as (λ b. (if b && true then Some g else find (λ x. is_later x.row) ys) ≡ (if b then Some g else find (λ x. line x.row == list) ys)) [ true ↦ refl | false ↦ all_behind ys high.1 ]

    pub owner_is : {heads places : ℕ} {all : Linked} → AreListed heads places (marks line hs) all → owner_of all h.key ≡ list
    owner_is are = are.owned h.key ∙ own_list _ line hs h p ∙ own

    pub next_is : {heads places : ℕ} {all : Linked} → AreListed heads places (marks line hs) all → list < heads → place_after h.key (list_of all list) ≡ option_map (λ (g : Held). g.key) (find (λ g. is_later g.row) hs)
    next_is are within =
        ap (place_after h.key) (are.listed list within ∙ keys_here)
        ∙ after_skip h.key (keys_in list (marks line p.lo)) (keys_in list (marks line p.hi)) (keys_apart h.key list p.lo p.low_keys)
        ∙ first_key list p.hi
        ∙ ap (option_map (λ (g : Held). g.key)) (sym (ap (find (λ g. is_later g.row)) p.is ∙ none_before p.lo p.hi p.low ∙ all_behind p.hi p.high))

    pub later_row : find is_later (rows_of hs) ≡ find (λ c. nat_lt h.row.number c.number) (filter (λ c. line c == list) (rows_of hs))
    later_row = sym (find_filter (λ c. line c == list) (λ c. nat_lt h.row.number c.number) (rows_of hs))
