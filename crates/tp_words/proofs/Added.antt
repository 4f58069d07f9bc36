-- Uses that become rows, one behind another, and the texts that are found in them.
use Rattle.std.proofs.Common.{◌≡◌, ◌∙◌, Bool, true, false, cond, List, [], ◌∷◌, ◌++◌, map, Option, Some, None, refl, ap, ap₂, subst, sym, append-nil, append_assoc}
use Rattle.std.specs.Prelude.{◌&&◌, ◌||◌, not, codes, find, fold, option_and_then, option_map, slice_get}
use Rattle.std.specs.List.{list_any}
use Rattle.std.specs.Str.{bytes_eq}
use Rattle.clap.specs.Walk.{Row, Text, at_row, first_of, has_row, more_values, with_default, with_values, without}
use Rattle.clap.specs.declared.builder.value_parser.Reading.TheVariants.{AsWritten}
use Rattle.clap.specs.declared.parser.matches.ValueSource.TheVariants.{CommandLine, DefaultValue}
use Rattle.tp_words.specs.Said.{Use, is_once, is_true, is_used, text_of}
use Rattle.tp_words.proofs.Rulebook.{flag_rule}

abbrev pub row : Use → Row
row entry = record { id = entry.0; values = entry.1 ∷ []; count = None; source = Some CommandLine; reading = AsWritten }

-- each use is one more row, and none is for a name that has a row
abbrev pub add_all : List Row → List Use → Option (List Row)
add_all rows [] = Some rows
add_all rows (entry ∷ uses) = cond (has_row entry.0 rows) None (add_all (rows ++ row entry ∷ []) uses)

or_parts : (a b : Bool) → (a || b) ≡ false → (a ≡ false) × (b ≡ false)
or_parts true b e = absurd (cc)
or_parts false b e = (refl, e)

-- where no row has the name, what is missing comes last
pub at_end : (id : Text) (change : Row → List Row) (missing rows : List Row) → has_row id rows ≡ false → at_row id change missing rows ≡ rows ++ missing
at_end id change missing [] none = refl
at_end id change missing (r ∷ rows) none =
    let parts = or_parts (bytes_eq r.id id) (has_row id rows) none in
    ap (λ b. cond b (change r ++ rows) (r ∷ at_row id change missing rows)) parts.0 ∙ ap (λ rs. r ∷ rs) (at_end id change missing rows parts.1)

-- the row of a use of a name that has none
pub used_once : (entry : Use) (rows : List Row) → has_row entry.0 rows ≡ false → with_values entry.0 AsWritten CommandLine (entry.1 ∷ []) (without entry.0 rows) ≡ rows ++ row entry ∷ []
used_once entry rows none =
    ap (λ rs. with_values entry.0 AsWritten CommandLine (entry.1 ∷ []) rs) (at_end entry.0 (λ _. []) [] rows none ∙ append-nil rows)
    ∙ at_end entry.0 (more_values CommandLine (entry.1 ∷ [])) (row entry ∷ []) rows none

-- ---- all of them are added where each name is used once

abbrev has_any : List Row → List Use → Bool
has_any rows uses = list_any (λ entry. has_row entry.0 rows) uses

has_row_more : (id : Text) (rows : List Row) (entry : Use) → has_row id (rows ++ row entry ∷ []) ≡ (has_row id rows || bytes_eq entry.0 id)
has_row_more id [] entry = go (bytes_eq entry.0 id)
  where
    go : (b : Bool) → (b || false) ≡ b
    go true = refl
    go false = refl
has_row_more id (r ∷ rows) entry = go (bytes_eq r.id id) (has_row_more id rows entry)
  where
    go : (b : Bool) → has_row id (rows ++ row entry ∷ []) ≡ (has_row id rows || bytes_eq entry.0 id)
        → (b || has_row id (rows ++ row entry ∷ [])) ≡ ((b || has_row id rows) || bytes_eq entry.0 id)
    go true e = refl
    go false e = e

mixed : (a b c d : Bool) → ((a || b) || (c || d)) ≡ ((a || c) || (b || d))
mixed true b c d = refl
mixed false true true d = refl
mixed false true false d = refl
mixed false false c d = refl

has_any_more : (rows : List Row) (entry : Use) (uses : List Use) → has_any (rows ++ row entry ∷ []) uses ≡ (has_any rows uses || is_used entry.0 uses)
has_any_more rows entry [] = refl
has_any_more rows entry (u ∷ uses) = ap₂ (λ a b. a || b) (has_row_more u.0 rows entry) (has_any_more rows entry uses) ∙ mixed (has_row u.0 rows) (bytes_eq entry.0 u.0) (has_any rows uses) (is_used entry.0 uses)

pub added : (uses : List Use) (rows : List Row) → add_all rows uses ≡ cond (not (has_any rows uses) && is_once uses) (Some (rows ++ map row uses)) None
added [] rows = ap Some (sym (append-nil rows))
added (entry ∷ uses) rows =
    ap (λ found. cond (has_row entry.0 rows) None found) (added uses (rows ++ row entry ∷ [])
    ∙ ap₂ (λ any all. cond (not any && is_once uses) (Some all) None) (has_any_more rows entry uses) (append_assoc rows (row entry ∷ []) (map row uses)))
    ∙ go (has_row entry.0 rows) (has_any rows uses) (is_used entry.0 uses) (is_once uses)
  where
    go : (a b c d : Bool) → cond a None (cond (not (b || c) && d) (Some (rows ++ row entry ∷ map row uses)) None)
        ≡ cond (not (a || b) && (not c && d)) (Some (rows ++ row entry ∷ map row uses)) None
    go true b c d = refl
    go false true c d = refl
    go false false true d = refl
    go false false false d = refl

none_before : (uses : List Use) → has_any [] uses ≡ false
none_before [] = refl
none_before (entry ∷ uses) = none_before uses

pub added_from_nothing : (uses : List Use) → add_all [] uses ≡ cond (is_once uses) (Some (map row uses)) None
added_from_nothing uses = added uses [] ∙ ap (λ any. cond (not any && is_once uses) (Some (map row uses)) None) (none_before uses)

-- ---- the texts

pub text_in : (id : Text) (uses : List Use) → first_of id (map row uses) ≡ text_of id uses
text_in id [] = refl
text_in id (entry ∷ uses) = go (bytes_eq entry.0 id) (text_in id uses)
  where
    go : (b : Bool) → first_of id (map row uses) ≡ text_of id uses
        → option_and_then (λ r. slice_get r.values 0) (cond b (Some (row entry)) (find (λ r. bytes_eq r.id id) (map row uses)))
        ≡ option_map (λ u. u.1) (cond b (Some entry) (find (λ u. bytes_eq u.0 id) uses))
    go true e = refl
    go false e = e

not_last : (id : Text) (rows : List Row) (last : Row) → bytes_eq last.id id ≡ false → first_of id (rows ++ last ∷ []) ≡ first_of id rows
not_last id rows last other = ap (option_and_then (λ (r : Row). slice_get r.values 0)) (go rows)
  where
    go : (rs : List Row) → find (λ r. bytes_eq r.id id) (rs ++ last ∷ []) ≡ find (λ r. bytes_eq r.id id) rs
    go [] = ap (λ b. cond b (Some last) None) other
    go (r ∷ rs) = ap (λ found. cond (bytes_eq r.id id) (Some r) found) (go rs)

abbrev unset : Text → Row
unset flag = record { id = flag; values = codes "false" ∷ []; count = None; source = Some DefaultValue; reading = AsWritten }

-- a flag's default is a row behind the others, or no row
defaulted : (P : List Row → Type 0) (flag : Text) (rows : List Row) → P rows → P (rows ++ unset flag ∷ []) → P (with_default rows (flag_rule flag))
defaulted P flag rows same more = go (has_row flag rows) refl
  where
    go : (b : Bool) → has_row flag rows ≡ b → P (cond b rows (with_values flag AsWritten DefaultValue (codes "false" ∷ []) rows))
    go true has = same
    go false none = subst P (sym (at_end flag (more_values DefaultValue (codes "false" ∷ [])) (unset flag ∷ []) rows none)) more

-- the flags' defaults change no other text
pub other_text : (id : Text) (flags : List Text) (rows : List Row) → list_any (λ flag. bytes_eq flag id) flags ≡ false
    → first_of id (fold with_default rows (map flag_rule flags)) ≡ first_of id rows
other_text id [] rows other = refl
other_text id (flag ∷ flags) rows other =
    let parts = or_parts (bytes_eq flag id) (list_any (λ f. bytes_eq f id) flags) other in
    other_text id flags (with_default rows (flag_rule flag)) parts.1
    ∙ defaulted (λ rs. first_of id rs ≡ first_of id rows) flag rows refl (not_last id rows (unset flag) parts.0)

-- and leave as it is whether a text is `true`
unset_last : (id flag : Text) (rows : List Row) → is_true (first_of id (rows ++ unset flag ∷ [])) ≡ is_true (first_of id rows)
unset_last id flag [] = go (bytes_eq flag id)
  where
    go : (b : Bool) → is_true (option_and_then (λ (r : Row). slice_get r.values 0) (cond b (Some (unset flag)) None)) ≡ false
    go true = refl
    go false = refl
unset_last id flag (r ∷ rows) = go (bytes_eq r.id id) (unset_last id flag rows)
  where
    go : (b : Bool) → is_true (first_of id (rows ++ unset flag ∷ [])) ≡ is_true (first_of id rows)
        → is_true (option_and_then (λ (x : Row). slice_get x.values 0) (cond b (Some r) (find (λ x. bytes_eq x.id id) (rows ++ unset flag ∷ []))))
        ≡ is_true (option_and_then (λ (x : Row). slice_get x.values 0) (cond b (Some r) (find (λ x. bytes_eq x.id id) rows)))
    go true e = refl
    go false e = e

pub flag_text : (id : Text) (flags : List Text) (rows : List Row) → is_true (first_of id (fold with_default rows (map flag_rule flags))) ≡ is_true (first_of id rows)
flag_text id [] rows = refl
flag_text id (flag ∷ flags) rows =
    flag_text id flags (with_default rows (flag_rule flag))
    ∙ defaulted (λ rs. is_true (first_of id rs) ≡ is_true (first_of id rows)) flag rows refl (unset_last id flag rows)
