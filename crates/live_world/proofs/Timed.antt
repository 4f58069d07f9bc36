-- What may be set, after an object is made and after one is released.
use Rattle.std.proofs.Common.{◌≡◌, ◌≢◌, ℕ, zero, suc, ◌+◌, ◌-◌, ◌<◌, ◌≤◌, Bool, true, false, cond, not, ◌&&◌, ◌==◌, List, [], ◌∷◌, ◌++◌, length, set, get_or, slice_get, slice_set, Option, Some, None, refl, sym, ap, ◌∙◌, arith, eqb-true, ne_eqb, eq-eqb, length-set}
use Rattle.std.specs.Option.{option_map_or}
use Rattle.std.proofs.lemmas.List.{get_or-set_same, get_or-set_other}
use Rattle.tp_base.specs.declared.limits.Limits.{Limits}
use Rattle.tp_base.specs.declared.ids.ObjectId.{ObjectId}
use Rattle.tp_base.specs.declared.rows.ObjectRow.{ObjectRow}
use Rattle.object_rows.specs.Objects.{is_timed_kind}
use Rattle.sources.specs.Rows.{SourceRows, is_there, without_object}
use Rattle.tp_model.proofs.Lists.{get_set_other}
use Rattle.tp_model.proofs.Refusals.{false_true}
use Rattle.live_world.specs.Parts.{is_timed}
use Rattle.live_world.specs.Invariant.{AreTimed}

abbrev pub with_object : SourceRows → ℕ → SourceRows
with_object sources number = record sources { there = slice_set sources.there number true }

-- the test of a row, if there is one
abbrev is_open : Option ObjectRow → Bool
is_open row = option_map_or (λ (o : ObjectRow). not o.released && is_timed_kind o.kind) row false

-- ---- an object is made

get_last : {X : Type 0} (xs : List X) (x : X) → slice_get (xs ++ x ∷ []) (length xs) ≡ Some x
get_last [] x = refl
get_last (y ∷ ys) x = get_last ys x

get_others : {X : Type 0} (xs : List X) (x : X) (i : ℕ) → i ≢ length xs → slice_get (xs ++ x ∷ []) i ≡ slice_get xs i
get_others [] x zero apart = absurd (apart refl)
get_others [] x (suc i) apart = refl
get_others (y ∷ ys) x zero apart = refl
get_others (y ∷ ys) x (suc i) apart = get_others ys x i (λ e. apart (ap suc e))

get_beyond : {X : Type 0} (xs : List X) (i : ℕ) → length xs ≤ i → slice_get xs i ≡ None
get_beyond [] i le = refl
get_beyond (x ∷ xs) zero le = absurd (omega (arith, le))
get_beyond (x ∷ xs) (suc i) le = get_beyond xs i (omega (arith, le))

-- by its number, which counts from 1
numbered_place : {X : Type 0} (rows : List X) (number : ℕ) → 1 ≤ number → cond (number == 0) None (slice_get rows (number - 1)) ≡ slice_get rows (number - 1)
numbered_place rows number le = ap (λ b. cond b None (slice_get rows (number - 1))) (ne_eqb number 0 (λ e. omega (arith, e, le)))

-- none was made of the next number
none_yet : (rows : List ObjectRow) → is_timed rows (length rows + 1) ≡ false
none_yet rows = ap is_open (numbered_place rows (length rows + 1) (omega arith) ∙ get_beyond rows (length rows + 1 - 1) (omega arith))

pub timed_created : (limits : Limits) (rows : List ObjectRow) (new : ObjectRow) (sources : SourceRows) → new.released ≡ false → length rows < limits.objects → AreTimed limits rows sources
    → AreTimed limits (rows ++ new ∷ []) (cond (is_timed_kind new.kind) (with_object sources (length rows + 1)) sources)
timed_created limits rows new sources unreleased fewer k = by_kind (is_timed_kind new.kind) refl
  where
    last : ℕ
    last = length rows + 1

    is_last : is_timed (rows ++ new ∷ []) last ≡ is_timed_kind new.kind
    is_last =
        ap is_open (numbered_place (rows ++ new ∷ []) last (omega arith) ∙ ap (slice_get (rows ++ new ∷ [])) (omega arith) ∙ get_last rows new)
        ∙ ap (λ b. not b && is_timed_kind new.kind) unreleased

    others : (number : ℕ) → number ≢ last → is_timed (rows ++ new ∷ []) number ≡ is_timed rows number
    others zero apart = refl
    others (suc n) apart =
        ap is_open (numbered_place (rows ++ new ∷ []) (suc n) (omega arith) ∙ get_others rows new (suc n - 1) (λ e. apart (omega (arith, e))) ∙ sym (numbered_place rows (suc n) (omega arith)))

    by_kind : (b : Bool) → is_timed_kind new.kind ≡ b → AreTimed limits (rows ++ new ∷ []) (cond b (with_object sources last) sources)
    by_kind true is =
        record {
          object_limit = k.object_limit;
          kernel_limit = k.kernel_limit;
          places = length-set sources.there last true ∙ k.places;
          there = λ number.
              elim (number == last) as (λ b. (number == last) ≡ b → is_there (with_object sources last) number ≡ is_timed (rows ++ new ∷ []) number) [
                | true ↦ λ e.
                    let same : number ≡ last = eqb-true number last e in
                    let set_here : get_or (set sources.there last true) last false ≡ true = get_or-set_same sources.there last true false (omega (arith, fewer, k.places)) in
                    ap (is_there (with_object sources last)) same ∙ set_here ∙ sym (is_last ∙ is) ∙ ap (is_timed (rows ++ new ∷ [])) (sym same)
                | false ↦ λ e.
                    let apart : number ≢ last = λ same. false_true (sym e ∙ eq-eqb number last same) in
                    get_or-set_other sources.there last number true false apart ∙ k.there number ∙ sym (others number apart)
              ] refl;
        }
    by_kind false is =
        record {
          object_limit = k.object_limit;
          kernel_limit = k.kernel_limit;
          places = k.places;
          there = λ number.
              elim (number == last) as (λ b. (number == last) ≡ b → is_there sources number ≡ is_timed (rows ++ new ∷ []) number) [
                | true ↦ λ e.
                    let same : number ≡ last = eqb-true number last e in
                    k.there number ∙ ap (is_timed rows) same ∙ none_yet rows ∙ sym (is_last ∙ is) ∙ ap (is_timed (rows ++ new ∷ [])) (sym same)
                | false ↦ λ e. k.there number ∙ sym (others number (λ same. false_true (sym e ∙ eq-eqb number last same)))
              ] refl;
        }

-- none is there yet of the next number
pub free_next : (limits : Limits) (rows : List ObjectRow) (sources : SourceRows) → AreTimed limits rows sources → is_there sources (length rows + 1) ≡ false
free_next limits rows sources k = k.there (length rows + 1) ∙ none_yet rows

-- ---- an object is released

unset_there : (there : List Bool) (i : ℕ) → get_or (set there i false) i false ≡ false
unset_there [] i = refl
unset_there (b ∷ bs) zero = refl
unset_there (b ∷ bs) (suc i) = unset_there bs i

set_released : (rows : List ObjectRow) (i : ℕ) (row : ObjectRow) → row.released ≡ true → is_open (slice_get (slice_set rows i row) i) ≡ false
set_released [] i row gone = refl
set_released (r ∷ rs) zero row gone = ap (λ b. not b && is_timed_kind row.kind) gone
set_released (r ∷ rs) (suc i) row gone = set_released rs i row gone

pub timed_released : (limits : Limits) (rows : List ObjectRow) (object : ObjectId) (row : ObjectRow) (sources : SourceRows) → 1 ≤ object.0 → row.released ≡ true → AreTimed limits rows sources
    → AreTimed limits (slice_set rows (object.0 - 1) row) (without_object sources object)
timed_released limits rows object row sources from_one gone k =
    record {
      object_limit = k.object_limit;
      kernel_limit = k.kernel_limit;
      places = length-set sources.there object.0 false ∙ k.places;
      there = λ number.
          elim (number == object.0) as (λ b. (number == object.0) ≡ b → is_there (without_object sources object) number ≡ is_timed after number) [
            | true ↦ λ e.
                let same : number ≡ object.0 = eqb-true number object.0 e in
                ap (is_there (without_object sources object)) same ∙ unset_there sources.there object.0
                ∙ sym (ap is_open (numbered_place after object.0 from_one) ∙ set_released rows (object.0 - 1) row gone) ∙ ap (is_timed after) (sym same)
            | false ↦ λ e.
                let apart : number ≢ object.0 = λ same. false_true (sym e ∙ eq-eqb number object.0 same) in
                get_or-set_other sources.there object.0 number false false apart ∙ k.there number ∙ sym (others number apart)
          ] refl;
    }
  where
    after : List ObjectRow
    after = slice_set rows (object.0 - 1) row

    others : (number : ℕ) → number ≢ object.0 → is_timed after number ≡ is_timed rows number
    others zero apart = refl
    others (suc n) apart =
        ap is_open (numbered_place after (suc n) (omega arith) ∙ get_set_other rows (object.0 - 1) (suc n - 1) row (λ e. apart (omega (arith, e, from_one))) ∙ sym (numbered_place rows (suc n) (omega arith)))

-- ---- an object that the world has is there
