-- The rows of operations that were issued one after another.
use Rattle.std.proofs.Common.{◌≡◌, ℕ, suc, zero, ◌+◌, ◌≤◌, cond, List, [], ◌∷◌, ◌++◌, length, filter, find, slice_get, Some, refl, ap, ◌∙◌, subst, arith}
use Rattle.std.proofs.lemmas.Bool.{ne_eqb, eq-eqb}
use Rattle.tp_base.specs.declared.calls.Kind.TheVariants.{Io}
use Rattle.tp_base.specs.declared.ids.ObjectId.{ObjectId}
use Rattle.tp_base.specs.declared.plans.IoStep.TheVariants.{Issue}
use Rattle.tp_base.specs.declared.rows.CallbackRow.{CallbackRow}
use Rattle.tp_base.specs.declared.rows.ObjectRow.{ObjectRow}
use Rattle.tp_model.specs.Calls.Io.{expecting, is_expected_of}
use Rattle.tp_model.specs.Changes.{operated, replaced}
use Rattle.tp_model.specs.Counts.{has_number, is_live, is_running}
use Rattle.tp_model.specs.Sources.{new_object}
use Rattle.port_facts.specs.SetUp.{environ}

-- the row of each device's object
abbrev pub io_object : ObjectRow
io_object = new_object Io (record { 0 = 1 }) 0 environ

abbrev pub expected_row : ℕ → ObjectId → CallbackRow
expected_row number object = expecting number object io_object

abbrev pub issued_row : ℕ → ObjectId → CallbackRow
issued_row number object = operated Issue (expected_row number object)

abbrev pub issued_rows : ℕ → List ObjectId → List CallbackRow
issued_rows number [] = []
issued_rows number (object ∷ objects) = issued_row number object ∷ issued_rows (number + 1) objects

pub length_issued : (number : ℕ) (objects : List ObjectId) → length (issued_rows number objects) ≡ length objects
length_issued number [] = refl
length_issued number (object ∷ objects) = ap suc (length_issued (number + 1) objects)

pub live_issued : (number : ℕ) (objects : List ObjectId) → length (filter (λ (c : CallbackRow). is_live c.status) (issued_rows number objects)) ≡ length objects
live_issued number [] = refl
live_issued number (object ∷ objects) = ap suc (live_issued (number + 1) objects)

pub running_issued : (number : ℕ) (objects : List ObjectId) → length (filter (λ (c : CallbackRow). is_running c.status) (issued_rows number objects)) ≡ 0
running_issued number [] = refl
running_issued number (object ∷ objects) = running_issued (number + 1) objects

pub issued_more : (number last : ℕ) (objects : List ObjectId) (object : ObjectId) → last ≡ number + length objects → issued_rows number (objects ++ object ∷ []) ≡ issued_rows number objects ++ issued_row last object ∷ []
issued_more number last [] object is = ap (λ n. issued_row n object ∷ []) (omega (arith, is))
issued_more number last (o ∷ objects) object is = ap (λ l. issued_row number o ∷ l) (issued_more (number + 1) last objects object (omega (arith, is)))

-- none of them is expected
pub find_expected : (number object : ℕ) (objects : List ObjectId) (more : List CallbackRow) → find (is_expected_of object) (issued_rows number objects ++ more) ≡ find (is_expected_of object) more
find_expected number object [] more = refl
find_expected number object (o ∷ objects) more = find_expected (number + 1) object objects more

-- a row of a higher number takes the place of none of them
pub replaced_behind : (number : ℕ) (r : CallbackRow) (objects : List ObjectId) (more : List CallbackRow) → number + length objects ≤ r.number → replaced r (issued_rows number objects ++ more) ≡ issued_rows number objects ++ replaced r more
replaced_behind number r [] more above = refl
replaced_behind number r (o ∷ objects) more above =
    ap (λ b. cond b r (issued_row number o) ∷ replaced r (issued_rows (number + 1) objects ++ more)) (ne_eqb number r.number (λ e. omega (arith, above, e)))
    ∙ ap (λ l. issued_row number o ∷ l) (replaced_behind (number + 1) r objects more (omega (arith, above)))

pub find_issued : (number i : ℕ) (objects : List ObjectId) (object : ObjectId) → slice_get objects i ≡ Some object → find (has_number (number + i)) (issued_rows number objects) ≡ Some (issued_row (number + i) object)
find_issued number i [] object e = absurd cc
find_issued number zero (o ∷ objects) object e =
    let same : o ≡ object = cc in
    let at : number ≡ number + 0 = omega arith in
    ap (λ b. cond b (Some (issued_row number o)) (find (has_number (number + 0)) (issued_rows (number + 1) objects))) (eq-eqb number (number + 0) at)
    ∙ ap (λ n. Some (issued_row n o)) at ∙ ap (λ x. Some (issued_row (number + 0) x)) same
find_issued number (suc i) (o ∷ objects) object e =
    let on : (number + 1) + i ≡ number + suc i = omega arith in
    ap (λ b. cond b (Some (issued_row number o)) (find (has_number (number + suc i)) (issued_rows (number + 1) objects))) (ne_eqb number (number + suc i) (λ h. omega (arith, h)))
    ∙ subst (λ n. find (has_number n) (issued_rows (number + 1) objects) ≡ Some (issued_row n object)) on (find_issued (number + 1) i objects object e)
