-- The lines of what a step came to.
use Rattle.std.proofs.Common.{◌≡◌, ℕ, zero, suc, ◌+◌, ◌<◌, ◌≤◌, Bool, true, false, cond, List, [], ◌∷◌, ◌++◌, map, filter, refl, sym, ap, ap₂, ◌∙◌, arith}
use Rattle.std.specs.Prelude.{Err, Ok, OnOk, Result}
use Rattle.std.specs.List.{flat_map, range_with_len}
use Rattle.std.proofs.lemmas.List.{append-nil, append_assoc, map-append}
use Rattle.std.proofs.lemmas.List.Elements.{filter-append}
use Rattle.line_grammar.specs.Traces.{trace_text}
use Rattle.line_grammar.proofs.TraceFacts.{trace_text-append}
use Rattle.tp_base.specs.declared.ids.Who.{Who}
use Rattle.tp_library.specs.Libraries.{is_unloaded, play_at, step_at, told_at, unloaded, IsLibrary}
use Rattle.tp_library.specs.Lines.{answer_text, lines_of_told, output_of, unloaded_text}
use Rattle.tp_library.specs.Shelves.{Stand}
use Rattle.tp_library.specs.declared.LibAnswer.{LibAnswer}
use Rattle.tp_library.specs.declared.LibCall.{LibCall}

-- the lines of the libraries up to a number that pass a test
abbrev pub unloaded_to : (ℕ → Bool) → ℕ → List ℕ
unloaded_to test most = trace_text (map unloaded_text (filter test (range_with_len 1 most)))

range_more : (first count : ℕ) → range_with_len first (count + 1) ≡ range_with_len first count ++ (first + count) ∷ []
range_more first zero = ap (λ n. n ∷ []) (omega arith)
range_more first (suc count) =
    let counts : suc count + 1 ≡ suc (count + 1) = omega arith in
    let last : first + 1 + count ≡ first + suc count = omega arith in
    ap (λ n. range_with_len first n) counts ∙ ap (λ ns. first ∷ ns) (range_more (first + 1) count ∙ ap (λ n. range_with_len (first + 1) count ++ n ∷ []) last)

one_more : (test : ℕ → Bool) (most : ℕ) → unloaded_to test (most + 1) ≡ unloaded_to test most ++ trace_text (map unloaded_text (filter test ((1 + most) ∷ [])))
one_more test most =
    ap (λ ns. trace_text (map unloaded_text (filter test ns))) (range_more 1 most)
    ∙ ap (λ ns. trace_text (map unloaded_text ns)) (filter-append test (range_with_len 1 most) ((1 + most) ∷ []))
    ∙ ap trace_text (map-append unloaded_text (filter test (range_with_len 1 most)) (filter test ((1 + most) ∷ [])))
    ∙ trace_text-append (map unloaded_text (filter test (range_with_len 1 most))) (map unloaded_text (filter test ((1 + most) ∷ [])))

-- a library more was looked at: it was let go, or it wasn't
abbrev lines_if : Bool → ℕ → List ℕ
lines_if gone library = cond gone (unloaded_text library ++ 10 ∷ []) []

looked : (test : ℕ → Bool) (most : ℕ) (gone : Bool) → test (most + 1) ≡ gone → unloaded_to test (most + 1) ≡ unloaded_to test most ++ lines_if gone (most + 1)
looked test most gone is =
    one_more test most
    ∙ ap (λ n. unloaded_to test most ++ trace_text (map unloaded_text (filter test (n ∷ [])))) (omega arith)
    ∙ ap (λ b. unloaded_to test most ++ trace_text (map unloaded_text (cond b ((most + 1) ∷ []) []))) is
    ∙ ap (λ t. unloaded_to test most ++ t) (as_text gone)
  where
    as_text : (b : Bool) → trace_text (map unloaded_text (cond b ((most + 1) ∷ []) [])) ≡ lines_if b (most + 1)
    as_text true = refl
    as_text false = refl

pub next_unloaded : (test : ℕ → Bool) (most library : ℕ) (before now after : List ℕ) → library ≡ most + 1 → now ≡ before ++ unloaded_to test most → test library ≡ true → after ≡ now ++ (unloaded_text library ++ 10 ∷ [])
    → after ≡ before ++ unloaded_to test (most + 1)
next_unloaded test most library before now after at so_far is printed =
    printed ∙ ap₂ (λ x n. x ++ (unloaded_text n ++ 10 ∷ [])) so_far at ∙ append_assoc before (unloaded_to test most) (unloaded_text (most + 1) ++ 10 ∷ [])
    ∙ ap (λ t. before ++ t) (sym (looked test most true (ap test (sym at) ∙ is)))

pub next_held : (test : ℕ → Bool) (most library : ℕ) (before now : List ℕ) → library ≡ most + 1 → now ≡ before ++ unloaded_to test most → test library ≡ false → now ≡ before ++ unloaded_to test (most + 1)
next_held test most library before now at so_far is =
    so_far ∙ ap (λ t. before ++ t) (sym (append-nil (unloaded_to test most)) ∙ sym (looked test most false (ap test (sym at) ∙ is)))

-- ---- what a line comes to

filter_same : (p q : ℕ → Bool) (first count : ℕ) → ((n : ℕ) → first ≤ n → n < first + count → p n ≡ q n) → filter p (range_with_len first count) ≡ filter q (range_with_len first count)
filter_same p q first zero same = refl
filter_same p q first (suc count) same =
    ap₂ (λ b ns. cond b (first ∷ ns) ns) (same first (omega arith) (omega arith))
    (filter_same p q (first + 1) count (λ n least most. same n (omega (arith, least)) (omega (arith, most))))

-- the line of its answer and those of the libraries that it let go, and what further lines come to
pub line_told : (t next : Stand) (who : Who) (call : LibCall) (answer : LibAnswer) (gone : ℕ → Bool) (before printed after : List ℕ) → answer ≡ (step_at t who call).1 → next ≡ (step_at t who call).0
    → ((library : ℕ) → IsLibrary library → gone library ≡ is_unloaded t next library) → printed ≡ before ++ (answer_text answer ++ 10 ∷ []) → after ≡ printed ++ unloaded_to gone 255
    → (more : List (Who × LibCall)) → before ++ output_of (play_at t ((who, call) ∷ more)) ≡ after ++ output_of (play_at next more)
line_told t next who call answer gone before printed after answers leads lets_go prints ends more =
    ap (λ x. before ++ x) (whole ∙ ap₂ (λ (a : LibAnswer) (n : Stand). (answer_text a ++ 10 ∷ trace_text (map unloaded_text (unloaded t n))) ++ output_of (play_at n more)) (sym answers) (sym leads))
    ∙ ap (λ ns. before ++ ((answer_text answer ++ 10 ∷ trace_text (map unloaded_text ns)) ++ output_of (play_at next more))) (sym same)
    ∙ sym (append_assoc before (answer_text answer ++ 10 ∷ unloaded_to gone 255) (output_of (play_at next more)))
    ∙ ap (λ x. x ++ output_of (play_at next more)) (sym all)
  where
    whole : output_of (play_at t ((who, call) ∷ more)) ≡ (answer_text (step_at t who call).1 ++ 10 ∷ trace_text (map unloaded_text (unloaded t (step_at t who call).0))) ++ output_of (play_at (step_at t who call).0 more)
    whole = trace_text-append (lines_of_told (told_at t (step_at t who call))) (flat_map lines_of_told (play_at (step_at t who call).0 more))

    same : filter gone (range_with_len 1 255) ≡ unloaded t next
    same = filter_same gone (is_unloaded t next) 1 255 (λ n least most. lets_go n (least, omega (arith, most)))

    all : after ≡ before ++ (answer_text answer ++ 10 ∷ unloaded_to gone 255)
    all = ends ∙ ap (λ x. x ++ unloaded_to gone 255) prints ∙ append_assoc before (answer_text answer ++ 10 ∷ []) (unloaded_to gone 255)
        ∙ ap (λ x. before ++ x) (append_assoc (answer_text answer) (10 ∷ []) (unloaded_to gone 255))

pub on_ok : {T E A B : Type 0} (r : Result T E) → (A → B) → OnOk r A → OnOk r B
on_ok (Ok value) f a = f a
on_ok (Err error) f a = tt
