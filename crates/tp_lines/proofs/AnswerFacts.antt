-- The table of answers.
use Rattle.std.proofs.Common.{◌≡◌, suc, List, [], ◌∷◌, ◌++◌, length, refl, sym, ap, ◌∙◌, subst, arith, Bool, true, false, IsTrue, Option, Some, None}
use Rattle.std.proofs.lemmas.List.{append_assoc, length-append, get_or_at}
use Rattle.line_grammar.specs.Parts.{IsPart, IsTail}
use Rattle.tp_base.specs.declared.answers.Answer.{Answer}
use Rattle.tp_base.specs.declared.answers.Answer.TheVariants as answer
use Rattle.tp_base.specs.declared.answers.Refusal.{Refusal}
use Rattle.tp_base.specs.declared.answers.Refusal.TheVariants as refusal
use Rattle.tp_base.specs.declared.answers.TakeResult.{TakeResult}
use Rattle.tp_base.specs.declared.answers.TakeResult.TheVariants as taken
use Rattle.tp_lines.specs.declared.parts.Part.{Part}
use Rattle.tp_lines.specs.declared.parts.Part.TheVariants as part
use Rattle.tp_lines.specs.declared.words.Field.{Field}
use Rattle.tp_lines.specs.declared.words.Field.TheVariants as field
use Rattle.tp_lines.specs.declared.words.Word.{Word}
use Rattle.tp_lines.specs.declared.words.Word.TheVariants as word
use Rattle.tp_lines.specs.AnswerRows.{AnswerTexts, answer_at, refusal_at, refused_for, result_at, taken_with}
use Rattle.tp_lines.specs.Answers.{row_of_answer, row_of_refusal, row_of_result}
use Rattle.tp_lines.specs.Parts.{AreFit, parts_of}
use Rattle.tp_lines.specs.Shapes.{fields_of, table_of}
use Rattle.tp_lines.specs.Values.{part_at, word_of}
use Rattle.tp_lines.proofs.Rebuilt.{ending, is_regular, rebuilt, rebuilt_in, rebuilt_is, same_row, word_row}
use Rattle.tp_lines.proofs.Tables.{IsRowOf, IsTable, rows_part, rows_tail}

back : (a : Answer) → answer_at (row_of_answer a).0 (parts_of (row_of_answer a)) ≡ Some a
back (answer.Closed true) = refl
back (answer.Closed false) = refl
back (answer.Taken callback object routine context taken.Plain) = refl
back (answer.Taken callback object routine context _) = refl
back (answer.Refused refusal.NoSuch) = refl
back (answer.Refused _) = refl
back _ = refl

-- results, which stand from index 5 on
regular_result : (w : Word) → table_of w ≡ field.Result → IsTrue (is_regular (fields_of w))
regular_result (word.Kind _) e = cc
regular_result _ e = cc

result_rows : (w : Word) (behind front : List Part) → table_of w ≡ field.Result → AreFit (fields_of w) behind → length front ≡ 6
    → IsRowOf row_of_result (result_at w (front ++ behind)) (w, behind)
result_rows (word.Kind _) behind front e h s = cc
result_rows w behind front e h s =
    let row = same_row w behind (rebuilt (fields_of w) 6 (front ++ behind)) (rebuilt_is (fields_of w) behind front (regular_result w e) h 6 (sym s)) in
    cc

-- refusals, which stand from index 1 on
regular_refusal : (w : Word) → table_of w ≡ field.Refusal → IsTrue (is_regular (fields_of w))
regular_refusal (word.Kind _) e = cc
regular_refusal _ e = cc

refusal_rows : (w : Word) (behind front : List Part) → table_of w ≡ field.Refusal → AreFit (fields_of w) behind → length front ≡ 2
    → IsRowOf row_of_refusal (refusal_at w (front ++ behind)) (w, behind)
refusal_rows (word.Kind _) behind front e h s = cc
refusal_rows w behind front e h s =
    let row = same_row w behind (rebuilt (fields_of w) 2 (front ++ behind)) (rebuilt_is (fields_of w) behind front (regular_refusal w e) h 2 (sym s)) in
    cc

-- an answer that ends in a result
abbrev before_result : List Field
before_result = field.Large ∷ field.Origin ∷ field.Routine ∷ field.Context ∷ []

taken_row : (whole before behind : List Part) (v : Word) (found : Option TakeResult) → IsRowOf row_of_result found (v, behind) → before ≡ rebuilt before_result 1 whole
    → IsRowOf row_of_answer (taken_with whole found) (word.Taken, before ++ part.Word v ∷ behind)
taken_row whole before behind v None row e = absurd row
taken_row whole before behind v (Some r) row e =
    ap (λ l. (word.Taken, l)) (ap (λ t. rebuilt before_result 1 whole ++ parts_of t) row ∙ ap (λ b. b ++ part.Word v ∷ behind) (sym e))

taken_from : (before behind : List Part) (v : Word) → AreFit before_result before → length before ≡ 4 → table_of v ≡ field.Result → AreFit (fields_of v) behind
    → IsRowOf row_of_answer (answer_at word.Taken (part.Word word.Taken ∷ (before ++ part.Word v ∷ behind))) (word.Taken, before ++ part.Word v ∷ behind)
taken_from before behind v fit size table rest =
    let whole = part.Word word.Taken ∷ (before ++ part.Word v ∷ behind) in
    let front = (part.Word word.Taken ∷ before) ++ part.Word v ∷ [] in
    let told : before ≡ rebuilt before_result 1 whole = rebuilt_in before_result before (part.Word word.Taken ∷ []) (part.Word v ∷ behind) refl fit 1 refl in
    let here : part_at whole 5 ≡ part.Word v = get_or_at (part.Word word.Taken ∷ before) (part.Word v) behind (part.Short 0) 5 (ap (λ n. suc n) size) in
    let all : front ++ behind ≡ whole = append_assoc (part.Word word.Taken ∷ before) (part.Word v ∷ []) behind in
    let six : length front ≡ 6 = omega (arith, length-append (part.Word word.Taken ∷ before) (part.Word v ∷ [])) in
    let found = subst (λ l. IsRowOf row_of_result (result_at v l) (v, behind)) all (result_rows v behind front table rest six) in
    let at = subst (λ p. IsRowOf row_of_result (result_at (word_of p) whole) (v, behind)) (sym here) found in
    taken_row whole before behind v (result_at (word_of (part_at whole 5)) whole) at told

-- an answer that ends in a refusal
refused_row : (behind : List Part) (v : Word) (found : Option Refusal) → IsRowOf row_of_refusal found (v, behind) → IsRowOf row_of_answer (refused_for found) (word.Refused, part.Word v ∷ behind)
refused_row behind v None row = absurd row
refused_row behind v (Some why) row = ap (λ r. (word.Refused, parts_of r)) row

-- the others
abbrev has_ending : Word → Bool
has_ending word.Taken = true
has_ending word.Refused = true
has_ending _ = false

regular : (w : Word) → table_of w ≡ field.Answer → has_ending w ≡ false → IsTrue (is_regular (fields_of w))
regular (word.Kind _) e n = cc
regular _ e n = cc

rows : (w : Word) (parts : List Part) → table_of w ≡ field.Answer → AreFit (fields_of w) parts → IsRowOf row_of_answer (answer_at w (part.Word w ∷ parts)) (w, parts)
rows (word.Kind _) parts e h = cc
rows word.Taken parts e h =
    let end = ending before_result field.Result parts refl refl h in
    subst (λ l. IsRowOf row_of_answer (answer_at word.Taken (part.Word word.Taken ∷ l)) (word.Taken, l)) (sym end.split)
    (taken_from end.before end.behind end.word end.fit end.size end.table end.rest)
rows word.Refused [] e h = absurd h
rows word.Refused (p ∷ parts) e h =
    let r = word_row field.Refusal refl p parts h.0 h.1 in
    subst (λ l. IsRowOf row_of_answer (answer_at word.Refused (part.Word word.Refused ∷ l)) (word.Refused, l)) (sym r.split)
    (refused_row r.behind r.word (refusal_at r.word (part.Word word.Refused ∷ part.Word r.word ∷ r.behind))
    (refusal_rows r.word r.behind (part.Word word.Refused ∷ part.Word r.word ∷ []) r.table r.rest refl))
rows w parts e h =
    let row = same_row w parts (rebuilt (fields_of w) 1 (part.Word w ∷ parts)) (rebuilt_is (fields_of w) parts (part.Word w ∷ []) (regular w e refl) h 1 refl) in
    cc

pub answer_table : IsTable field.Answer row_of_answer answer_at
answer_table = record { choice = refl; back = back; rows = rows }

pub answer_part : IsPart 32 AnswerTexts
answer_part = rows_part field.Answer row_of_answer answer_at answer_table

pub answer_tail : IsTail 32 AnswerTexts
answer_tail = rows_tail field.Answer row_of_answer answer_at answer_table
