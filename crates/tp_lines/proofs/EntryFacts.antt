-- Entries: the line of a call, an arrow and an answer.
use Rattle.std.proofs.Common.{◌≡◌, ℕ, ◌+◌, ◌≤◌, List, ◌∷◌, ◌++◌, length, drop, refl, sym, ap, ◌∙◌, subst, arith}
use Rattle.std.specs.Prelude.{codes}
use Rattle.std.proofs.lemmas.List.{append_assoc, length-append}
use Rattle.line_grammar.specs.Language.{AnyOf, IsReadTo, IsStuck}
use Rattle.line_grammar.specs.Parts.{Led, IsPair, Pairs, IsPart, IsTail}
use Rattle.line_grammar.proofs.Pairs.{pairs_read, pairs_stuck_first, pairs_stuck_second, pairs_part}
use Rattle.line_grammar.proofs.Readings.{part_renamed, read_renamed, stuck_renamed, led_none, led_part, led_tail, led_then_stuck}
use Rattle.tp_base.specs.declared.answers.Answer.{Answer}
use Rattle.tp_base.specs.declared.answers.Entry.{Entry}
use Rattle.tp_base.specs.declared.calls.Call.{Call}
use Rattle.tp_base.specs.declared.ids.Who.{Who}
use Rattle.tp_lines.specs.AnswerRows.{AnswerTexts, ArrowTexts}
use Rattle.tp_lines.specs.declared.words.Field.TheVariants as field
use Rattle.tp_lines.specs.Answers.{EntryLines, row_of_answer, text_of_answer}
use Rattle.tp_lines.specs.Calls.{CallLines, line_of_call}
use Rattle.tp_lines.proofs.AnswerFacts.{answer_part, answer_tail}
use Rattle.tp_lines.proofs.Bounds.{line_short, row_short}
use Rattle.tp_lines.proofs.WhoFacts.{lines_part}

head_some : AnyOf (Led 62 AnswerTexts) (62 ∷ answer_tail.some.1)
head_some = let s = answer_tail.some in (s.0, record { rest = s.1; split = refl; behind = s.2 })

dash_some : AnyOf (Led 45 (Led 62 AnswerTexts)) (45 ∷ 62 ∷ answer_tail.some.1)
dash_some = (head_some.0, record { rest = 62 ∷ answer_tail.some.1; split = refl; behind = head_some.1 })

module _ (text : List ℕ) where
  pub arrow_space : ((x : ℕ) (rest : List ℕ) → text ≡ x ∷ rest → x ≡ 32 → ⊥) → IsStuck ArrowTexts text 0
  arrow_space none = led_none 32 (Led 45 (Led 62 AnswerTexts)) text (45 ∷ 62 ∷ answer_tail.some.1) dash_some none

  pub arrow_dash : (dash : List ℕ) → text ≡ 32 ∷ dash → ((x : ℕ) (rest : List ℕ) → dash ≡ x ∷ rest → x ≡ 45 → ⊥) → IsStuck ArrowTexts text 1
  arrow_dash dash e none =
      led_then_stuck 32 (Led 45 (Led 62 AnswerTexts)) text dash e 0
      (led_none 45 (Led 62 AnswerTexts) dash (62 ∷ answer_tail.some.1) head_some none)

  pub arrow_head : (dash head : List ℕ) → text ≡ 32 ∷ dash → dash ≡ 45 ∷ head → ((x : ℕ) (rest : List ℕ) → head ≡ x ∷ rest → x ≡ 62 → ⊥) → IsStuck ArrowTexts text 2
  arrow_head dash head e f none =
      led_then_stuck 32 (Led 45 (Led 62 AnswerTexts)) text dash e 1
      (led_then_stuck 45 (Led 62 AnswerTexts) dash head f 0
      (led_none 62 AnswerTexts head answer_tail.some.1 (answer_tail.some.0, answer_tail.some.2) none))

  pub arrow_stuck : (dash head rest : List ℕ) → text ≡ 32 ∷ dash → dash ≡ 45 ∷ head → head ≡ 62 ∷ rest → (k : ℕ) → IsStuck AnswerTexts rest k → IsStuck ArrowTexts text (k + 3)
  arrow_stuck dash head rest e f g k stuck =
      let sum : ((k + 1) + 1) + 1 ≡ k + 3 = omega arith in
      subst (λ n. IsStuck ArrowTexts text n) sum
      (led_then_stuck 32 (Led 45 (Led 62 AnswerTexts)) text dash e ((k + 1) + 1)
      (led_then_stuck 45 (Led 62 AnswerTexts) dash head f (k + 1) (led_then_stuck 62 AnswerTexts head rest g k stuck)))

arrow_part : IsPart 32 ArrowTexts
arrow_part = led_part 32 (Led 45 (Led 62 AnswerTexts)) 32 (led_part 45 (Led 62 AnswerTexts) 32 (led_part 62 AnswerTexts 32 answer_part))

arrow_tail : IsTail 32 ArrowTexts
arrow_tail = led_tail 32 (Led 45 (Led 62 AnswerTexts)) (45 ∷ 62 ∷ answer_tail.some.1) dash_some

-- entries
abbrev entry_of : ((Who × Call) × Answer) → Entry
entry_of ((who, call), answer) = record { who = who; call = call; answer = answer }

pub arrow_text : (x : Answer) (t : List ℕ) → ArrowTexts x t → (rest : List ℕ) × (t ≡ 32 ∷ 45 ∷ 62 ∷ rest) × AnswerTexts x rest
arrow_text x t a =
    let b = a.behind in let c = b.behind in
    (c.rest, a.split ∙ ap (λ l. 32 ∷ l) b.split ∙ ap (λ l. 32 ∷ 45 ∷ l) c.split, c.behind)

abbrev EntryRows : ((Who × Call) × Answer) → List ℕ → Type 0
EntryRows = Pairs CallLines (λ p. ArrowTexts)

entry_to : (who : Who) (call : Call) (answer : Answer) (t : List ℕ) → IsPair CallLines (λ p. ArrowTexts) (who, call) answer t → EntryLines (entry_of ((who, call), answer)) t
entry_to who call answer t pair =
    let a = arrow_text answer pair.back pair.second in
    record {
      who_in_range = pair.first.who_in_range;
      call_in_range = pair.first.call_in_range;
      answer_in_range = a.2.in_range;
      split = pair.split ∙ ap (λ l. l ++ pair.back) pair.first.split ∙ ap (λ l. line_of_call who call ++ l) (a.1 ∙ ap (λ l. 32 ∷ 45 ∷ 62 ∷ l) a.2.split)
          ∙ sym (append_assoc (line_of_call who call) (codes " -> ") (text_of_answer answer));
    }

pub entry_pair : (entry : Entry) (t : List ℕ) → EntryLines entry t → IsPair CallLines (λ p. ArrowTexts) (entry.who, entry.call) entry.answer t
entry_pair entry t a = record {
  front = line_of_call entry.who entry.call;
  back = codes " -> " ++ text_of_answer entry.answer;
  split = a.split ∙ append_assoc (line_of_call entry.who entry.call) (codes " -> ") (text_of_answer entry.answer);
  first = record { who_in_range = a.who_in_range; call_in_range = a.call_in_range; split = refl };
  second = record {
    rest = 45 ∷ 62 ∷ 32 ∷ text_of_answer entry.answer;
    split = refl;
    behind =
        record {
          rest = 62 ∷ 32 ∷ text_of_answer entry.answer;
          split = refl;
          behind =
              record { rest = 32 ∷ text_of_answer entry.answer; split = refl; behind = record { in_range = a.answer_in_range; split = refl } };
        };
  };
}

entry_row : (entry : Entry) (t : List ℕ) → EntryLines entry t → (p : (Who × Call) × Answer) × EntryRows p t × (entry ≡ entry_of p)
entry_row entry t a = (((entry.who, entry.call), entry.answer), entry_pair entry t a, refl)

entry_back : (entry : Entry) (t : List ℕ) → EntryLines entry t → AnyOf EntryRows t
entry_back entry t a = let r = entry_row entry t a in (r.0, r.1)

entry_any : (p : (Who × Call) × Answer) (t : List ℕ) → EntryRows p t → AnyOf EntryLines t
entry_any ((who, call), answer) t pair = (entry_of ((who, call), answer), entry_to who call answer t pair)

pub entry_stuck_first : (text : List ℕ) (k : ℕ) → IsStuck CallLines text k → IsStuck EntryLines text k
entry_stuck_first text k stuck =
    stuck_renamed EntryRows EntryLines entry_back text k entry_any
    (pairs_stuck_first 32 CallLines (λ p. ArrowTexts) lines_part (λ p. arrow_tail) text k stuck)

pub entry_stuck_second : (text : List ℕ) (who : Who) (call : Call) (n : ℕ) → IsReadTo CallLines text (who, call) n → (rest : List ℕ) → rest ≡ drop n text
    → (k : ℕ) → IsStuck ArrowTexts rest k → IsStuck EntryLines text (n + k)
entry_stuck_second text who call n first rest e k stuck =
    stuck_renamed EntryRows EntryLines entry_back text (n + k) entry_any
    (pairs_stuck_second 32 CallLines (λ p. ArrowTexts) lines_part (λ p. arrow_tail) text (who, call) n first k (subst (λ l. IsStuck ArrowTexts l k) e stuck))

pub entry_read : (text : List ℕ) (who : Who) (call : Call) (n : ℕ) → IsReadTo CallLines text (who, call) n → (rest : List ℕ) → rest ≡ drop n text
    → (answer : Answer) (m : ℕ) → IsReadTo ArrowTexts rest answer m → IsReadTo EntryLines text (record { who = who; call = call; answer = answer }) (n + m)
entry_read text who call n first rest e answer m second =
    read_renamed EntryRows EntryLines entry_back text ((who, call), answer) (entry_of ((who, call), answer)) (n + m) (λ t pair. entry_to who call answer t pair)
    (pairs_read 32 CallLines (λ p. ArrowTexts) lines_part (λ p. arrow_tail) text (who, call) n first answer m (subst (λ l. IsReadTo ArrowTexts l answer m) e second))

pub entries_part : IsPart 32 EntryLines
entries_part = part_renamed 32 EntryRows EntryLines entry_of entry_row
    (pairs_part 32 CallLines (λ p. ArrowTexts) lines_part (λ p. arrow_tail) (λ p. arrow_part))

-- no entry is long
pub entry_short : (entry : Entry) (t : List ℕ) → EntryLines entry t → length t ≤ 700
entry_short entry t a =
    let pair = entry_pair entry t a in let b = arrow_text entry.answer pair.back pair.second in
    omega (
      arith,
      ap length pair.split,
      length-append pair.front pair.back,
      line_short (entry.who, entry.call) pair.front pair.first,
      ap length b.1,
      row_short field.Answer row_of_answer entry.answer b.0 b.2,
    )
