-- Each line of calls with sleeps has one value, and no line feed stands in one.
use Rattle.std.proofs.Common.{◌≡◌, ℕ, List, [], ◌∷◌, refl, sym, ap, ◌∙◌, subst, rules, IsTrue, None}
use Rattle.std.proofs.lemmas.List.{append-nil}
use Rattle.line_grammar.specs.Parts.{IsPair, IsPart, IsTail, Opens}
use Rattle.line_grammar.specs.Words.{lacks}
use Rattle.line_grammar.proofs.Pairs.{pair_same, pairs_part}
use Rattle.line_grammar.proofs.WordFacts.{lacking_part, lacks_append}
use Rattle.tp_base.specs.declared.calls.Call.{Call}
use Rattle.tp_base.specs.declared.ids.Who.{Who}
use Rattle.tp_base.specs.Ranges.{IsCallInRange}
use Rattle.tp_lines.specs.declared.words.Field.TheVariants as field
use Rattle.tp_lines.specs.declared.words.TheConstants.{WORDS}
use Rattle.tp_lines.specs.Calls.{row_of, CallLines, FitsCall, WhoTexts}
use Rattle.tp_lines.specs.Parts.{row_text}
use Rattle.tp_lines.specs.Shapes.{text_of_word}
use Rattle.tp_lines.specs.Words.{text_of_who}
use Rattle.tp_lines.proofs.Apart.{rows_apart}
use Rattle.tp_lines.proofs.Feeds.{row_feedless, who_feedless}
use Rattle.tp_lines.proofs.WhoFacts.{lines_part, who_part}
use Rattle.tp_lines.proofs.WordRules.{find, rank}
use Rattle.tp_coalesce.specs.Lines.{sleep_row_of, table_of_call, FitsSleepCall, IsSleepCallInRange, IsSleepLine, SleepLines, SleepTexts}
use Rattle.tp_coalesce.specs.declared.SleepCall.{SleepCall}
use Rattle.tp_coalesce.specs.declared.SleepCall.TheVariants as call
use Rattle.tp_coalesce.proofs.LineFacts.{call_table, own_pair}
use Rattle.tp_coalesce.proofs.SleepRows.{sleep_part, sleep_tail}

-- ---- a call of the machine and a sleep

-- no word of a sleep is one of the machine's
not_found : (made : SleepCall) → table_of_call made ≡ field.SleepCall → find (rank field.Call) (text_of_word (sleep_row_of made).0) WORDS ≡ None
not_found (call.Pool c) e = let no_such : ⊥ = cc in absurd no_such
not_found _ e = refl

abbrev Behind : List ℕ → List ℕ → Type 0
Behind back text = (text ≡ back) × Opens 32 text

behind_tail : IsTail 32 Behind
behind_tail = record { opens = λ back text b. b.1; some = ([], [], (refl, tt)) }

abbrev behind_who : (who : Who) (made : SleepCall) (text : List ℕ) → IsSleepLine who made text → IsPair WhoTexts (λ w. Behind) who (32 ∷ row_text (sleep_row_of made)) text
behind_who who made text a = record {
  front = text_of_who who;
  back = 32 ∷ row_text (sleep_row_of made);
  split = a.split;
  first = record { in_range = a.who_in_range; split = refl };
  second = (refl, refl);
}

behind_space : (a b : List ℕ) → 32 ∷ a ≡ 32 ∷ b → a ≡ b
behind_space a b e = cc

-- behind the actors of one text stands one row
one_row : (v w : Who) (made other : SleepCall) (text : List ℕ) → IsSleepLine v made text → IsSleepLine w other text → row_text (sleep_row_of made) ≡ row_text (sleep_row_of other)
one_row v w made other text a b =
    let s = pair_same 32 WhoTexts (λ x. Behind) who_part (λ x. behind_tail) v (32 ∷ row_text (sleep_row_of made)) w (32 ∷ row_text (sleep_row_of other)) text [] tt
    (behind_who v made text a) (subst (λ t. IsPair WhoTexts (λ x. Behind) w (32 ∷ row_text (sleep_row_of other)) t) (sym (append-nil text)) (behind_who w other text b)) in
    behind_space _ _ (sym (append-nil (32 ∷ row_text (sleep_row_of made))) ∙ s.1.0)

mixed : (v w : Who) (c : Call) (made : SleepCall) (text : List ℕ) → IsSleepLine v (call.Pool c) text → IsSleepLine w made text → table_of_call made ≡ field.SleepCall → ⊥
mixed v w c made text a b e =
    rows_apart field.Call (row_of c) (sleep_row_of made).0 (sleep_row_of made).1 (call_table c) (not_found made e) (one_row v w (call.Pool c) made text a b)

-- ---- two of a kind

pool_unique : (v w : Who) (c d : Call) (text : List ℕ) → IsSleepLine v (call.Pool c) text → IsSleepLine w (call.Pool d) text → ◌≡◌ {A = Who × SleepCall} (v, call.Pool c) (w, call.Pool d)
pool_unique v w c d text a b =
    let first : CallLines (v, c) text = record { who_in_range = a.who_in_range; call_in_range = a.call_in_range; split = a.split } in
    let second : CallLines (w, d) text = record { who_in_range = b.who_in_range; call_in_range = b.call_in_range; split = b.split } in
    ap (λ (p : Who × Call). (p.0, call.Pool p.1)) (lines_part.unique (v, c) (w, d) text first second)

own_unique : (v w : Who) (made other : SleepCall) (text : List ℕ) → IsSleepLine v made text → IsSleepLine w other text → table_of_call made ≡ field.SleepCall → table_of_call other ≡ field.SleepCall
    → ◌≡◌ {A = Who × SleepCall} (v, made) (w, other)
own_unique v w made other text a b e f =
    (pairs_part 32 WhoTexts (λ x. SleepTexts) who_part (λ x. sleep_tail) (λ x. sleep_part)).unique (v, made) (w, other) text (own_pair v made text a e) (own_pair w other text b f)

unique : (p q : Who × SleepCall) (text : List ℕ) → SleepLines p text → SleepLines q text → p ≡ q
unique (v, call.Pool c) (w, call.Pool d) text a b = pool_unique v w c d text a b
unique (v, call.Pool c) (w, other) text a b = absurd (mixed v w c other text a b refl)
unique (v, made) (w, call.Pool d) text a b = absurd (mixed w v d made text b a refl)
unique (v, made) (w, other) text a b = own_unique v w made other text a b refl refl

-- ---- line feeds

feedless : (p : Who × SleepCall) (text : List ℕ) → SleepLines p text → IsTrue (lacks 10 text)
feedless (who, made) text a =
    subst (λ t. IsTrue (lacks 10 t)) (sym a.split)
    (lacks_append 10 (text_of_who who) (32 ∷ row_text (sleep_row_of made)) (who_feedless who a.who_in_range)
    (row_feedless (table_of_call made) sleep_row_of made (32 ∷ row_text (sleep_row_of made)) (record { in_range = a.call_in_range; split = refl })))

-- a line feed may stand behind a line
pub ends_by_feed : IsPart 10 SleepLines
ends_by_feed = lacking_part 10 SleepLines unique feedless

-- ---- ranges

-- the call of a line is in range, where each of the machine is
pub fits_range : ((c : Call) → FitsCall c → IsCallInRange c) → (made : SleepCall) → FitsSleepCall made → IsSleepCallInRange made
fits_range agrees (call.Pool c) h = agrees c h
fits_range agrees _ h = search rules
