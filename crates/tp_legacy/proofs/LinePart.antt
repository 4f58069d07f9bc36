-- Each line of calls of the pool before Vista has one value, and no line feed stands in one.
use Rattle.std.proofs.Common.{◌≡◌, ℕ, List, [], ◌∷◌, refl, sym, ap, ◌∙◌, subst, arith, rules, IsTrue, Option, Some, None}
use Rattle.std.proofs.lemmas.List.{append-nil}
use Rattle.line_grammar.specs.Parts.{IsPair, IsPart, IsTail, Opens}
use Rattle.line_grammar.specs.Words.{lacks}
use Rattle.line_grammar.proofs.Pairs.{pair_same, pairs_part}
use Rattle.line_grammar.proofs.WordFacts.{lacking_part, lacks_append}
use Rattle.tp_base.specs.declared.calls.Call.{Call}
use Rattle.tp_base.specs.declared.ids.Who.{Who}
use Rattle.tp_base.specs.Ranges.{IsCallInRange}
use Rattle.tp_lines.specs.declared.words.Field.TheVariants as field
use Rattle.tp_lines.specs.declared.words.TheConstants.{WORDS}
use Rattle.tp_lines.specs.Calls.{row_of, CallLines, FitsCall, WhoTexts}
use Rattle.tp_lines.specs.Parts.{row_text, IsMillisInRange}
use Rattle.tp_lines.specs.Shapes.{text_of_word}
use Rattle.tp_lines.specs.Words.{text_of_who}
use Rattle.tp_lines.proofs.Apart.{rows_apart}
use Rattle.tp_lines.proofs.Feeds.{row_feedless, who_feedless}
use Rattle.tp_lines.proofs.WhoFacts.{lines_part, who_part}
use Rattle.tp_lines.proofs.WordRules.{find, rank}
use Rattle.tp_legacy.specs.Legacy.{IsLegacyCallInRange, IsMillis}
use Rattle.tp_legacy.specs.Lines.{legacy_row_of, table_of_call, FitsLegacyCall, IsLegacyLine, LegacyLines, OldTexts}
use Rattle.tp_legacy.specs.declared.LegacyCall.{LegacyCall}
use Rattle.tp_legacy.specs.declared.LegacyCall.TheVariants as call
use Rattle.tp_legacy.proofs.LineFacts.{call_table, old_pair}
use Rattle.tp_legacy.proofs.OldRows.{old_part, old_tail}

-- ---- a call of the machine and an old one

-- no word of an old call is one of the machine's
not_found : (made : LegacyCall) → table_of_call made ≡ field.OldCall → find (rank field.Call) (text_of_word (legacy_row_of made).0) WORDS ≡ None
not_found (call.Pool c) e = let no_such : ⊥ = cc in absurd no_such
not_found _ e = refl

abbrev Behind : List ℕ → List ℕ → Type 0
Behind back text = (text ≡ back) × Opens 32 text

behind_tail : IsTail 32 Behind
behind_tail = record { opens = λ back text b. b.1; some = ([], [], (refl, tt)) }

abbrev behind_who : (who : Who) (made : LegacyCall) (text : List ℕ) → IsLegacyLine who made text → IsPair WhoTexts (λ w. Behind) who (32 ∷ row_text (legacy_row_of made)) text
behind_who who made text a = record {
  front = text_of_who who;
  back = 32 ∷ row_text (legacy_row_of made);
  split = a.split;
  first = record { in_range = a.who_in_range; split = refl };
  second = (refl, refl);
}

behind_space : (a b : List ℕ) → 32 ∷ a ≡ 32 ∷ b → a ≡ b
behind_space a b e = cc

-- behind the actors of one text stands one row
one_row : (v w : Who) (made other : LegacyCall) (text : List ℕ) → IsLegacyLine v made text → IsLegacyLine w other text → row_text (legacy_row_of made) ≡ row_text (legacy_row_of other)
one_row v w made other text a b =
    let s = pair_same 32 WhoTexts (λ x. Behind) who_part (λ x. behind_tail) v (32 ∷ row_text (legacy_row_of made)) w (32 ∷ row_text (legacy_row_of other)) text [] tt
    (behind_who v made text a) (subst (λ t. IsPair WhoTexts (λ x. Behind) w (32 ∷ row_text (legacy_row_of other)) t) (sym (append-nil text)) (behind_who w other text b)) in
    behind_space _ _ (sym (append-nil (32 ∷ row_text (legacy_row_of made))) ∙ s.1.0)

mixed : (v w : Who) (c : Call) (made : LegacyCall) (text : List ℕ) → IsLegacyLine v (call.Pool c) text → IsLegacyLine w made text → table_of_call made ≡ field.OldCall → ⊥
mixed v w c made text a b e =
    rows_apart field.Call (row_of c) (legacy_row_of made).0 (legacy_row_of made).1 (call_table c) (not_found made e) (one_row v w (call.Pool c) made text a b)

-- ---- two of a kind

pool_unique : (v w : Who) (c d : Call) (text : List ℕ) → IsLegacyLine v (call.Pool c) text → IsLegacyLine w (call.Pool d) text → ◌≡◌ {A = Who × LegacyCall} (v, call.Pool c) (w, call.Pool d)
pool_unique v w c d text a b =
    let first : CallLines (v, c) text = record { who_in_range = a.who_in_range; call_in_range = a.call_in_range; split = a.split } in
    let second : CallLines (w, d) text = record { who_in_range = b.who_in_range; call_in_range = b.call_in_range; split = b.split } in
    ap (λ (p : Who × Call). (p.0, call.Pool p.1)) (lines_part.unique (v, c) (w, d) text first second)

old_unique : (v w : Who) (made other : LegacyCall) (text : List ℕ) → IsLegacyLine v made text → IsLegacyLine w other text → table_of_call made ≡ field.OldCall → table_of_call other ≡ field.OldCall
    → ◌≡◌ {A = Who × LegacyCall} (v, made) (w, other)
old_unique v w made other text a b e f =
    (pairs_part 32 WhoTexts (λ x. OldTexts) who_part (λ x. old_tail) (λ x. old_part)).unique (v, made) (w, other) text (old_pair v made text a e) (old_pair w other text b f)

unique : (p q : Who × LegacyCall) (text : List ℕ) → LegacyLines p text → LegacyLines q text → p ≡ q
unique (v, call.Pool c) (w, call.Pool d) text a b = pool_unique v w c d text a b
unique (v, call.Pool c) (w, other) text a b = absurd (mixed v w c other text a b refl)
unique (v, made) (w, call.Pool d) text a b = absurd (mixed w v d made text b a refl)
unique (v, made) (w, other) text a b = old_unique v w made other text a b refl refl

-- ---- line feeds

feedless : (p : Who × LegacyCall) (text : List ℕ) → LegacyLines p text → IsTrue (lacks 10 text)
feedless (who, made) text a =
    subst (λ t. IsTrue (lacks 10 t)) (sym a.split)
    (lacks_append 10 (text_of_who who) (32 ∷ row_text (legacy_row_of made)) (who_feedless who a.who_in_range)
    (row_feedless (table_of_call made) legacy_row_of made (32 ∷ row_text (legacy_row_of made)) (record { in_range = a.call_in_range; split = refl })))

-- a line feed may stand behind a line
pub ends_by_feed : IsPart 10 LegacyLines
ends_by_feed = lacking_part 10 LegacyLines unique feedless

-- ---- ranges

millis_fits : (millis : Option ℕ) → IsMillisInRange millis → IsMillis millis
millis_fits None h = tt
millis_fits (Some n) h = omega (arith, h)

-- the call of a line is in range, where each of the machine is
pub fits_range : ((c : Call) → FitsCall c → IsCallInRange c) → (made : LegacyCall) → FitsLegacyCall made → IsLegacyCallInRange made
fits_range agrees (call.Pool c) h = agrees c h
fits_range agrees (call.Register kernel routine context millis once) h = search (rules, millis_fits)
fits_range agrees _ h = search rules
