-- No line feed stands in a line.
use Rattle.std.proofs.Common.{ℕ, ◌<◌, ◌^◌, List, [], ◌∷◌, refl, sym, subst, arith, IsTrue}
use Rattle.line_grammar.specs.Words.{lacks}
use Rattle.line_grammar.proofs.NumberFacts.{decimal_lacks}
use Rattle.line_grammar.proofs.WordFacts.{lacks_append, solid_lacks}
use Rattle.tp_base.specs.declared.answers.Entry.{Entry}
use Rattle.tp_base.specs.declared.calls.Call.{Call}
use Rattle.tp_base.specs.declared.ids.Who.{Who}
use Rattle.tp_base.specs.declared.ids.Who.TheVariants.{Client, Worker}
use Rattle.tp_lines.specs.declared.parts.Form.{Form}
use Rattle.tp_lines.specs.declared.parts.Form.TheVariants as form
use Rattle.tp_lines.specs.declared.parts.Part.{Part}
use Rattle.tp_lines.specs.declared.words.Field.{Field}
use Rattle.tp_lines.specs.declared.words.Field.TheVariants as field
use Rattle.tp_lines.specs.declared.words.Word.{Word}
use Rattle.tp_lines.specs.Answers.{EntryLines, row_of_answer}
use Rattle.tp_lines.specs.Calls.{CallLines, IsWhoInRange, row_of}
use Rattle.tp_lines.specs.Parts.{AreFit, FitsForm, after, form_of, number_of, number_part, parts_of, parts_text, text_of_part}
use Rattle.tp_lines.specs.Rows.{RowTexts}
use Rattle.tp_lines.specs.Shapes.{text_of_word}
use Rattle.tp_lines.specs.Values.{due_of, millis_of, named_of}
use Rattle.tp_lines.specs.Words.{text_of_who}
use Rattle.tp_lines.proofs.DueFacts.{due_lacks}
use Rattle.tp_lines.proofs.MillisFacts.{millis_lacks}
use Rattle.tp_lines.proofs.NamedFacts.{named_lacks}
use Rattle.tp_lines.proofs.EntryFacts.{arrow_text, entry_pair}
use Rattle.tp_lines.proofs.PartFacts.{IsSoundForm, sound_form}
use Rattle.tp_lines.proofs.WhoFacts.{line_back}
use Rattle.tp_lines.proofs.WordRules.{solid}

-- the text holds no line feed
abbrev Feedless : List ℕ → Type 0
Feedless text = IsTrue (lacks 10 text)

number_feedless : (f : Field) (n : ℕ) → n < 2 ^ 64 → Feedless (text_of_part (number_part f n))
number_feedless field.Short n bound = decimal_lacks 10 (omega arith) n bound
number_feedless _ n bound = decimal_lacks 10 (omega arith) n bound

feedless_by_form : (x : Form) (f : Field) (p : Part) → IsSoundForm x → FitsForm x f p → Feedless (text_of_part p)
feedless_by_form (form.Number least most) f p s h = subst (λ q. Feedless (text_of_part q)) (sym h.is) (number_feedless f (number_of p) (omega (arith, h.at_most, s.bits)))
feedless_by_form (form.Lettered letter least most) f p s h = subst (λ q. Feedless (text_of_part q)) (sym h.is) (number_feedless f (number_of p) (omega (arith, h.at_most, s.bits)))
feedless_by_form form.Due f p s h = subst (λ q. Feedless (text_of_part q)) (sym h.is) (due_lacks 10 (omega arith) (due_of p) h.in_range)
feedless_by_form form.Named f p s h = subst (λ q. Feedless (text_of_part q)) (sym h.is) (named_lacks 10 (omega arith) (named_of p) h.in_range)
feedless_by_form form.Millis f p s h = subst (λ q. Feedless (text_of_part q)) (sym h.is) (millis_lacks 10 (omega arith) (millis_of p) h.in_range)
feedless_by_form form.Choice f p s h = subst (λ q. Feedless (text_of_part q)) (sym h.is) (solid_lacks 10 (omega arith) (text_of_word h.word) (solid h.word))

parts_feedless : (parts : List Part) (fields : List Field) → AreFit fields parts → Feedless (parts_text parts)
parts_feedless [] fields h = refl
parts_feedless (p ∷ parts) [] h = absurd h
parts_feedless (p ∷ parts) (f ∷ fields) h =
    lacks_append 10 (text_of_part p) (parts_text parts) (feedless_by_form (form_of f) f p (sound_form f) h.0) (parts_feedless parts (after p fields) h.1)

pub row_feedless : {V : Type 0} (table : Field) (row_of : V → Word × List Part) (v : V) (t : List ℕ) → RowTexts table row_of v t → Feedless t
row_feedless table row_of v t a = subst Feedless (sym a.split) (parts_feedless (parts_of (row_of v)) (table ∷ []) a.in_range)

pub who_feedless : (who : Who) → IsWhoInRange who → Feedless (text_of_who who)
who_feedless (Client n) h = decimal_lacks 10 (omega arith) n (omega (arith, h.1))
who_feedless (Worker n) h = decimal_lacks 10 (omega arith) n (omega (arith, h.1))

pub line_feedless : (p : Who × Call) (t : List ℕ) → CallLines p t → Feedless t
line_feedless (who, c) t a =
    let pair = line_back who c t a in
    subst Feedless (sym pair.split)
    (lacks_append 10 pair.front pair.back (subst Feedless (sym pair.first.split) (who_feedless who pair.first.in_range)) (row_feedless field.Call row_of c pair.back pair.second))

pub entry_feedless : (entry : Entry) (t : List ℕ) → EntryLines entry t → Feedless t
entry_feedless entry t a =
    let pair = entry_pair entry t a in let b = arrow_text entry.answer pair.back pair.second in
    subst Feedless (sym pair.split)
    (lacks_append 10 pair.front pair.back (line_feedless (entry.who, entry.call) pair.front pair.first) (subst Feedless (sym b.1) (row_feedless field.Answer row_of_answer entry.answer b.0 b.2)))
