-- No line is long.
use Rattle.std.proofs.Common.{ℕ, ◌*◌, ◌<◌, ◌≤◌, ◌^◌, List, [], ◌∷◌, ◌++◌, length, take, ap, sym, subst, arith}
use Rattle.std.proofs.lemmas.Fmt.{length-decimal-le}
use Rattle.std.proofs.lemmas.List.{length-append, length-take-le}
use Rattle.std.specs.Prelude.{decimal}
use Rattle.line_grammar.specs.Language.{IsStuck}
use Rattle.tp_base.specs.declared.calls.Call.{Call}
use Rattle.tp_base.specs.declared.ids.Who.{Who}
use Rattle.tp_base.specs.declared.ids.Who.TheVariants.{Client, Worker}
use Rattle.tp_lines.specs.declared.parts.Form.{Form}
use Rattle.tp_lines.specs.declared.parts.Form.TheVariants as form
use Rattle.tp_lines.specs.declared.parts.Part.{Part}
use Rattle.tp_lines.specs.declared.words.Field.{Field}
use Rattle.tp_lines.specs.declared.words.Field.TheVariants as field
use Rattle.tp_lines.specs.declared.words.Word.{Word}
use Rattle.tp_lines.specs.Calls.{CallLines, IsWhoInRange, row_of}
use Rattle.tp_lines.specs.Parts.{AreFit, FitsForm, after, form_of, number_of, number_part, parts_of, parts_text, room, room_of, text_of_part}
use Rattle.tp_lines.specs.Rows.{RowTexts}
use Rattle.tp_lines.specs.Values.{due_of, millis_of, named_of}
use Rattle.tp_lines.specs.Words.{text_of_who}
use Rattle.tp_lines.proofs.DueFacts.{due_short}
use Rattle.tp_lines.proofs.MillisFacts.{millis_short}
use Rattle.tp_lines.proofs.NamedFacts.{named_short}
use Rattle.tp_lines.proofs.PartFacts.{IsSoundForm, sound_form}
use Rattle.tp_lines.proofs.RowFacts.{room_after}
use Rattle.tp_lines.proofs.WhoFacts.{line_back}
use Rattle.tp_lines.proofs.WordRules.{short}

pub decimal_short : (n : ℕ) → n < 2 ^ 64 → length (decimal n) ≤ 20
decimal_short n bound = length-decimal-le 20 n (omega arith) (omega arith) bound

number_short : (f : Field) (n : ℕ) → n < 2 ^ 64 → length (text_of_part (number_part f n)) ≤ 30
number_short field.Short n bound = omega (arith, decimal_short n bound)
number_short _ n bound = omega (arith, decimal_short n bound)

short_by_form : (x : Form) (f : Field) (p : Part) → IsSoundForm x → FitsForm x f p → length (text_of_part p) ≤ 30
short_by_form (form.Number least most) f p s h = subst (λ q. length (text_of_part q) ≤ 30) (sym h.is) (number_short f (number_of p) (omega (arith, h.at_most, s.bits)))
short_by_form (form.Lettered letter least most) f p s h = subst (λ q. length (text_of_part q) ≤ 30) (sym h.is) (number_short f (number_of p) (omega (arith, h.at_most, s.bits)))
short_by_form form.Due f p s h = subst (λ q. length (text_of_part q) ≤ 30) (sym h.is) (due_short (due_of p) h.in_range)
short_by_form form.Named f p s h = subst (λ q. length (text_of_part q) ≤ 30) (sym h.is) (named_short (named_of p) h.in_range)
short_by_form form.Millis f p s h = subst (λ q. length (text_of_part q) ≤ 30) (sym h.is) (millis_short (millis_of p) h.in_range)
short_by_form form.Choice f p s h = subst (λ q. length (text_of_part q) ≤ 30) (sym h.is) (short h.word)

parts_short : (parts : List Part) (fields : List Field) → AreFit fields parts → length (parts_text parts) ≤ 31 * room fields
parts_short [] fields h = omega arith
parts_short (p ∷ parts) [] h = absurd h
parts_short (p ∷ parts) (f ∷ fields) h =
    omega (
      arith,
      length-append (text_of_part p) (parts_text parts),
      short_by_form (form_of f) f p (sound_form f) h.0,
      parts_short parts (after p fields) h.1,
      room_after f p fields h.0,
    )

pub row_short : {V : Type 0} (table : Field) (row_of : V → Word × List Part) (v : V) (t : List ℕ) → RowTexts table row_of v t → length t ≤ 31 * room_of table
row_short table row_of v t a = omega (arith, ap length a.split, parts_short (parts_of (row_of v)) (table ∷ []) a.in_range)

who_short : (who : Who) → IsWhoInRange who → length (text_of_who who) ≤ 21
who_short (Client n) h = omega (arith, decimal_short n (omega (arith, h.1)))
who_short (Worker n) h = omega (arith, decimal_short n (omega (arith, h.1)))

pub line_short : (p : Who × Call) (t : List ℕ) → CallLines p t → length t ≤ 340
line_short (who, c) t a =
    let pair = line_back who c t a in
    omega (arith, ap length pair.split, length-append pair.front pair.back, ap length pair.first.split, who_short who pair.first.in_range, row_short field.Call row_of c pair.back pair.second)

-- nor is what goes along with a text
pub stuck_short : {V : Type 0} (W : V → List ℕ → Type 0) (bound : ℕ) → ((v : V) (t : List ℕ) → W v t → length t ≤ bound) → (text : List ℕ) (k : ℕ) → IsStuck W text k → k ≤ bound
stuck_short W bound short text k stuck =
    let more = stuck.reaches.begins in
    omega (arith, short more.1.0 (take k text ++ more.0) more.1.1, length-append (take k text) more.0, length-take-le k text stuck.within)
