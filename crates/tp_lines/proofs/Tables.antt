-- Values of a table, each of which has one row.
use Rattle.std.proofs.Common.{◌≡◌, ℕ, List, [], ◌∷◌, ◌++◌, refl, sym, ap, ◌∙◌, subst, Option, Some, None}
use Rattle.line_grammar.specs.Language.{AnyOf, IsReadTo, IsStuck}
use Rattle.line_grammar.specs.Parts.{IsPart, IsTail, Opens}
use Rattle.line_grammar.proofs.Readings.{read_renamed, stuck_renamed}
use Rattle.tp_lines.specs.declared.parts.Form.TheVariants as form
use Rattle.tp_lines.specs.declared.parts.Part.{Part}
use Rattle.tp_lines.specs.declared.parts.Part.TheVariants as part
use Rattle.tp_lines.specs.declared.words.Field.{Field}
use Rattle.tp_lines.specs.declared.words.Word.{Word}
use Rattle.tp_lines.specs.Parts.{AreFit, PartsTexts, form_of, parts_of, parts_text}
use Rattle.tp_lines.specs.Rows.{ArePartsRead, RowTexts}
use Rattle.tp_lines.specs.Shapes.{fields_of, table_of}
use Rattle.tp_lines.specs.Values.{part_at, word_of}
use Rattle.tp_lines.proofs.Rebuilt.{word_row}
use Rattle.tp_lines.proofs.RowFacts.{parts_part, parts_tail}

abbrev pub IsRowOf : {V : Type 0} → (V → Word × List Part) → Option V → Word × List Part → Type 0
IsRowOf row_of None row = ⊥
IsRowOf row_of (Some v) row = row_of v ≡ row

-- a table: each value has one row, which tells it, and each row of the table is that of a value
pub record IsTable {V : Type 0} (table : Field) (row_of : V → Word × List Part) (at : Word → List Part → Option V) : Type 0 where
  pub choice : form_of table ≡ form.Choice
  pub back : (v : V) → at (row_of v).0 (parts_of (row_of v)) ≡ Some v
  pub rows : (w : Word) (parts : List Part) → table_of w ≡ table → AreFit (fields_of w) parts → IsRowOf row_of (at w (part.Word w ∷ parts)) (w, parts)

module _ {V : Type 0} (table : Field) (row_of : V → Word × List Part) (at : Word → List Part → Option V) (is : IsTable table row_of at) where
  -- the value of the parts, and that they are its row
  record IsValueOf (parts : List Part) : Type 0 where
    value : V
    told : at (word_of (part_at parts 0)) parts ≡ Some value
    row : parts_of (row_of value) ≡ parts

  some_value : (found : Option V) (w : Word) (parts : List Part) → IsRowOf row_of found (w, parts) → (v : V) × (found ≡ Some v) × (row_of v ≡ (w, parts))
  some_value None w parts row = absurd row
  some_value (Some v) w parts row = (v, refl, row)

  value_of_parts : (parts : List Part) → AreFit (table ∷ []) parts → IsValueOf parts
  value_of_parts [] h = absurd h
  value_of_parts (p ∷ parts) h =
      let r = word_row table is.choice p parts h.0 h.1 in
      let v = some_value (at r.word (part.Word r.word ∷ r.behind)) r.word r.behind (is.rows r.word r.behind r.table r.rest) in
      let made : IsValueOf (part.Word r.word ∷ r.behind) = record { value = v.0; told = v.1; row = ap parts_of v.2 } in
      subst IsValueOf (sym r.split) made

  row_to : (parts : List Part) (t : List ℕ) → PartsTexts (table ∷ []) parts t → (v : V) → parts_of (row_of v) ≡ parts → RowTexts table row_of v t
  row_to parts t a v e = record {
    in_range = subst (λ l. AreFit (table ∷ []) l) (sym e) a.fit;
    split = a.split ∙ ap parts_text (sym e);
  }

  row_any : (parts : List Part) (t : List ℕ) → PartsTexts (table ∷ []) parts t → AnyOf (RowTexts table row_of) t
  row_any parts t a = let v = value_of_parts parts a.fit in (v.value, row_to parts t a v.value v.row)

  row_parts : (v : V) (t : List ℕ) → RowTexts table row_of v t → PartsTexts (table ∷ []) (parts_of (row_of v)) t
  row_parts v t a = record { fit = a.in_range; split = a.split }

  row_back : (v : V) (t : List ℕ) → RowTexts table row_of v t → AnyOf (PartsTexts (table ∷ [])) t
  row_back v t a = (parts_of (row_of v), row_parts v t a)

  pub row_stuck : (text : List ℕ) (k : ℕ) → IsStuck (PartsTexts (table ∷ [])) text k → IsStuck (RowTexts table row_of) text k
  row_stuck text k stuck = stuck_renamed (PartsTexts (table ∷ [])) (RowTexts table row_of) row_back text k row_any stuck

  added_all : (text : List ℕ) (now : List Part) (m : ℕ) → ArePartsRead (table ∷ []) text [] now m → IsReadTo (PartsTexts (table ∷ [])) text now m
  added_all text now m a = subst (λ l. IsReadTo (PartsTexts (table ∷ [])) text l m) (sym a.split) a.read

  pub row_read : (text : List ℕ) (now : List Part) (m : ℕ) → ArePartsRead (table ∷ []) text [] now m
      → (v : V) → at (word_of (part_at now 0)) now ≡ Some v → IsReadTo (RowTexts table row_of) text v m
  row_read text now m a v e =
      let read = added_all text now m a in
      let made = value_of_parts now read.text_of.fit in
      let both : Some made.value ≡ Some v = sym made.told ∙ e in
      let same : made.value ≡ v = cc in
      read_renamed (PartsTexts (table ∷ [])) (RowTexts table row_of) row_back text now v m
      (λ t w. row_to now t w v (ap (λ x. parts_of (row_of x)) (sym same) ∙ made.row)) read

  pub row_some : (text : List ℕ) (now : List Part) (m : ℕ) → ArePartsRead (table ∷ []) text [] now m → at (word_of (part_at now 0)) now ≡ None → ⊥
  row_some text now m a e =
      let made = value_of_parts now (added_all text now m a).text_of.fit in
      let both : Some made.value ≡ None = sym made.told ∙ e in
      let no_such : ⊥ = cc in no_such

  -- of two values with one row there is one
  pub one_row : (v w : V) → parts_of (row_of v) ≡ parts_of (row_of w) → v ≡ w
  one_row v w e =
      let both : Some v ≡ Some w = sym (is.back v) ∙ ap (λ l. at (word_of (part_at l 0)) l) e ∙ is.back w in
      cc

  pub rows_part : IsPart 32 (RowTexts table row_of)
  rows_part = record {
    unique = λ v w text a b. one_row v w
        ((parts_part (table ∷ [])).unique (parts_of (row_of v)) (parts_of (row_of w)) text (row_parts v text a) (row_parts w text b));
    apart = λ v w text more a b.
        (parts_part (table ∷ [])).apart (parts_of (row_of v)) (parts_of (row_of w)) text more (row_parts v text a) (row_parts w (text ++ 32 ∷ more) b);
  }

  pub rows_tail : IsTail 32 (RowTexts table row_of)
  rows_tail = record {
    opens = λ v t a. subst (λ l. Opens 32 l) (sym a.split) refl;
    some = let s = (parts_tail (table ∷ [])).some in let v = row_any s.0 s.1 s.2 in (v.0, s.1, v.1);
  }
