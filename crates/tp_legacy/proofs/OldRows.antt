-- The table of old calls.
use Rattle.std.proofs.Common.{◌≡◌, ℕ, List, [], ◌∷◌, refl, sym, ap, ◌∙◌, subst, Bool, true, false, nat_eq, IsTrue, Option, Some}
use Rattle.std.specs.Option.{option_map}
use Rattle.line_grammar.specs.Language.{IsReadTo, IsStuck}
use Rattle.line_grammar.specs.Parts.{IsPart, IsTail}
use Rattle.tp_base.specs.declared.calls.Call.{Call}
use Rattle.tp_base.specs.declared.calls.Call.TheVariants.{CreatePool}
use Rattle.tp_lines.specs.declared.parts.Part.{Part}
use Rattle.tp_lines.specs.declared.parts.Part.TheVariants as part
use Rattle.tp_lines.specs.declared.words.Field.TheVariants as field
use Rattle.tp_lines.specs.declared.words.Word.{Word}
use Rattle.tp_lines.specs.declared.words.Word.TheVariants as word
use Rattle.tp_lines.specs.Calls.{call_at, row_of}
use Rattle.tp_lines.specs.Parts.{parts_of, AreFit, IsWordPart, PartsTexts}
use Rattle.tp_lines.specs.Rows.{ArePartsRead}
use Rattle.tp_lines.specs.Shapes.{fields_of, table_of}
use Rattle.tp_lines.specs.Values.{part_at, word_of}
use Rattle.tp_lines.proofs.Rebuilt.{is_regular, rebuilt, rebuilt_is, same_row}
use Rattle.tp_lines.proofs.Tables.{row_read, row_stuck, rows_part, rows_tail, IsRowOf, IsTable}
use Rattle.tp_lines.proofs.WordRules.{rank}
use Rattle.tp_legacy.specs.Lines.{legacy_row_of, old_call_at, OldTexts}
use Rattle.tp_legacy.specs.declared.LegacyCall.{LegacyCall}
use Rattle.tp_legacy.specs.declared.LegacyCall.TheVariants as call

-- the call of a row: an old one, or one of the machine
abbrev at_of : Bool → Word → List Part → Option LegacyCall
at_of true w parts = Some (old_call_at w parts)
at_of false w parts = option_map (λ made. call.Pool made) (call_at w parts)

abbrev legacy_at : Word → List Part → Option LegacyCall
legacy_at w parts = at_of (nat_eq (rank (table_of w)) (rank field.OldCall)) w parts

pool_back : (c : Call) → legacy_at (row_of c).0 (parts_of (row_of c)) ≡ Some (call.Pool c)
pool_back CreatePool = refl
pool_back _ = refl

back : (made : LegacyCall) → legacy_at (legacy_row_of made).0 (parts_of (legacy_row_of made)) ≡ Some made
back (call.Pool c) = pool_back c
back _ = refl

regular : (w : Word) → table_of w ≡ field.OldCall → IsTrue (is_regular (fields_of w))
regular (word.Kind _) e = cc
regular _ e = cc

rows : (w : Word) (parts : List Part) → table_of w ≡ field.OldCall → AreFit (fields_of w) parts → IsRowOf legacy_row_of (legacy_at w (part.Word w ∷ parts)) (w, parts)
rows (word.Kind _) parts e h = cc
rows w parts e h =
    let row = same_row w parts (rebuilt (fields_of w) 1 (part.Word w ∷ parts)) (rebuilt_is (fields_of w) parts (part.Word w ∷ []) (regular w e) h 1 refl) in
    cc

old_table : IsTable field.OldCall legacy_row_of legacy_at
old_table = record { choice = refl; back = back; rows = rows }

pub old_part : IsPart 32 OldTexts
old_part = rows_part field.OldCall legacy_row_of legacy_at old_table

pub old_tail : IsTail 32 OldTexts
old_tail = rows_tail field.OldCall legacy_row_of legacy_at old_table

-- ---- reading

first_table : (parts : List Part) → AreFit (field.OldCall ∷ []) parts → table_of (word_of (part_at parts 0)) ≡ field.OldCall
first_table [] h = absurd h
first_table (p ∷ parts) h = let first : IsWordPart field.OldCall p = h.0 in ap (λ q. table_of (word_of q)) first.is ∙ first.table

pub old_read : (text : List ℕ) (now : List Part) (m : ℕ) → ArePartsRead (field.OldCall ∷ []) text [] now m → (made : LegacyCall) → made ≡ old_call_at (word_of (part_at now 0)) now
    → IsReadTo OldTexts text made m
old_read text now m a made e =
    let table : table_of (word_of (part_at now 0)) ≡ field.OldCall = first_table now (subst (λ l. AreFit (field.OldCall ∷ []) l) (sym a.split) a.read.text_of.fit) in
    row_read field.OldCall legacy_row_of legacy_at old_table text now m a made
    (ap (λ f. at_of (nat_eq (rank f) (rank field.OldCall)) (word_of (part_at now 0)) now) table ∙ ap (λ x. Some x) (sym e))

pub old_stuck : (text : List ℕ) (k : ℕ) → IsStuck (PartsTexts (field.OldCall ∷ [])) text k → IsStuck OldTexts text k
old_stuck text k stuck = row_stuck field.OldCall legacy_row_of legacy_at old_table text k stuck
