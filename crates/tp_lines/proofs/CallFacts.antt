-- The table of calls.
use Rattle.std.proofs.Common.{◌≡◌, List, [], ◌∷◌, refl, IsTrue, Some}
use Rattle.line_grammar.specs.Parts.{IsPart, IsTail}
use Rattle.tp_base.specs.declared.calls.Call.{Call}
use Rattle.tp_base.specs.declared.calls.Call.TheVariants as call
use Rattle.tp_lines.specs.declared.parts.Part.{Part}
use Rattle.tp_lines.specs.declared.parts.Part.TheVariants as part
use Rattle.tp_lines.specs.declared.words.Field.TheVariants as field
use Rattle.tp_lines.specs.declared.words.Word.{Word}
use Rattle.tp_lines.specs.declared.words.Word.TheVariants as word
use Rattle.tp_lines.specs.Calls.{CallTexts, call_at, row_of}
use Rattle.tp_lines.specs.Parts.{AreFit, parts_of}
use Rattle.tp_lines.specs.Shapes.{fields_of, table_of}
use Rattle.tp_lines.proofs.Rebuilt.{is_regular, rebuilt, rebuilt_is, same_row}
use Rattle.tp_lines.proofs.Tables.{IsRowOf, IsTable, rows_part, rows_tail}

back : (c : Call) → call_at (row_of c).0 (parts_of (row_of c)) ≡ Some c
back call.CreatePool = refl
back _ = refl

regular : (w : Word) → table_of w ≡ field.Call → IsTrue (is_regular (fields_of w))
regular (word.Kind _) e = cc
regular _ e = cc

rows : (w : Word) (parts : List Part) → table_of w ≡ field.Call → AreFit (fields_of w) parts → IsRowOf row_of (call_at w (part.Word w ∷ parts)) (w, parts)
rows (word.Kind _) parts e h = cc
rows w parts e h =
    let row = same_row w parts (rebuilt (fields_of w) 1 (part.Word w ∷ parts)) (rebuilt_is (fields_of w) parts (part.Word w ∷ []) (regular w e) h 1 refl) in
    cc

pub call_table : IsTable field.Call row_of call_at
call_table = record { choice = refl; back = back; rows = rows }

pub calls_part : IsPart 32 CallTexts
calls_part = rows_part field.Call row_of call_at call_table

pub calls_tail : IsTail 32 CallTexts
calls_tail = rows_tail field.Call row_of call_at call_table
