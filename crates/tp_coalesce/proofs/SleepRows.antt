-- The table of sleeps.
use Rattle.std.proofs.Common.{◌≡◌, ℕ, List, [], ◌∷◌, refl, sym, ap, ◌∙◌, subst, Bool, true, false, nat_eq, IsTrue, Option, Some}
use Rattle.std.specs.Option.{option_map}
use Rattle.line_grammar.specs.Language.{IsReadTo, IsStuck}
use Rattle.line_grammar.specs.Parts.{IsPart, IsTail}
use Rattle.tp_base.specs.declared.calls.Call.{Call}
use Rattle.tp_base.specs.declared.calls.Call.TheVariants.{CreatePool}
use Rattle.tp_lines.specs.declared.parts.Part.{Part}
use Rattle.tp_lines.specs.declared.parts.Part.TheVariants as part
use Rattle.tp_lines.specs.declared.words.Field.TheVariants as field
use Rattle.tp_lines.specs.declared.words.Word.{Word}
use Rattle.tp_lines.specs.declared.words.Word.TheVariants as word
use Rattle.tp_lines.specs.Calls.{call_at, row_of}
use Rattle.tp_lines.specs.Parts.{parts_of, AreFit, IsWordPart, PartsTexts}
use Rattle.tp_lines.specs.Rows.{ArePartsRead}
use Rattle.tp_lines.specs.Shapes.{fields_of, table_of}
use Rattle.tp_lines.specs.Values.{part_at, word_of}
use Rattle.tp_lines.proofs.Rebuilt.{is_regular, rebuilt, rebuilt_is, same_row}
use Rattle.tp_lines.proofs.Tables.{row_read, row_stuck, rows_part, rows_tail, IsRowOf, IsTable}
use Rattle.tp_lines.proofs.WordRules.{rank}
use Rattle.tp_coalesce.specs.Lines.{sleep_row_of, sleep_at, SleepTexts}
use Rattle.tp_coalesce.specs.declared.SleepCall.{SleepCall}
use Rattle.tp_coalesce.specs.declared.SleepCall.TheVariants as call

-- the call of a row: a sleep, or one of the machine
abbrev at_of : Bool → Word → List Part → Option SleepCall
at_of true w parts = Some (sleep_at parts)
at_of false w parts = option_map (λ made. call.Pool made) (call_at w parts)

abbrev any_at : Word → List Part → Option SleepCall
any_at w parts = at_of (nat_eq (rank (table_of w)) (rank field.SleepCall)) w parts

pool_back : (c : Call) → any_at (row_of c).0 (parts_of (row_of c)) ≡ Some (call.Pool c)
pool_back CreatePool = refl
pool_back _ = refl

back : (made : SleepCall) → any_at (sleep_row_of made).0 (parts_of (sleep_row_of made)) ≡ Some made
back (call.Pool c) = pool_back c
back _ = refl

regular : (w : Word) → table_of w ≡ field.SleepCall → IsTrue (is_regular (fields_of w))
regular (word.Kind _) e = cc
regular _ e = cc

rows : (w : Word) (parts : List Part) → table_of w ≡ field.SleepCall → AreFit (fields_of w) parts → IsRowOf sleep_row_of (any_at w (part.Word w ∷ parts)) (w, parts)
rows (word.Kind _) parts e h = cc
rows w parts e h =
    let row = same_row w parts (rebuilt (fields_of w) 1 (part.Word w ∷ parts)) (rebuilt_is (fields_of w) parts (part.Word w ∷ []) (regular w e) h 1 refl) in
    cc

sleep_table : IsTable field.SleepCall sleep_row_of any_at
sleep_table = record { choice = refl; back = back; rows = rows }

pub sleep_part : IsPart 32 SleepTexts
sleep_part = rows_part field.SleepCall sleep_row_of any_at sleep_table

pub sleep_tail : IsTail 32 SleepTexts
sleep_tail = rows_tail field.SleepCall sleep_row_of any_at sleep_table

-- ---- reading

first_table : (parts : List Part) → AreFit (field.SleepCall ∷ []) parts → table_of (word_of (part_at parts 0)) ≡ field.SleepCall
first_table [] h = absurd h
first_table (p ∷ parts) h = let first : IsWordPart field.SleepCall p = h.0 in ap (λ q. table_of (word_of q)) first.is ∙ first.table

pub sleep_read : (text : List ℕ) (now : List Part) (m : ℕ) → ArePartsRead (field.SleepCall ∷ []) text [] now m → (made : SleepCall) → made ≡ sleep_at now
    → IsReadTo SleepTexts text made m
sleep_read text now m a made e =
    let table : table_of (word_of (part_at now 0)) ≡ field.SleepCall = first_table now (subst (λ l. AreFit (field.SleepCall ∷ []) l) (sym a.split) a.read.text_of.fit) in
    row_read field.SleepCall sleep_row_of any_at sleep_table text now m a made
    (ap (λ f. at_of (nat_eq (rank f) (rank field.SleepCall)) (word_of (part_at now 0)) now) table ∙ ap (λ x. Some x) (sym e))

pub sleep_stuck : (text : List ℕ) (k : ℕ) → IsStuck (PartsTexts (field.SleepCall ∷ [])) text k → IsStuck SleepTexts text k
sleep_stuck text k stuck = row_stuck field.SleepCall sleep_row_of any_at sleep_table text k stuck
