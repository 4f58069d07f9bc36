-- The lines of calls of the pool before Vista, from their parts.
use Rattle.std.proofs.Common.{◌≡◌, ℕ, ◌+◌, List, [], ◌∷◌, ◌++◌, drop, refl, sym, ap, ◌∙◌, subst, inl, inr}
use Rattle.std.specs.Prelude.{Result}
use Rattle.line_grammar.specs.Language.{AnyOf, IsRead, IsReadTo, IsStuck}
use Rattle.line_grammar.specs.Parts.{IsPair}
use Rattle.line_grammar.specs.Words.{further_of, Either}
use Rattle.line_grammar.proofs.Pairs.{pairs_read, pairs_stuck_first, pairs_stuck_second}
use Rattle.line_grammar.proofs.Readings.{read_renamed, read_same, stuck_renamed}
use Rattle.line_grammar.proofs.WordFacts.{further_read}
use Rattle.tp_base.specs.declared.calls.Call.{Call}
use Rattle.tp_base.specs.declared.calls.Call.TheVariants.{CreatePool}
use Rattle.tp_base.specs.declared.ids.Who.{Who}
use Rattle.tp_lines.specs.declared.words.Field.TheVariants as field
use Rattle.tp_lines.specs.declared.parts.Part.TheVariants as part
use Rattle.tp_lines.specs.declared.words.Word.{Word}
use Rattle.tp_lines.specs.Calls.{row_of, CallLines, WhoTexts}
use Rattle.tp_lines.specs.Parts.{parts_of, row_text, AreFit, IsWordPart}
use Rattle.tp_lines.specs.Shapes.{table_of}
use Rattle.tp_lines.specs.Values.{word_of}
use Rattle.tp_lines.specs.Words.{text_of_who}
use Rattle.tp_lines.proofs.WhoFacts.{who_part}
use Rattle.tp_legacy.specs.Lines.{legacy_row_of, table_of_call, IsLegacyLine, LegacyLines, OldLines, OldTexts, PoolLines}
use Rattle.tp_legacy.specs.declared.LegacyCall.{LegacyCall}
use Rattle.tp_legacy.specs.declared.LegacyCall.TheVariants as call
use Rattle.tp_legacy.proofs.OldRows.{old_tail}

-- ---- calls of the machine

pool_back : (p : Who × LegacyCall) (t : List ℕ) → PoolLines p t → AnyOf CallLines t
pool_back (who, call.Pool c) t a = ((who, c), a)
pool_back _ t a = absurd a

pool_any : (p : Who × Call) (t : List ℕ) → CallLines p t → AnyOf PoolLines t
pool_any (who, c) t a = ((who, call.Pool c), a)

pub pool_stuck : (text : List ℕ) (k : ℕ) → IsStuck CallLines text k → IsStuck PoolLines text k
pool_stuck text k stuck = stuck_renamed CallLines PoolLines pool_back text k pool_any stuck

pub pool_read : (text : List ℕ) (who : Who) (c : Call) (n : ℕ) → IsReadTo CallLines text (who, c) n → IsReadTo PoolLines text (who, call.Pool c) n
pool_read text who c n read = read_renamed CallLines PoolLines pool_back text (who, c) (who, call.Pool c) n (λ t a. a) read

-- ---- old calls

module _ (text : List ℕ) where
  pub old_stuck_first : (k : ℕ) → IsStuck WhoTexts text k → IsStuck OldLines text k
  old_stuck_first k stuck = pairs_stuck_first 32 WhoTexts (λ w. OldTexts) who_part (λ w. old_tail) text k stuck

  module _ (who : Who) (n : ℕ) (first : IsReadTo WhoTexts text who n) (rest : List ℕ) (e : rest ≡ drop n text) where
    pub old_stuck_second : (k : ℕ) → IsStuck OldTexts rest k → IsStuck OldLines text (n + k)
    old_stuck_second k stuck = pairs_stuck_second 32 WhoTexts (λ w. OldTexts) who_part (λ w. old_tail) text who n first k (subst (λ l. IsStuck OldTexts l k) e stuck)

    pub old_line_read : (made : LegacyCall) (m : ℕ) → IsReadTo OldTexts rest made m → IsReadTo OldLines text (who, made) (n + m)
    old_line_read made m read = pairs_read 32 WhoTexts (λ w. OldTexts) who_part (λ w. old_tail) text who n first made m (subst (λ l. IsReadTo OldTexts l made m) e read)

-- the word of a call of the machine is none of an old one
pub call_table : (c : Call) → table_of (row_of c).0 ≡ field.Call
call_table CreatePool = refl
call_table _ = refl

pub first_table : (w : Word) → IsWordPart field.OldCall (part.Word w) → table_of w ≡ field.OldCall
first_table w h = ap (λ p. table_of (word_of p)) h.is ∙ h.table

pub old_call : (made : LegacyCall) → AreFit (field.OldCall ∷ []) (parts_of (legacy_row_of made)) → table_of_call made ≡ field.OldCall
old_call (call.Pool c) h = let tables : field.Call ≡ field.OldCall = sym (call_table c) ∙ first_table (row_of c).0 h.0 in cc
old_call _ h = refl

-- ---- both

old_to : (who : Who) (made : LegacyCall) (t : List ℕ) → IsPair WhoTexts (λ w. OldTexts) who made t → IsLegacyLine who made t
old_to who made t pair = record {
  who_in_range = pair.first.in_range;
  call_in_range = subst (λ f. AreFit (f ∷ []) (parts_of (legacy_row_of made))) (sym (old_call made pair.second.in_range)) pair.second.in_range;
  split = pair.split ∙ ap (λ l. l ++ pair.back) pair.first.split ∙ ap (λ l. text_of_who who ++ l) pair.second.split;
}

pub old_pair : (who : Who) (made : LegacyCall) (t : List ℕ) → IsLegacyLine who made t → table_of_call made ≡ field.OldCall → IsPair WhoTexts (λ w. OldTexts) who made t
old_pair who made t a e = record {
  front = text_of_who who;
  back = 32 ∷ row_text (legacy_row_of made);
  split = a.split;
  first = record { in_range = a.who_in_range; split = refl };
  second = record { in_range = subst (λ f. AreFit (f ∷ []) (parts_of (legacy_row_of made))) e a.call_in_range; split = refl };
}

either_to : (p : Who × LegacyCall) (t : List ℕ) → Either PoolLines OldLines p t → LegacyLines p t
either_to (who, call.Pool c) t (inl a) = record { who_in_range = a.who_in_range; call_in_range = a.call_in_range; split = a.split }
either_to (who, made) t (inr a) = old_to who made t a
either_to _ t (inl a) = absurd a

pub line_back : (p : Who × LegacyCall) (t : List ℕ) → LegacyLines p t → Either PoolLines OldLines p t
line_back (who, call.Pool c) t a = inl (record { who_in_range = a.who_in_range; call_in_range = a.call_in_range; split = a.split })
line_back (who, made) t a = inr (old_pair who made t a refl)

pub line_read : (text : List ℕ) (r q z : Result ((Who × LegacyCall) × ℕ) ℕ) → z ≡ further_of r q → IsRead PoolLines text r → IsRead OldLines text q → IsRead LegacyLines text z
line_read text r q z e a b = read_same (Either PoolLines OldLines) LegacyLines either_to line_back text z (further_read PoolLines OldLines text r q z e a b)
