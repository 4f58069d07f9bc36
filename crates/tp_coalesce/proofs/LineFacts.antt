-- The lines of calls with sleeps, from their parts.
use Rattle.std.proofs.Common.{◌≡◌, ℕ, ◌+◌, List, [], ◌∷◌, ◌++◌, drop, refl, sym, ap, ◌∙◌, subst, inl, inr}
use Rattle.std.specs.Prelude.{Result}
use Rattle.line_grammar.specs.Language.{AnyOf, IsRead, IsReadTo, IsStuck}
use Rattle.line_grammar.specs.Parts.{IsPair}
use Rattle.line_grammar.specs.Words.{further_of, Either}
use Rattle.line_grammar.proofs.Pairs.{pairs_read, pairs_stuck_first, pairs_stuck_second}
use Rattle.line_grammar.proofs.Readings.{read_renamed, read_same, stuck_renamed}
use Rattle.line_grammar.proofs.WordFacts.{further_read}
use Rattle.tp_base.specs.declared.calls.Call.{Call}
use Rattle.tp_base.specs.declared.calls.Call.TheVariants.{CreatePool}
use Rattle.tp_base.specs.declared.ids.Who.{Who}
use Rattle.tp_lines.specs.declared.words.Field.TheVariants as field
use Rattle.tp_lines.specs.declared.parts.Part.TheVariants as part
use Rattle.tp_lines.specs.declared.words.Word.{Word}
use Rattle.tp_lines.specs.Calls.{row_of, CallLines, WhoTexts}
use Rattle.tp_lines.specs.Parts.{parts_of, row_text, AreFit, IsWordPart}
use Rattle.tp_lines.specs.Shapes.{table_of}
use Rattle.tp_lines.specs.Values.{word_of}
use Rattle.tp_lines.specs.Words.{text_of_who}
use Rattle.tp_lines.proofs.WhoFacts.{who_part}
use Rattle.tp_coalesce.specs.Lines.{sleep_row_of, table_of_call, IsSleepLine, SleepLines, OwnLines, SleepTexts, PoolLines}
use Rattle.tp_coalesce.specs.declared.SleepCall.{SleepCall}
use Rattle.tp_coalesce.specs.declared.SleepCall.TheVariants as call
use Rattle.tp_coalesce.proofs.SleepRows.{sleep_tail}

-- ---- calls of the machine

pool_back : (p : Who × SleepCall) (t : List ℕ) → PoolLines p t → AnyOf CallLines t
pool_back (who, call.Pool c) t a = ((who, c), a)
pool_back _ t a = absurd a

pool_any : (p : Who × Call) (t : List ℕ) → CallLines p t → AnyOf PoolLines t
pool_any (who, c) t a = ((who, call.Pool c), a)

pub pool_stuck : (text : List ℕ) (k : ℕ) → IsStuck CallLines text k → IsStuck PoolLines text k
pool_stuck text k stuck = stuck_renamed CallLines PoolLines pool_back text k pool_any stuck

pub pool_read : (text : List ℕ) (who : Who) (c : Call) (n : ℕ) → IsReadTo CallLines text (who, c) n → IsReadTo PoolLines text (who, call.Pool c) n
pool_read text who c n read = read_renamed CallLines PoolLines pool_back text (who, c) (who, call.Pool c) n (λ t a. a) read

-- ---- sleeps

module _ (text : List ℕ) where
  pub own_stuck_first : (k : ℕ) → IsStuck WhoTexts text k → IsStuck OwnLines text k
  own_stuck_first k stuck = pairs_stuck_first 32 WhoTexts (λ w. SleepTexts) who_part (λ w. sleep_tail) text k stuck

  module _ (who : Who) (n : ℕ) (first : IsReadTo WhoTexts text who n) (rest : List ℕ) (e : rest ≡ drop n text) where
    pub own_stuck_second : (k : ℕ) → IsStuck SleepTexts rest k → IsStuck OwnLines text (n + k)
    own_stuck_second k stuck = pairs_stuck_second 32 WhoTexts (λ w. SleepTexts) who_part (λ w. sleep_tail) text who n first k (subst (λ l. IsStuck SleepTexts l k) e stuck)

    pub own_line_read : (made : SleepCall) (m : ℕ) → IsReadTo SleepTexts rest made m → IsReadTo OwnLines text (who, made) (n + m)
    own_line_read made m read = pairs_read 32 WhoTexts (λ w. SleepTexts) who_part (λ w. sleep_tail) text who n first made m (subst (λ l. IsReadTo SleepTexts l made m) e read)

-- the word of a call of the machine is none of a sleep
pub call_table : (c : Call) → table_of (row_of c).0 ≡ field.Call
call_table CreatePool = refl
call_table _ = refl

pub first_table : (w : Word) → IsWordPart field.SleepCall (part.Word w) → table_of w ≡ field.SleepCall
first_table w h = ap (λ p. table_of (word_of p)) h.is ∙ h.table

pub sleep_call : (made : SleepCall) → AreFit (field.SleepCall ∷ []) (parts_of (sleep_row_of made)) → table_of_call made ≡ field.SleepCall
sleep_call (call.Pool c) h = let tables : field.Call ≡ field.SleepCall = sym (call_table c) ∙ first_table (row_of c).0 h.0 in cc
sleep_call _ h = refl

-- ---- both

own_to : (who : Who) (made : SleepCall) (t : List ℕ) → IsPair WhoTexts (λ w. SleepTexts) who made t → IsSleepLine who made t
own_to who made t pair = record {
  who_in_range = pair.first.in_range;
  call_in_range = subst (λ f. AreFit (f ∷ []) (parts_of (sleep_row_of made))) (sym (sleep_call made pair.second.in_range)) pair.second.in_range;
  split = pair.split ∙ ap (λ l. l ++ pair.back) pair.first.split ∙ ap (λ l. text_of_who who ++ l) pair.second.split;
}

pub own_pair : (who : Who) (made : SleepCall) (t : List ℕ) → IsSleepLine who made t → table_of_call made ≡ field.SleepCall → IsPair WhoTexts (λ w. SleepTexts) who made t
own_pair who made t a e = record {
  front = text_of_who who;
  back = 32 ∷ row_text (sleep_row_of made);
  split = a.split;
  first = record { in_range = a.who_in_range; split = refl };
  second = record { in_range = subst (λ f. AreFit (f ∷ []) (parts_of (sleep_row_of made))) e a.call_in_range; split = refl };
}

either_to : (p : Who × SleepCall) (t : List ℕ) → Either PoolLines OwnLines p t → SleepLines p t
either_to (who, call.Pool c) t (inl a) = record { who_in_range = a.who_in_range; call_in_range = a.call_in_range; split = a.split }
either_to (who, made) t (inr a) = own_to who made t a
either_to _ t (inl a) = absurd a

pub line_back : (p : Who × SleepCall) (t : List ℕ) → SleepLines p t → Either PoolLines OwnLines p t
line_back (who, call.Pool c) t a = inl (record { who_in_range = a.who_in_range; call_in_range = a.call_in_range; split = a.split })
line_back (who, made) t a = inr (own_pair who made t a refl)

pub line_read : (text : List ℕ) (r q z : Result ((Who × SleepCall) × ℕ) ℕ) → z ≡ further_of r q → IsRead PoolLines text r → IsRead OwnLines text q → IsRead SleepLines text z
line_read text r q z e a b = read_same (Either PoolLines OwnLines) SleepLines either_to line_back text z (further_read PoolLines OwnLines text r q z e a b)
