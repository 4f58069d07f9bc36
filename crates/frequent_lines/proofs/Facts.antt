-- Lines of frequent calls.
use Rattle.std.proofs.Common.{◌≡◌, ℕ, ◌+◌, ◌*◌, ◌<◌, ◌≤◌, List, [], ◌∷◌, ◌++◌, drop, take, refl, sym, ap, ◌∙◌, subst, FitsSigned, w64, arith}
use Rattle.std.specs.Prelude.{ℤ, codes, decimal}
use Rattle.std.specs.Fmt.{signed_decimal}
use Rattle.std.proofs.lemmas.Fmt.{decimal_digit}
use Rattle.std.proofs.lemmas.List.{append_assoc, take-append-drop}
use Rattle.line_grammar.specs.Language.{IsFront, IsReadTo}
use Rattle.line_grammar.specs.Numbers.{Signed}
use Rattle.line_grammar.proofs.NumberFacts.{decimal_longer}
use Rattle.tp_base.specs.declared.answers.Answer.{Answer}
use Rattle.tp_base.specs.declared.calls.Call.{Call}
use Rattle.tp_base.specs.declared.ids.Who.{Who}
use Rattle.tp_base.specs.declared.ids.Who.TheVariants.{Client, Worker}
use Rattle.tp_lines.specs.AnswerRows.{AnswerTexts}
use Rattle.tp_lines.specs.Answers.{EntryLines, text_of_answer}
use Rattle.tp_lines.specs.Calls.{CallLines, CallTexts, IsWhoInRange, WhoTexts, line_of_call}
use Rattle.tp_lines.specs.Words.{text_of_who}

who_front : (text after rest : List ℕ) (letter n : ℕ) (who : Who) → text_of_who who ≡ letter ∷ decimal n → IsWhoInRange who
    → text ≡ letter ∷ after → after ≡ decimal n ++ rest → IsFront WhoTexts text who rest
who_front text after rest letter n who is in_range e f = record {
  front = letter ∷ decimal n;
  text_of = record { in_range = in_range; split = sym is };
  split = e ∙ ap (λ l. letter ∷ l) f;
}

pub worker_front : (text after rest : List ℕ) → text ≡ 119 ∷ after → (n : ℕ) → 1 ≤ n → n ≤ 64 → after ≡ decimal n ++ rest → IsFront WhoTexts text (Worker n) rest
worker_front text after rest e n least most f = who_front text after rest 119 n (Worker n) refl (least, most) e f

pub client_front : (text after rest : List ℕ) → text ≡ 99 ∷ after → (n : ℕ) → 1 ≤ n → n ≤ 16 → after ≡ decimal n ++ rest → IsFront WhoTexts text (Client n) rest
client_front text after rest e n least most f = who_front text after rest 99 n (Client n) refl (least, most) e f

pub line_front : (text start rest : List ℕ) (who : Who) (call : Call) → IsFront WhoTexts text who start → IsFront CallTexts start call rest
    → IsFront CallLines text (who, call) rest
line_front text start rest who call a b = record {
  front = a.front ++ b.front;
  text_of =
      record {
        who_in_range = a.text_of.in_range;
        call_in_range = b.text_of.in_range;
        split = ap (λ l. l ++ b.front) a.text_of.split ∙ ap (λ l. text_of_who who ++ l) b.text_of.split;
      };
  split = a.split ∙ ap (λ l. a.front ++ l) b.split ∙ sym (append_assoc a.front b.front rest);
}

pub one_digit : (text start : List ℕ) (n : ℕ) → n < 10 → text ≡ (48 + n) ∷ start → text ≡ decimal n ++ start
one_digit text start n few e = e ∙ ap (λ l. l ++ start) (sym (decimal_digit n few))

pub two_digits : (text start rest : List ℕ) (n d : ℕ) → 1 ≤ n → n < 10 → d < 10 → text ≡ (48 + n) ∷ start → start ≡ (48 + d) ∷ rest
    → text ≡ decimal (n * 10 + d) ++ rest
two_digits text start rest n d least few small e f =
    e ∙ ap (λ l. (48 + n) ∷ l) f
    ∙ ap (λ l. l ++ rest) (sym (decimal_longer n d least small (omega arith) ∙ ap (λ l. l ++ (48 + d) ∷ []) (decimal_digit n few)))

pub number_front : (text : List ℕ) (value n : ℕ) → take n text ≡ decimal value → (rest : List ℕ) → rest ≡ drop n text → text ≡ decimal value ++ rest
number_front text value n read rest e = sym (take-append-drop n text) ∙ ap (λ l. l ++ drop n text) read ∙ ap (λ l. decimal value ++ l) (sym e)

pub signed_front : (text : List ℕ) (value : ℤ) (n : ℕ) → IsReadTo Signed text value n → (other : ℤ) → other ≡ value → (rest : List ℕ) → rest ≡ drop n text
    → FitsSigned w64 other × (text ≡ signed_decimal other ++ rest)
signed_front text value n read other same rest e =
    let split : text ≡ signed_decimal value ++ rest =
    sym (take-append-drop n text) ∙ ap (λ l. l ++ drop n text) read.text_of.split ∙ ap (λ l. signed_decimal value ++ l) (sym e)
    in
    subst (λ v. FitsSigned w64 v × (text ≡ signed_decimal v ++ rest)) (sym same) (read.text_of.fits, split)

pub entry_front : (text : List ℕ) (who : Who) (call : Call) (arrow start : List ℕ) → IsFront CallLines text (who, call) arrow → arrow ≡ codes " ->" ++ start
    → (answer : Answer) (rest : List ℕ) → IsFront AnswerTexts start answer rest → IsFront EntryLines text (record { who = who; call = call; answer = answer }) rest
entry_front text who call arrow start a e answer rest b = record {
  front = a.front ++ (codes " ->" ++ b.front);
  text_of =
      record {
        who_in_range = a.text_of.who_in_range;
        call_in_range = a.text_of.call_in_range;
        answer_in_range = b.text_of.in_range;
        split = ap (λ l. l ++ (codes " ->" ++ b.front)) a.text_of.split ∙ ap (λ l. line_of_call who call ++ (codes " ->" ++ l)) b.text_of.split
            ∙ sym (append_assoc (line_of_call who call) (codes " -> ") (text_of_answer answer));
      };
  split = a.split ∙ ap (λ l. a.front ++ l) (e ∙ ap (λ l. codes " ->" ++ l) b.split) ∙ sym (append_assoc a.front (codes " ->" ++ b.front) rest);
}
