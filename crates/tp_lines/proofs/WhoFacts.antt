-- Actors, and the lines of calls.
use Rattle.std.proofs.Common.{◌≡◌, ℕ, ◌+◌, List, [], ◌∷◌, ◌++◌, drop, refl, sym, ap, ◌∙◌, subst, arith, inl, inr, Bool, true, false}
use Rattle.std.specs.Prelude.{Result, Ok, Err, decimal, nat_lt, if◌then◌else◌}
use Rattle.std.proofs.lemmas.Bool.{ltb-true, ltb-false}
use Rattle.std.proofs.lemmas.List.{append-nil}
use Rattle.line_grammar.specs.Language.{AnyOf, IsRead, IsReadTo, IsStuck}
use Rattle.line_grammar.specs.Numbers.{Numbers}
use Rattle.line_grammar.specs.Parts.{Led, IsPair, Pairs, IsPart}
use Rattle.line_grammar.specs.Words.{Either, further_of}
use Rattle.line_grammar.proofs.NumberFacts.{numbers_part, some_number}
use Rattle.line_grammar.proofs.Pairs.{pairs_read, pairs_stuck_first, pairs_stuck_second, pairs_part}
use Rattle.line_grammar.proofs.Readings.{read_same, part_renamed, stuck_renamed, led_none, led_part}
use Rattle.line_grammar.proofs.WordFacts.{further_read}
use Rattle.tp_base.specs.declared.calls.Call.{Call}
use Rattle.tp_base.specs.declared.ids.Who.{Who}
use Rattle.tp_base.specs.declared.ids.Who.TheVariants.{Client, Worker}
use Rattle.tp_lines.specs.Actors.{ClientTexts, WorkerTexts}
use Rattle.tp_lines.specs.Calls.{IsCallLine, CallLines, CallTexts, IsWhoText, WhoTexts, row_of}
use Rattle.tp_lines.specs.Parts.{row_text}
use Rattle.tp_lines.specs.Words.{text_of_who}
use Rattle.tp_lines.proofs.CallFacts.{calls_part, calls_tail}

client_back : (who : Who) (t : List ℕ) → ClientTexts who t → AnyOf (Led 99 (Numbers 1 16)) t
client_back who t a = (a.number, record { rest = decimal a.number; split = a.split; behind = record { at_least = a.at_least; at_most = a.at_most; split = refl } })

client_to : (n : ℕ) (t : List ℕ) → Led 99 (Numbers 1 16) n t → ClientTexts (Client n) t
client_to n t l = record { number = n; is = refl; at_least = l.behind.at_least; at_most = l.behind.at_most; split = l.split ∙ ap (λ r. 99 ∷ r) l.behind.split }

pub client_stuck : (text : List ℕ) (place : ℕ) → IsStuck (Led 99 (Numbers 1 16)) text place → IsStuck ClientTexts text place
client_stuck text place stuck = stuck_renamed (Led 99 (Numbers 1 16)) ClientTexts client_back text place (λ n t l. (Client n, client_to n t l)) stuck

worker_back : (who : Who) (t : List ℕ) → WorkerTexts who t → AnyOf (Led 119 (Numbers 1 64)) t
worker_back who t a = (a.number, record { rest = decimal a.number; split = a.split; behind = record { at_least = a.at_least; at_most = a.at_most; split = refl } })

worker_to : (n : ℕ) (t : List ℕ) → Led 119 (Numbers 1 64) n t → WorkerTexts (Worker n) t
worker_to n t l = record { number = n; is = refl; at_least = l.behind.at_least; at_most = l.behind.at_most; split = l.split ∙ ap (λ r. 119 ∷ r) l.behind.split }

pub worker_stuck : (text : List ℕ) (place : ℕ) → IsStuck (Led 119 (Numbers 1 64)) text place → IsStuck WorkerTexts text place
worker_stuck text place stuck = stuck_renamed (Led 119 (Numbers 1 64)) WorkerTexts worker_back text place (λ n t l. (Worker n, worker_to n t l)) stuck

-- both
who_to : (who : Who) (t : List ℕ) → Either ClientTexts WorkerTexts who t → WhoTexts who t
who_to who t (inl a) = subst (λ w. IsWhoText w t) (sym a.is) (record { in_range = (a.at_least, a.at_most); split = a.split })
who_to who t (inr a) = subst (λ w. IsWhoText w t) (sym a.is) (record { in_range = (a.at_least, a.at_most); split = a.split })

who_back : (who : Who) (t : List ℕ) → WhoTexts who t → Either ClientTexts WorkerTexts who t
who_back (Client n) t a = inl (record { number = n; is = refl; at_least = a.in_range.0; at_most = a.in_range.1; split = a.split })
who_back (Worker n) t a = inr (record { number = n; is = refl; at_least = a.in_range.0; at_most = a.in_range.1; split = a.split })

who_read : (text : List ℕ) (r q z : Result (Who × ℕ) ℕ) → z ≡ further_of r q → IsRead ClientTexts text r → IsRead WorkerTexts text q → IsRead WhoTexts text z
who_read text r q z e a b = read_same (Either ClientTexts WorkerTexts) WhoTexts who_to who_back text z (further_read ClientTexts WorkerTexts text r q z e a b)

-- the first byte tells which of both is read
abbrev Read : Type 0
Read = Result (Who × ℕ) ℕ

none_below : (b : Bool) (m : ℕ) → nat_lt m 0 ≡ b → (x y : Read) → y ≡ (if b then x else y)
none_below true m e x y = let no_such : ⊥ = omega (arith, ltb-true m 0 e) in absurd no_such
none_below false m e x y = refl

stuck_both : (b : Bool) (k : ℕ) → nat_lt 0 k ≡ b → (let x : Read = Err k in x) ≡ (if b then Err k else Err 0)
stuck_both true k e = refl
stuck_both false k e = let none : k ≡ 0 = omega (arith, ltb-false 0 k e) in ap (λ i. Err i) none

stuck_left : (z : Read) → z ≡ further_of (Err 0) z
stuck_left (Ok (w, m)) = none_below (nat_lt m 0) m refl (Err 0) (Ok (w, m))
stuck_left (Err k) = stuck_both (nat_lt 0 k) k refl

stuck_right : (z : Read) → z ≡ further_of z (Err 0)
stuck_right (Ok (v, n)) = none_below (nat_lt n 0) n refl (Err 0) (Ok (v, n))
stuck_right (Err k) = none_below (nat_lt k 0) k refl (Err 0) (Err k)

other_letter : (x : ℕ) (rest text : List ℕ) → text ≡ 119 ∷ rest → (more : List ℕ) → text ≡ x ∷ more → x ≡ 99 → ⊥
other_letter x rest text e more f at = let same : 119 ≡ x = (let both : 119 ∷ rest ≡ x ∷ more = sym e ∙ f in cc) in omega arith

pub worker_who : (text rest : List ℕ) → text ≡ 119 ∷ rest → (z : Result (Who × ℕ) ℕ) → IsRead WorkerTexts text z → IsRead WhoTexts text z
worker_who text rest e z read =
    let none : IsRead ClientTexts text (Err 0) = client_stuck text 0 (led_none 99 (Numbers 1 16) text (decimal 1) (some_number 1 16 (omega arith)) (λ x more f at. other_letter x rest text e more f at)) in
    who_read text (Err 0) z z (stuck_left z) none read

pub client_who : (text : List ℕ) → ((x : ℕ) (rest : List ℕ) → text ≡ x ∷ rest → x ≡ 119 → ⊥) → (z : Result (Who × ℕ) ℕ) → IsRead ClientTexts text z → IsRead WhoTexts text z
client_who text other z read =
    let none : IsRead WorkerTexts text (Err 0) = worker_stuck text 0 (led_none 119 (Numbers 1 64) text (decimal 1) (some_number 1 64 (omega arith)) other) in
    who_read text z (Err 0) z (stuck_right z) read none

-- actors are parts
client_part : IsPart 32 (Led 99 (Numbers 1 16))
client_part = led_part 99 (Numbers 1 16) 32 (numbers_part 1 16 32 (omega arith) (omega arith))

worker_part : IsPart 32 (Led 119 (Numbers 1 64))
worker_part = led_part 119 (Numbers 1 64) 32 (numbers_part 1 64 32 (omega arith) (omega arith))

client_led : (n : ℕ) (t : List ℕ) → WhoTexts (Client n) t → Led 99 (Numbers 1 16) n t
client_led n t a = record { rest = decimal n; split = a.split; behind = record { at_least = a.in_range.0; at_most = a.in_range.1; split = refl } }

worker_led : (n : ℕ) (t : List ℕ) → WhoTexts (Worker n) t → Led 119 (Numbers 1 64) n t
worker_led n t a = record { rest = decimal n; split = a.split; behind = record { at_least = a.in_range.0; at_most = a.in_range.1; split = refl } }

head_of : List ℕ → ℕ
head_of [] = 0
head_of (x ∷ t) = x

letters_differ : (t more a b : List ℕ) → t ≡ 99 ∷ a → t ++ more ≡ 119 ∷ b → ⊥
unfolding head_of
letters_differ t more a b e f = let whole : 99 ∷ (a ++ more) ≡ 119 ∷ b = sym (ap (λ l. l ++ more) e) ∙ f in omega (arith, ap (λ l. head_of l) whole)

letters_differ_too : (t more a b : List ℕ) → t ≡ 119 ∷ a → t ++ more ≡ 99 ∷ b → ⊥
unfolding head_of
letters_differ_too t more a b e f = let whole : 119 ∷ (a ++ more) ≡ 99 ∷ b = sym (ap (λ l. l ++ more) e) ∙ f in omega (arith, ap (λ l. head_of l) whole)

who_unique : (v w : Who) (t : List ℕ) → WhoTexts v t → WhoTexts w t → v ≡ w
who_unique (Client n) (Client m) t a b = ap (λ x. Client x) (client_part.unique n m t (client_led n t a) (client_led m t b))
who_unique (Client n) (Worker m) t a b = absurd (letters_differ t [] (decimal n) (decimal m) a.split (append-nil t ∙ b.split))
who_unique (Worker n) (Client m) t a b = absurd (letters_differ t [] (decimal m) (decimal n) b.split (append-nil t ∙ a.split))
who_unique (Worker n) (Worker m) t a b = ap (λ x. Worker x) (worker_part.unique n m t (worker_led n t a) (worker_led m t b))

who_apart : (v w : Who) (t more : List ℕ) → WhoTexts v t → WhoTexts w (t ++ 32 ∷ more) → ⊥
who_apart (Client n) (Client m) t more a b = client_part.apart n m t more (client_led n t a) (client_led m (t ++ 32 ∷ more) b)
who_apart (Client n) (Worker m) t more a b = letters_differ t (32 ∷ more) (decimal n) (decimal m) a.split b.split
who_apart (Worker n) (Client m) t more a b = letters_differ_too t (32 ∷ more) (decimal n) (decimal m) a.split b.split
who_apart (Worker n) (Worker m) t more a b = worker_part.apart n m t more (worker_led n t a) (worker_led m (t ++ 32 ∷ more) b)

pub who_part : IsPart 32 WhoTexts
who_part = record { unique = who_unique; apart = who_apart }

-- lines of calls

line_to : (who : Who) (c : Call) (t : List ℕ) → IsPair WhoTexts (λ w. CallTexts) who c t → IsCallLine who c t
line_to who c t p = record {
  who_in_range = p.first.in_range;
  call_in_range = p.second.in_range;
  split = p.split ∙ ap (λ l. l ++ p.back) p.first.split ∙ ap (λ l. text_of_who who ++ l) p.second.split;
}

pub line_back : (who : Who) (c : Call) (t : List ℕ) → IsCallLine who c t → IsPair WhoTexts (λ w. CallTexts) who c t
line_back who c t a = record {
  front = text_of_who who;
  back = 32 ∷ row_text (row_of c);
  split = a.split;
  first = record { in_range = a.who_in_range; split = refl };
  second = record { in_range = a.call_in_range; split = refl };
}

lines_to : (p : Who × Call) (t : List ℕ) → Pairs WhoTexts (λ w. CallTexts) p t → CallLines p t
lines_to (who, c) t p = line_to who c t p

lines_back : (p : Who × Call) (t : List ℕ) → CallLines p t → Pairs WhoTexts (λ w. CallTexts) p t
lines_back (who, c) t a = line_back who c t a

pub line_stuck_first : (text : List ℕ) (k : ℕ) → IsStuck WhoTexts text k → IsStuck CallLines text k
line_stuck_first text k stuck =
    read_same (Pairs WhoTexts (λ w. CallTexts)) CallLines lines_to lines_back text (Err k)
    (pairs_stuck_first 32 WhoTexts (λ w. CallTexts) who_part (λ w. calls_tail) text k stuck)

pub line_stuck_second : (text : List ℕ) (who : Who) (n : ℕ) → IsReadTo WhoTexts text who n → (rest : List ℕ) → rest ≡ drop n text
    → (k : ℕ) → IsStuck CallTexts rest k → IsStuck CallLines text (n + k)
line_stuck_second text who n first rest e k stuck =
    read_same (Pairs WhoTexts (λ w. CallTexts)) CallLines lines_to lines_back text (Err (n + k))
    (pairs_stuck_second 32 WhoTexts (λ w. CallTexts) who_part (λ w. calls_tail) text who n first k (subst (λ l. IsStuck CallTexts l k) e stuck))

pub line_read : (text : List ℕ) (who : Who) (n : ℕ) → IsReadTo WhoTexts text who n → (rest : List ℕ) → rest ≡ drop n text
    → (c : Call) (m : ℕ) → IsReadTo CallTexts rest c m → IsReadTo CallLines text (who, c) (n + m)
line_read text who n first rest e c m read =
    read_same (Pairs WhoTexts (λ w. CallTexts)) CallLines lines_to lines_back text (Ok ((who, c), n + m))
    (pairs_read 32 WhoTexts (λ w. CallTexts) who_part (λ w. calls_tail) text who n first c m (subst (λ l. IsReadTo CallTexts l c m) e read))

pub lines_part : IsPart 32 CallLines
lines_part = part_renamed 32 (Pairs WhoTexts (λ w. CallTexts)) CallLines (λ p. p) (λ p t a. (p, lines_back p t a, refl))
    (pairs_part 32 WhoTexts (λ w. CallTexts) who_part (λ w. calls_tail) (λ w. calls_part))
