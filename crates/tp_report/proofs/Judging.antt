-- How the verdict on a history goes on.
use Rattle.std.proofs.Common.{◌≡◌, ℕ, suc, ◌+◌, List, [], ◌∷◌, ◌++◌, length, refl, sym, ap, ◌∙◌, subst, arith, add-zero, append_assoc, length-append}
use Rattle.std.specs.Prelude.{fold}
use Rattle.std.proofs.lemmas.List.{map-append}
use Rattle.std.proofs.lemmas.List.Sums.{fold-append}
use Rattle.recorded.specs.Recordings.{Recording, recorded, outcome_behind as told_behind}
use Rattle.tp_base.specs.declared.answers.Entry.{Entry}
use Rattle.tp_base.specs.declared.answers.Outcome.{Outcome}
use Rattle.tp_base.specs.declared.answers.Outcome.TheVariants.{Done}
use Rattle.tp_base.specs.Ranges.{IsOutcomeInRange}
use Rattle.tp_base.specs.declared.limits.Limits.{Limits}
use Rattle.tp_model.specs.History.{IsLegal, IsLegalFrom, after, after_from, led_to, room}
use Rattle.tp_model.specs.Step.{outcome_of}
use Rattle.tp_model.specs.Table.{step}
use Rattle.tp_model.specs.World.{World, opening}
use Rattle.tp_report.specs.Histories.{entries_of}
use Rattle.tp_report.specs.Judging.{IsJudgedTo}
use Rattle.tp_report.specs.Moments.{moment_after, moment_of, moments_from}
use Rattle.tp_report.specs.Verdicts.{AreMoments, IsMoment, IsTimed, IsWrongAt, IsWrongMomentAt}
use Rattle.tp_report.specs.declared.lines.Line.{Line}
use Rattle.tp_report.specs.declared.verdict.Verdict.{Verdict}
use Rattle.tp_report.specs.declared.verdict.Verdict.TheVariants.{Legal, NotLegal, WrongMoment}

-- ---- a wrong answer

-- the machine's outcome behind some entries
abbrev told_from : World → ℕ → ℕ → List Entry → Entry → Outcome
told_from w capacity entries history entry =
    outcome_of (step (after_from w history) (room capacity (after_from w history) (entries + length history)) entry.who entry.call)

-- in a legal history each answer is the machine's behind those before it
legal_there : (w : World) (capacity entries : ℕ) (history : List Entry) (entry : Entry) (behind : List Entry) → IsLegalFrom w capacity entries (history ++ entry ∷ behind)
    → told_from w capacity entries history entry ≡ Done entry.answer
legal_there w capacity entries [] entry behind legal = ap (λ n. outcome_of (step w (room capacity w n) entry.who entry.call)) (add-zero entries) ∙ legal.0
legal_there w capacity entries (first ∷ history) entry behind legal =
    let sum : entries + suc (length history) ≡ (entries + 1) + length history = omega arith in
    let there : World = after_from (led_to w first) history in
    ap (λ n. outcome_of (step there (room capacity there n) entry.who entry.call)) sum ∙ legal_there (led_to w first) capacity (entries + 1) history entry behind legal.1

pub legal_front : (w : World) (capacity entries : ℕ) (history behind : List Entry) → IsLegalFrom w capacity entries (history ++ behind) → IsLegalFrom w capacity entries history
legal_front w capacity entries [] behind legal = tt
legal_front w capacity entries (first ∷ history) behind legal = (legal.0, legal_front (led_to w first) capacity (entries + 1) history behind legal.1)

pub entries_split : (before : List Line) (line : Line) (behind : List Line) → entries_of (before ++ line ∷ behind) ≡ entries_of before ++ line.entry ∷ entries_of behind
entries_split before line behind = map-append (λ (l : Line). l.entry) before (line ∷ behind)

pub answer_there : (limits : Limits) (capacity : ℕ) (before : List Entry) (entry : Entry) (behind : List Entry) → IsLegal limits capacity (before ++ entry ∷ behind)
    → outcome_of (step (after limits before) (room capacity (after limits before) (length before)) entry.who entry.call) ≡ Done entry.answer
answer_there limits capacity before entry behind legal =
    let there : World = after limits before in
    let none : length before ≡ 0 + length before = omega arith in
    ap (λ n. outcome_of (step there (room capacity there n) entry.who entry.call)) none ∙ legal_there (opening limits) capacity 0 before entry behind legal

wrong_no_legal : (limits : Limits) (capacity : ℕ) (history : List Line) (position : ℕ) (outcome : Outcome) → IsWrongAt limits capacity history position outcome → IsLegal limits capacity (entries_of history) → ⊥
wrong_no_legal limits capacity history position outcome at legal =
    at.wrong
    (at.told ∙ answer_there limits capacity (entries_of at.before) at.line.entry (entries_of at.behind)
    (subst (λ h. IsLegal limits capacity h) (ap entries_of at.split ∙ entries_split at.before at.line at.behind) legal))

-- ---- moments

-- in a history with right moments each is that behind the entries before it and its own
timed_there : (now : ℕ) (before : List Line) (line : Line) (behind : List Line) → AreMoments (before ++ line ∷ behind) (moments_from now (entries_of (before ++ line ∷ behind)))
    → IsMoment line.moment (moment_after (fold moment_after now (entries_of before)) line.entry)
timed_there now [] line behind timed = timed.0
timed_there now (first ∷ before) line behind timed = timed_there (moment_after now first.entry) before line behind timed.1

timed_more : (now : ℕ) (before : List Line) (line : Line) → AreMoments before (moments_from now (entries_of before)) → IsMoment line.moment (moment_after (fold moment_after now (entries_of before)) line.entry)
    → AreMoments (before ++ line ∷ []) (moments_from now (entries_of (before ++ line ∷ [])))
timed_more now [] line timed right = (right, tt)
timed_more now (first ∷ before) line timed right = (timed.0, timed_more (moment_after now first.entry) before line timed.1 right)

pub moment_next : (before : List Line) (line : Line) → moment_of (entries_of before ++ line.entry ∷ []) ≡ moment_after (moment_of (entries_of before)) line.entry
moment_next before line = fold-append moment_after 0 (entries_of before) (line.entry ∷ [])

pub moment_there : (before : List Line) (line : Line) (behind : List Line) → IsTimed (before ++ line ∷ behind) → IsMoment line.moment (moment_of (entries_of before ++ line.entry ∷ []))
moment_there before line behind timed = subst (λ n. IsMoment line.moment n) (sym (moment_next before line)) (timed_there 0 before line behind timed)

wrong_no_timed : (limits : Limits) (capacity : ℕ) (history : List Line) (position now : ℕ) → IsWrongMomentAt limits capacity history position now → IsTimed history → ⊥
wrong_no_timed limits capacity history position now at timed =
    at.wrong (subst (λ n. IsMoment at.line.moment n) (sym at.told) (moment_there at.before at.line at.behind (subst (λ h. IsTimed h) at.split timed)))

-- ---- one line more

module _ (old : Recording) (lines : List Line) (line : Line) (now : ℕ) where
  abbrev longer : List Line
  longer = lines ++ line ∷ []

  size : length longer ≡ length lines + 1
  size = length-append lines (line ∷ [])

  module _ (new : Recording) (len : ℕ) (told : Outcome) (j : IsJudgedTo old lines now (Legal len)) (made : new ≡ recorded old line.entry.who line.entry.call told) where
    -- another answer than the machine's
    pub wrong : (then : ℕ) → told ≡ told_behind old line.entry.who line.entry.call → IsOutcomeInRange told → (told ≡ Done line.entry.answer → ⊥) → IsJudgedTo new longer then (NotLegal (len + 1) told)
    wrong then is in_range apart =
        let at : IsWrongAt old.limits old.capacity longer (len + 1) told = record {
          before = lines;
          line = line;
          behind = [];
          split = refl;
          place = omega (arith, j.is_verdict.2);
          legal = j.is_verdict.0;
          timed = j.is_verdict.1;
          told = is ∙ ap (λ h. told_behind (record { limits = old.limits; capacity = old.capacity; history = h }) line.entry.who line.entry.call) j.written.0;
          in_range = in_range;
          wrong = apart;
        } in
        let here : IsWrongAt new.limits new.capacity longer (len + 1) told = subst (λ (r : Recording). IsWrongAt r.limits r.capacity longer (len + 1) told) (sym made) at in
        record { written = tt; is_verdict = (here, wrong_no_legal new.limits new.capacity longer (len + 1) told here) }

    module _ (is : told ≡ Done line.entry.answer) (legal : IsLegal new.limits new.capacity new.history) (then : ℕ) (after : then ≡ moment_after now line.entry) where
      written : new.history ≡ entries_of lines ++ line.entry ∷ []
      written = ap (λ r. r.history) (made ∙ ap (λ o. recorded old line.entry.who line.entry.call o) is) ∙ ap (λ h. h ++ line.entry ∷ []) j.written.0

      here : IsLegal new.limits new.capacity (entries_of lines ++ line.entry ∷ [])
      here = subst (λ h. IsLegal new.limits new.capacity h) written legal

      then_is : then ≡ moment_of (entries_of lines ++ line.entry ∷ [])
      then_is = after ∙ ap (λ n. moment_after n line.entry) j.written.1 ∙ sym (moment_next lines line)

      -- the machine's answer, and the right moment
      pub right : IsMoment line.moment then → IsJudgedTo new longer then (Legal (len + 1))
      right told_so =
          let all : entries_of longer ≡ entries_of lines ++ line.entry ∷ [] = entries_split lines line [] in
          let timed : IsTimed longer = timed_more 0 lines line j.is_verdict.1 (subst (λ n. IsMoment line.moment n) (then_is ∙ moment_next lines line) told_so) in
          record {
            written = (written ∙ sym all, then_is ∙ ap moment_of (sym all));
            is_verdict = (subst (λ h. IsLegal new.limits new.capacity h) (sym all) here, timed, omega (arith, j.is_verdict.2, size));
          }

      -- the machine's answer, and another moment
      pub late : (IsMoment line.moment then → ⊥) → IsJudgedTo new longer then (WrongMoment (len + 1) then)
      late apart =
          let at : IsWrongMomentAt new.limits new.capacity longer (len + 1) then = record {
            before = lines;
            line = line;
            behind = [];
            split = refl;
            place = omega (arith, j.is_verdict.2);
            legal = here;
            timed = j.is_verdict.1;
            told = then_is;
            wrong = apart;
          } in
          record { written = tt; is_verdict = (at, wrong_no_timed new.limits new.capacity longer (len + 1) then at) }

  split_longer : (history before : List Line) (at : Line) (behind : List Line) → history ≡ before ++ at ∷ behind → history ++ line ∷ [] ≡ before ++ at ∷ (behind ++ line ∷ [])
  split_longer history before at behind e = ap (λ h. h ++ line ∷ []) e ∙ append_assoc before (at ∷ behind) (line ∷ [])

  -- behind a wrong line
  pub stays : (verdict : Verdict) → ((len : ℕ) → verdict ≡ Legal len → ⊥) → IsJudgedTo old lines now verdict → IsJudgedTo old longer now verdict
  stays (Legal len) none j = absurd (none len refl)
  stays (NotLegal position outcome) none j =
      let w = j.is_verdict.0 in
      let at : IsWrongAt old.limits old.capacity longer position outcome = record {
        before = w.before;
        line = w.line;
        behind = w.behind ++ line ∷ [];
        split = split_longer lines w.before w.line w.behind w.split;
        place = w.place;
        legal = w.legal;
        timed = w.timed;
        told = w.told;
        in_range = w.in_range;
        wrong = w.wrong;
      } in
      record { written = tt; is_verdict = (at, wrong_no_legal old.limits old.capacity longer position outcome at) }
  stays (WrongMoment position right) none j =
      let w = j.is_verdict.0 in
      let at : IsWrongMomentAt old.limits old.capacity longer position right = record {
        before = w.before;
        line = w.line;
        behind = w.behind ++ line ∷ [];
        split = split_longer lines w.before w.line w.behind w.split;
        place = w.place;
        legal = w.legal;
        timed = w.timed;
        told = w.told;
        wrong = w.wrong;
      } in
      record { written = tt; is_verdict = (at, wrong_no_timed old.limits old.capacity longer position right at) }
