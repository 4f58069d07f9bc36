-- A history has one verdict.
use Rattle.std.proofs.Common.{◌≡◌, ℕ, ◌+◌, List, [], ◌∷◌, ◌++◌, length, sym, ap, ap₂, ◌∙◌, subst}
use Rattle.line_grammar.proofs.Cuts.{Cut, cut, further, nearer, same}
use Rattle.tp_base.specs.declared.answers.Outcome.{Outcome}
use Rattle.tp_base.specs.declared.answers.Outcome.TheVariants.{Done}
use Rattle.tp_base.specs.declared.limits.Limits.{Limits}
use Rattle.tp_model.specs.History.{IsLegal}
use Rattle.tp_model.specs.World.{opening}
use Rattle.tp_report.specs.Histories.{entries_of}
use Rattle.tp_report.specs.Moments.{moment_of}
use Rattle.tp_report.specs.Verdicts.{IsMoment, IsTimed, IsVerdict, IsWrongAt, IsWrongMomentAt, outcome_behind}
use Rattle.tp_report.specs.declared.lines.Line.{Line}
use Rattle.tp_report.specs.declared.verdict.Verdict.{Verdict}
use Rattle.tp_report.specs.declared.verdict.Verdict.TheVariants.{Legal, NotLegal, WrongMoment}
use Rattle.tp_report.proofs.Judging.{answer_there, entries_split, legal_front, moment_there}

module _ (limits : Limits) (capacity : ℕ) (history : List Line) where
  -- the answer and the moment of a line are right behind these
  abbrev IsRight : List Line → Line → Type 0
  IsRight before line = (outcome_behind limits capacity (entries_of before) line.entry ≡ Done line.entry.answer) × IsMoment line.moment (moment_of (entries_of before ++ line.entry ∷ []))

  -- all is right before a line, and the line is wrong
  record IsFirstWrong (before : List Line) (line : Line) (behind : List Line) : Type 0 where
    split : history ≡ before ++ line ∷ behind
    legal : IsLegal limits capacity (entries_of before)
    timed : IsTimed before
    wrong : IsRight before line → ⊥

  -- each line of a history in which all is right
  right_within : (all before : List Line) (line : Line) (behind : List Line) → all ≡ before ++ line ∷ behind → IsLegal limits capacity (entries_of all) → IsTimed all → IsRight before line
  right_within all before line behind e legal timed = (
    answer_there limits capacity (entries_of before) line.entry (entries_of behind) (subst (λ h. IsLegal limits capacity h) (ap entries_of e ∙ entries_split before line behind) legal),
    moment_there before line behind (subst (λ h. IsTimed h) e timed),
  )

  -- there is one such place
  one_place : (before other : List Line) (a b : Line) (behind rest : List Line) → IsFirstWrong before a behind → IsFirstWrong other b rest → (before ≡ other) × (a ≡ b)
  one_place before other a b behind rest f g = by_cut (cut before (a ∷ behind) other (b ∷ rest) (sym f.split ∙ g.split))
    where
      by_cut : Cut before (a ∷ behind) other (b ∷ rest) → (before ≡ other) × (a ≡ b)
      by_cut (further x m d e) =
          let at : b ≡ x = cc in
          absurd (g.wrong (right_within before other b m (subst (λ y. before ≡ other ++ y ∷ m) (sym at) d) f.legal f.timed))
      by_cut (nearer x m d e) =
          let at : a ≡ x = cc in
          absurd (f.wrong (right_within other before a m (subst (λ y. other ≡ before ++ y ∷ m) (sym at) d) g.legal g.timed))
      by_cut (same d e) =
          let at : a ≡ b = cc in
          (d, at)

  answer_first : (position : ℕ) (outcome : Outcome) (w : IsWrongAt limits capacity history position outcome) → IsFirstWrong w.before w.line w.behind
  answer_first position outcome w = record { split = w.split; legal = w.legal; timed = w.timed; wrong = λ right. w.wrong (w.told ∙ right.0) }

  moment_first : (position now : ℕ) (w : IsWrongMomentAt limits capacity history position now) → IsFirstWrong w.before w.line w.behind
  moment_first position now w = record {
    split = w.split;
    legal = legal_front (opening limits) capacity 0 (entries_of w.before) (w.line.entry ∷ []) w.legal;
    timed = w.timed;
    wrong = λ right. w.wrong (subst (λ m. IsMoment w.line.moment m) (sym w.told) right.1);
  }

  same_answer : (p q : ℕ) (o r : Outcome) → IsWrongAt limits capacity history p o → IsWrongAt limits capacity history q r → NotLegal p o ≡ NotLegal q r
  same_answer p q o r at also =
      let place = one_place at.before also.before at.line also.line at.behind also.behind (answer_first p o at) (answer_first q r also) in
      ap₂ (λ n x. NotLegal n x)
      (at.place ∙ ap (λ xs. length xs + 1) place.0 ∙ sym also.place)
      (at.told ∙ ap₂ (λ (xs : List Line) (x : Line). outcome_behind limits capacity (entries_of xs) x.entry) place.0 place.1 ∙ sym also.told)

  same_moment : (p q n m : ℕ) → IsWrongMomentAt limits capacity history p n → IsWrongMomentAt limits capacity history q m → WrongMoment p n ≡ WrongMoment q m
  same_moment p q n m at also =
      let place = one_place at.before also.before at.line also.line at.behind also.behind (moment_first p n at) (moment_first q m also) in
      ap₂ (λ i x. WrongMoment i x)
      (at.place ∙ ap (λ xs. length xs + 1) place.0 ∙ sym also.place)
      (at.told ∙ ap₂ (λ (xs : List Line) (x : Line). moment_of (entries_of xs ++ x.entry ∷ [])) place.0 place.1 ∙ sym also.told)

  -- where an answer is wrong, no moment is asked
  apart : (p q now : ℕ) (o : Outcome) → IsWrongAt limits capacity history p o → IsWrongMomentAt limits capacity history q now → ⊥
  apart p q now o at also =
      let place = one_place at.before also.before at.line also.line at.behind also.behind (answer_first p o at) (moment_first q now also) in
      let right : outcome_behind limits capacity (entries_of also.before) also.line.entry ≡ Done also.line.entry.answer =
      answer_there limits capacity (entries_of also.before) also.line.entry [] also.legal in
      at.wrong (at.told ∙ ap₂ (λ (xs : List Line) (x : Line). outcome_behind limits capacity (entries_of xs) x.entry) place.0 place.1 ∙ right ∙ ap (λ (x : Line). Done x.entry.answer) (sym place.1))

  pub one_verdict : (verdict other : Verdict) → IsVerdict limits capacity history verdict → IsVerdict limits capacity history other → verdict ≡ other
  one_verdict (Legal len) (Legal size) v u = ap (λ n. Legal n) (v.2 ∙ sym u.2)
  one_verdict (Legal len) (NotLegal q r) v u = absurd (u.1 v.0)
  one_verdict (Legal len) (WrongMoment q m) v u = absurd (u.1 v.1)
  one_verdict (NotLegal p o) (Legal size) v u = absurd (v.1 u.0)
  one_verdict (NotLegal p o) (NotLegal q r) v u = same_answer p q o r v.0 u.0
  one_verdict (NotLegal p o) (WrongMoment q m) v u = absurd (apart p q m o v.0 u.0)
  one_verdict (WrongMoment p n) (Legal size) v u = absurd (v.1 u.1)
  one_verdict (WrongMoment p n) (NotLegal q r) v u = absurd (apart q p n r u.0 v.0)
  one_verdict (WrongMoment p n) (WrongMoment q m) v u = same_moment p q n m v.0 u.0
