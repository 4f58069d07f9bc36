-- How a book goes on with a call.
use Rattle.std.proofs.Common.{◌≡◌, ℕ, ◌+◌, ◌≤◌, List, [], ◌∷◌, ◌++◌, length, refl, sym, ap, ◌∙◌, subst, arith, Bool, true, false, length-append}
use Rattle.std.specs.Prelude.{if◌then◌else◌}
use Rattle.std.proofs.lemmas.List.{append-nil}
use Rattle.tp_base.specs.declared.answers.Answer.{Answer}
use Rattle.tp_base.specs.declared.answers.Entry.{Entry}
use Rattle.tp_base.specs.declared.answers.Outcome.{Outcome}
use Rattle.tp_base.specs.declared.answers.Outcome.TheVariants.{Done, Look, Full}
use Rattle.tp_base.specs.declared.calls.Call.{Call}
use Rattle.tp_base.specs.declared.ids.Who.{Who}
use Rattle.tp_base.specs.declared.limits.Limits.{Limits}
use Rattle.tp_base.specs.Ranges.{AreLimitsInRange}
use Rattle.tp_model.specs.Counts.{owed}
use Rattle.tp_model.specs.History.{IsLegal, after, play_from, room}
use Rattle.tp_model.specs.Laws.{KeepsLaws}
use Rattle.tp_model.specs.Support.Remembered.{Remembered, StandsFor, Meets}
use Rattle.tp_model.specs.Support.Sound.{IsSound}
use Rattle.tp_model.specs.Step.{Step, entries_of, is_accepted, outcome_of, world_after}
use Rattle.tp_model.specs.Table.{step}
use Rattle.tp_model.specs.World.{World, opening}
use Rattle.tp_model.proofs.Fitting.{opening_owes, step_enters}
use Rattle.tp_model.proofs.Laws.{keeps_laws}
use Rattle.pool_book.specs.Kept.{IsBook}
use Rattle.recorded.specs.Recordings.{Recording, entries_told, outcome_behind, recorded, room_of, IsFirstOf}
use Rattle.recorded.proofs.Histories.{after_append, legal_append, stays}

-- ---- at the beginning

pub opened : (engine : Remembered) (limits : Limits) (capacity len : ℕ) (history : List Entry) → AreLimitsInRange limits → StandsFor engine (opening limits) → engine.age ≡ 0 → len ≡ 0 → history ≡ []
    → IsBook engine limits capacity len history
opened engine limits capacity len history in_range stands new none empty =
    subst (λ h. IsBook engine limits capacity len h) (sym empty)
    (record { in_range = in_range; stands = stands; legal = tt; counts = none; young = omega (arith, new); few = omega (arith, opening_owes limits) })

-- ---- a call

aged : (test : Bool) (age new : ℕ) → new ≡ (if test then age + 1 else age) → new ≤ age + 1
aged true age new e = omega (arith, e)
aged false age new e = omega (arith, e)

none_told : (who : Who) (call : Call) (told : Outcome) → ((answer : Answer) → told ≡ Done answer → ⊥) → entries_told who call told ≡ []
none_told who call (Done answer) h = absurd (h answer refl)
none_told who call (Look look) h = refl
none_told who call (Full left price) h = refl

abbrev pub there : Limits → ℕ → List Entry → Recording
there limits capacity history = record { limits = limits; capacity = capacity; history = history }

-- the book after a call, and what the call came to
pub record IsMade (new : Remembered) (limits : Limits) (capacity len : ℕ) (longer : List Entry) (old : Recording) (who : Who) (call : Call) (told : Outcome) : Type 0 where
  pub book : IsBook new limits capacity len longer
  pub outcome : told ≡ outcome_behind old who call
  pub written : there limits capacity longer ≡ recorded old who call told
  pub first : IsFirstOf old (there limits capacity longer) who call told
  pub laws : KeepsLaws limits longer

module _ (engine new : Remembered) (limits : Limits) (capacity len left : ℕ) (history : List Entry) (old : Recording) (who : Who) (call : Call) (told : Outcome)
    (b : IsBook engine limits capacity len history) (is : there limits capacity history ≡ old) (room_is : left ≡ room_of old)
    (goes : (w : World) → StandsFor engine w → Meets engine new w (step w left who call) told) where
  abbrev now : World
  now = after limits history

  abbrev came : Step
  came = step now (room capacity now (length history)) who call

  meets : Meets engine new now came told
  meets = subst (λ n. Meets engine new now (step now n who call) told) (room_is ∙ ap room_of (sym is)) (goes now b.stands)

  sound : IsSound (length now.callbacks + 1) now
  sound = subst (λ n. IsSound (n + 1) now) b.stands.counts b.stands.sound

  -- what comes to hold where the machine's step leads on
  made : (after_len : ℕ) (longer : List Entry) → IsBook new limits capacity after_len longer → longer ≡ history ++ entries_told who call told
      → world_after now came ≡ after limits longer → length history + entries_of came ≡ length longer → IsMade new limits capacity after_len longer old who call told
  made after_len longer book grown next counted = record {
    book = book;
    outcome = meets.answer ∙ ap (λ r. outcome_behind r who call) is;
    written = ap (λ h. there limits capacity h) grown ∙ ap (λ r. recorded r who call told) is;
    first = subst (λ r. IsFirstOf r (there limits capacity longer) who call told) is (λ more.
        ap (λ o. o ∷ play_from (world_after now came) capacity (length history + entries_of came) more) (sym meets.answer)
        ∙ ap (λ w. told ∷ play_from w capacity (length history + entries_of came) more) next
        ∙ ap (λ n. told ∷ play_from (after limits longer) capacity n more) counted);
    laws = keeps_laws limits capacity longer book.legal;
  }

  pub entered : (answer : Answer) (longer : List Entry) → told ≡ Done answer → longer ≡ history ++ record { who = who; call = call; answer = answer } ∷ []
      → IsMade new limits capacity (len + 1) longer old who call told
  entered answer longer done grown =
      let entry : Entry = record { who = who; call = call; answer = answer } in
      let right : outcome_of came ≡ Done answer = sym meets.answer ∙ done in
      let e = step_enters now (room capacity now (length history)) entry sound right in
      let size : length longer ≡ length history + 1 = ap length grown ∙ length-append history (entry ∷ []) in
      let next : world_after now came ≡ after limits longer = e.leads ∙ sym (after_append (opening limits) history (entry ∷ [])) ∙ ap (λ h. after limits h) (sym grown) in
      let none : 0 + length history ≡ length history = omega arith in
      made (len + 1) longer
      (record {
        in_range = b.in_range;
        stands = subst (λ w. StandsFor new w) next meets.stands;
        legal = subst (λ h. IsLegal limits capacity h) (sym grown)
            (legal_append (opening limits) capacity 0 history (entry ∷ []) b.legal (ap (λ n. outcome_of (step now (room capacity now n) who call)) none ∙ right, tt));
        counts = omega (arith, b.counts, size);
        young = omega (arith, b.young, size, aged (is_accepted came) engine.age new.age meets.ages);
        few = omega (arith, b.few, e.paid, size, ap owed next);
      })
      (grown ∙ ap (λ o. history ++ entries_told who call o) (sym done)) next (omega (arith, e.one, size))

  pub looked : ((answer : Answer) → told ≡ Done answer → ⊥) → IsMade new limits capacity len history old who call told
  looked none =
      let s = stays now came (λ answer e. none answer (meets.answer ∙ e)) in
      made len history
      (record {
        in_range = b.in_range;
        stands = subst (λ w. StandsFor new w) s.world meets.stands;
        legal = b.legal;
        counts = b.counts;
        young = omega (arith, b.young, meets.ages ∙ ap (λ t. if t then engine.age + 1 else engine.age) s.unaged);
        few = b.few;
      })
      (sym (append-nil history) ∙ ap (λ es. history ++ es) (sym (none_told who call told none))) s.world (omega (arith, s.none))
