-- Histories, some entries longer, and what is no entry.
use Rattle.std.proofs.Common.{◌≡◌, ℕ, suc, ◌+◌, List, [], ◌∷◌, ◌++◌, length, refl, sym, subst, arith, false, add-zero}
use Rattle.tp_base.specs.declared.answers.Answer.{Answer}
use Rattle.tp_base.specs.declared.answers.Answer.TheVariants as answer
use Rattle.tp_base.specs.declared.answers.Entry.{Entry}
use Rattle.tp_base.specs.declared.answers.Outcome.TheVariants as outcome
use Rattle.tp_model.specs.History.{after_from, led_to, room, IsLegal, IsLegalFrom}
use Rattle.tp_model.specs.Step.{Step, Accepted, Refused, Looked, Full, entries_of, is_accepted, outcome_of, world_after}
use Rattle.tp_model.specs.Support.Sound.{IsSound}
use Rattle.tp_model.specs.World.{opening, World}
use Rattle.tp_model.proofs.Entries.{entry_leads, next_number_in}
use Rattle.tp_model.proofs.Sound.{opening_sound}
use Rattle.recorded.specs.Recordings.{world_behind, Recording}

-- ---- what is no entry

-- the step changes nothing, and nothing is written down
pub record Stays (w : World) (s : Step) : Type 0 where
  pub world : world_after w s ≡ w
  pub none : entries_of s ≡ 0
  pub unaged : is_accepted s ≡ false

pub stays : (w : World) (s : Step) → ((told : Answer) → outcome_of s ≡ outcome.Done told → ⊥) → Stays w s
stays w (Accepted a next) h = absurd (h a refl)
stays w (Refused refusal) h = absurd (h (answer.Refused refusal) refl)
stays w (Looked look) h = record { world = refl; none = refl; unaged = refl }
stays w (Full some price) h = record { world = refl; none = refl; unaged = refl }

-- ---- entries behind entries

pub after_append : (w : World) (told more : List Entry) → after_from w (told ++ more) ≡ after_from (after_from w told) more
after_append w [] more = refl
after_append w (entry ∷ told) more = after_append (led_to w entry) told more

pub legal_append : (w : World) (capacity entries : ℕ) (told more : List Entry) → IsLegalFrom w capacity entries told → IsLegalFrom (after_from w told) capacity (entries + length told) more → IsLegalFrom w capacity entries (told ++ more)
legal_append w capacity entries [] more legal rest = subst (λ n. IsLegalFrom w capacity n more) (add-zero entries) rest
legal_append w capacity entries (entry ∷ told) more legal rest =
    let sum : entries + suc (length told) ≡ (entries + 1) + length told = omega arith in
    (legal.0, legal_append (led_to w entry) capacity (entries + 1) told more legal.1 (subst (λ n. IsLegalFrom (after_from (led_to w entry) told) capacity n more) sum rest))

pub legal_split : (w : World) (capacity entries : ℕ) (told more : List Entry) → IsLegalFrom w capacity entries (told ++ more) → IsLegalFrom w capacity entries told × IsLegalFrom (after_from w told) capacity (entries + length told) more
legal_split w capacity entries [] more legal = (tt, subst (λ n. IsLegalFrom w capacity n more) (sym (add-zero entries)) legal)
legal_split w capacity entries (entry ∷ told) more legal =
    let rest = legal_split (led_to w entry) capacity (entries + 1) told more legal.1 in
    let sum : (entries + 1) + length told ≡ entries + suc (length told) = omega arith in
    ((legal.0, rest.0), subst (λ n. IsLegalFrom (after_from (led_to w entry) told) capacity n more) sum rest.1)

-- ---- the world behind a legal history

sound_from : (w : World) (capacity entries : ℕ) (told : List Entry) → IsSound (next_number_in w) w → IsLegalFrom w capacity entries told → IsSound (next_number_in (after_from w told)) (after_from w told)
sound_from w capacity entries [] sound legal = sound
sound_from w capacity entries (entry ∷ told) sound legal = sound_from (led_to w entry) capacity (entries + 1) told (entry_leads w (room capacity w entries) entry sound legal.0).sound legal.1

pub sound_behind : (r : Recording) → IsLegal r.limits r.capacity r.history → IsSound (next_number_in (world_behind r)) (world_behind r)
sound_behind r legal = sound_from (opening r.limits) r.capacity 0 r.history (opening_sound r.limits) legal
