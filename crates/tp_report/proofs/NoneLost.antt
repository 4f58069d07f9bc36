-- What the entries of a legal history tell of its callbacks, and the world after it.
use Rattle.std.proofs.Common.{◌≡◌, ℕ, suc, ◌+◌, cond, List, [], ◌∷◌, length, Option, Some, None, refl, ap, ◌∙◌, arith, filter}
use Rattle.std.specs.Prelude.{is_some}
use Rattle.std.specs.List.{cons_option}
use Rattle.std.proofs.lemmas.List.FromFn.{length-range_with_len}
use Rattle.tp_base.specs.declared.answers.Entry.{Entry}
use Rattle.tp_base.specs.declared.limits.Limits.{Limits}
use Rattle.tp_base.specs.declared.rows.CallbackRow.{CallbackRow}
use Rattle.tp_base.specs.declared.rows.Status.{Status}
use Rattle.tp_base.specs.declared.rows.Status.TheVariants.{Cancelled}
use Rattle.tp_model.specs.History.{IsLegal, after, led_to}
use Rattle.tp_model.specs.Laws.Entries.{is_taken, numbers_made, numbers_taken, numbers_cancelled, count_cancelled, taken_by}
use Rattle.tp_model.specs.Laws.Once.{is_left, left}
use Rattle.tp_model.specs.Support.Sound.{IsSound}
use Rattle.tp_model.specs.World.{World, opening}
use Rattle.tp_model.proofs.Callbacks.{rising_filter}
use Rattle.tp_model.proofs.Entries.{IsKept, entry_leads, kept_to_end, next_number_in}
use Rattle.tp_model.proofs.Laws.{are_once}
use Rattle.tp_model.proofs.Lists.{filter_agree}
use Rattle.tp_model.proofs.Once.{AgreesAfter, agrees_on, is_cancelled as is_dropped}
use Rattle.tp_model.proofs.Sound.{opening_sound}
use Rattle.tp_report.specs.Summaries.{IsNoneLost, is_cancelled, totals_of}
use Rattle.recorded.proofs.Walks.{AreRising, rows_rise}

record Holds (history : List Entry) (w : World) : Type 0 where
  sound : IsSound (next_number_in w) w
  agrees : AgreesAfter history w

opening_holds : (limits : Limits) → Holds [] (opening limits)
opening_holds limits = record {
  sound = opening_sound limits;
  agrees = record { in_order = refl; taken_begun = λ n. refl; named_cancelled = λ n named. absurd cc; as_many_taken = refl; as_many_cancelled = refl };
}

keeps : IsKept Holds
keeps before w left entry h told =
    let on = entry_leads w left entry h.sound told in
    record { sound = on.sound; agrees = agrees_on before w entry (led_to w entry) h.sound.numbers h.agrees on.leads.moves }

-- as many entries take a callback as are taken
told_more : (o : Option ℕ) (taken : List ℕ) (entry : Entry) (kept : List Entry) → length taken ≡ length kept → length (cons_option o taken) ≡ length (cond (is_some o) (entry ∷ kept) kept)
told_more None taken entry kept e = e
told_more (Some n) taken entry kept e = ap (λ k. suc k) e

told_length : (entries : List Entry) → length (numbers_taken entries) ≡ length (filter is_taken entries)
told_length [] = refl
told_length (entry ∷ entries) = told_more (taken_by entry.answer) (numbers_taken entries) entry (filter is_taken entries) (told_length entries)

same_cancelled : (s : Status) → is_dropped s ≡ is_cancelled s
same_cancelled Cancelled = refl
same_cancelled _ = refl

module _ (limits : Limits) (capacity : ℕ) (history : List Entry) (legal : IsLegal limits capacity history) where
  at_end : Holds history (after limits history)
  at_end = kept_to_end Holds keeps capacity 0 [] history (opening limits) (opening_holds limits) legal

  pub made_counted : length (numbers_made history) ≡ length (after limits history).callbacks
  made_counted = ap length at_end.agrees.in_order ∙ length-range_with_len 1 (length (after limits history).callbacks)

  pub none_lost : IsNoneLost (totals_of limits history)
  none_lost =
      let cancelled : count_cancelled history + length (numbers_cancelled history) ≡ length (filter (λ (c : CallbackRow). is_cancelled c.status) (after limits history).callbacks)
      = at_end.agrees.as_many_cancelled ∙ ap length (filter_agree (λ (c : CallbackRow). is_dropped c.status) (λ (c : CallbackRow). is_cancelled c.status) (λ c. same_cancelled c.status) (after limits history).callbacks) in
      omega (arith, made_counted, (are_once limits capacity history legal).none_lost, told_length history, cancelled)

  pub left_rise : AreRising 0 (left (after limits history))
  left_rise = rows_rise 0 (next_number_in (after limits history)) (filter (λ (c : CallbackRow). is_left c.status) (after limits history).callbacks)
      (rising_filter (λ (c : CallbackRow). is_left c.status) 1 (next_number_in (after limits history)) (after limits history).callbacks at_end.sound.numbers)
