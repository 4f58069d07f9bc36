-- How an observed history goes on with an entry.
use Rattle.std.proofs.Common.{◌≡◌, ℕ, ◌+◌, ◌<◌, ◌≤◌, List, [], ◌∷◌, length, max, ap, ◌∙◌, arith, length-append}
use Rattle.tp_base.specs.declared.answers.Answer.{Answer}
use Rattle.tp_base.specs.declared.answers.Entry.{Entry}
use Rattle.tp_base.specs.declared.answers.Outcome.{Outcome}
use Rattle.tp_base.specs.declared.answers.Outcome.TheVariants.{Done}
use Rattle.tp_base.specs.declared.calls.Call.{Call}
use Rattle.tp_base.specs.declared.ids.Who.{Who}
use Rattle.tp_base.specs.declared.limits.Limits.{Limits}
use Rattle.tp_model.specs.Counts.{owed}
use Rattle.tp_model.specs.History.{IsLegal, after}
use Rattle.recorded.specs.Recordings.{Recording, recorded}
use Rattle.kept_book.specs.Observed.{with_entry}

module _ (old new : Recording) (who : Who) (call : Call) (told : Outcome) (answer : Answer) (done : told ≡ Done answer) (grown : new ≡ recorded old who call told) where
  is_longer : new ≡ with_entry old (record { who = who; call = call; answer = answer })
  is_longer = grown ∙ ap (λ o. recorded old who call o) done

  pub one_more : length new.history ≡ length old.history + 1
  one_more = ap (λ (r : Recording). length r.history) is_longer ∙ length-append old.history ((record { who = who; call = call; answer = answer }) ∷ [])

  -- the history with the entry is legal, so it isn't longer than one may be
  pub is_below : ((limits : Limits) (capacity most : ℕ) (history : List Entry) → capacity ≤ most → limits.clients ≤ most → IsLegal limits capacity history → length history + owed (after limits history) ≤ most)
      → IsLegal new.limits new.capacity new.history → length old.history < max old.capacity old.limits.clients
  is_below legal_fits legal =
      let fits = legal_fits new.limits new.capacity (max new.capacity new.limits.clients) new.history (omega arith) (omega arith) legal in
      let same : max new.capacity new.limits.clients ≡ max old.capacity old.limits.clients = ap (λ (r : Recording). max r.capacity r.limits.clients) is_longer in
      omega (arith, fits, same, one_more)
