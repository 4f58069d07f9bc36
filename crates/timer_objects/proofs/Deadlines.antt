-- The least deadline of settings is the least of their entries.
use Rattle.std.proofs.Common.{◌≡◌, ◌<◌, ◌≤◌, ℕ, true, false, List, [], ◌∷◌, Option, None, Some, nat_lt, refl, ap, ◌∙◌, arith, ⊎_elim}
use Rattle.std.proofs.lemmas.Bool.{cases_lt}
use Rattle.std.proofs.lemmas.Bool.Decides.{nat_tests}
use Rattle.tp_base.specs.Timers.{clock_end, deadline, next_deadline}
use Rattle.tp_base.specs.Timers as timers
use Rattle.timer_heap.specs.Dues.{Entry}
use Rattle.timer_heap.specs.Least.{least, IsNoEarlier}
use Rattle.timer_heap.specs.Least as heap
use Rattle.timer_objects.specs.declared.Pace.{Pace}
use Rattle.timer_objects.specs.Kept.{setting_of, settings_of}

same_lesser : (moment : ℕ) (other : Option ℕ) → timers.lesser moment other ≡ heap.lesser moment other
same_lesser moment None = refl
same_lesser moment (Some other) = refl

module _ (paces : List Pace) where
  -- no deadline is below the due time
  pub deadline_later : IsNoEarlier (λ e. deadline (setting_of paces e))
  deadline_later e =
      ⊎_elim
      (λ (behind : clock_end < e.due). let test : nat_lt clock_end e.due ≡ true = grind (arith, nat_tests) in rw test (omega arith))
      (λ (within : e.due ≤ clock_end). let test : nat_lt clock_end e.due ≡ false = grind (arith, nat_tests) in rw test (omega (arith, within)))
      (cases_lt clock_end e.due)

  pub shown_deadline : (es : List Entry) → next_deadline (settings_of paces es) ≡ least (λ e. deadline (setting_of paces e)) es
  shown_deadline [] = refl
  shown_deadline (x ∷ xs) =
      let own = deadline (setting_of paces x) in
      ap Some (ap (timers.lesser own) (shown_deadline xs) ∙ same_lesser own (least (λ e. deadline (setting_of paces e)) xs))
