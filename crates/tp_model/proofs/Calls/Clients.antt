-- The facts of calls of clients.
use Rattle.std.proofs.Common.{◌≡◌, ℕ, true, false, ◌||◌, Option, Some, None, is_some, refl, ap, ◌∙◌}
use Rattle.std.specs.Option.{option_map_or}
use Rattle.tp_base.specs.declared.ids.Who.{Who}
use Rattle.tp_base.specs.declared.ids.Who.TheVariants.{Client, Worker}
use Rattle.tp_base.specs.declared.calls.Call.TheVariants.{Finish}
use Rattle.tp_base.specs.declared.rows.ClientRow.{ClientRow}
use Rattle.tp_model.specs.World.{World, unfinished}
use Rattle.tp_model.specs.Counts.{numbered}
use Rattle.tp_model.specs.Conditions.{is_actor, is_finished}
use Rattle.tp_model.specs.Calls.Clients.{finish_refusals, finish, finish_plan}
use Rattle.tp_model.specs.Support.Safe.{IsSafe}
use Rattle.tp_model.specs.Support.Remembered.{forget}
use Rattle.tp_model.specs.Support.Ranged.{IsPlanInRange}
use Rattle.tp_model.proofs.Refusals.{not_false, false_true}
use Rattle.tp_model.proofs.Allowed.{safe_unless}
use Rattle.tp_model.proofs.Ranged.{ranged_unless}

-- ---- Finish

pub finish_safe : (next_number : ℕ) (w : World) (who : Who) → IsSafe next_number w who Finish (finish_plan w who)
unfolding finish_plan
finish_safe next_number w who = safe_unless next_number w who Finish (finish_refusals w who) _ (λ none. finishes who (not_false (is_actor w who) none.0) none.1.1.0)
  where
    stands : (number : ℕ) (row : Option ClientRow) → numbered w.clients number ≡ row → (is_some row || false) ≡ true → option_map_or (λ (r : ClientRow). r.finished) row false ≡ false → numbered w.clients number ≡ Some unfinished
    stands number None is there goes_on = absurd (false_true there)
    stands number (Some row) is there goes_on = is ∙ ap (λ b. Some (record { finished = b })) goes_on

    finishes : (actor : Who) → is_actor w actor ≡ true → is_finished w actor ≡ false → IsSafe next_number w actor Finish (finish actor)
    finishes (Client number) acts goes_on = record { allowed = stands number (numbered w.clients number) refl acts goes_on; made_by = refl; accepted = refl; tells = refl }
    finishes (Worker number) acts goes_on = tt

pub finish_forget : (w : World) (who : Who) → finish_plan (forget w) who ≡ finish_plan w who
unfolding finish_plan
finish_forget w who = refl

pub finish_ranged : (w : World) (who : Who) → IsPlanInRange (finish_plan w who)
unfolding finish_plan
finish_ranged w who = ranged_unless (finish_refusals w who) _ _ (finishes who)
  where
    finishes : (actor : Who) → IsPlanInRange (finish actor)
    finishes (Client number) = (tt, tt)
    finishes (Worker number) = tt
