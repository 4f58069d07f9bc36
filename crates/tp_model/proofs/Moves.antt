-- Each change moves callbacks, workers, pools, waits and objects as its entry tells: each of these in a file of its own.
use Rattle.std.specs.Option.{option_map_or}
use Rattle.std.proofs.Common.{◌≡◌, ◌||◌, ◌==◌, ℕ, false, slice_get, Option, Some, None, refl, sym, ap, ◌∙◌}
use Rattle.tp_base.specs.declared.plans.Change.{Change}
use Rattle.tp_base.specs.declared.plans.Change.TheVariants as change
use Rattle.tp_base.specs.declared.answers.Entry.{Entry}
use Rattle.tp_base.specs.declared.ids.PoolId.{PoolId}
use Rattle.tp_base.specs.declared.rows.ObjectRow.{ObjectRow}
use Rattle.tp_base.specs.declared.rows.PoolRow.{PoolRow}
use Rattle.tp_model.specs.World.{World}
use Rattle.tp_model.specs.Counts.{numbered}
use Rattle.tp_model.specs.Changes.{change_pool, changed, release_object}
use Rattle.tp_model.specs.Conditions.{is_closed_pool}
use Rattle.tp_model.specs.Support.Sound.{IsSound}
use Rattle.tp_model.specs.Support.Allowed.{IsAllowed, IsMadeBy}
use Rattle.tp_model.specs.Support.Told.{Told, told_by_change, told_by}
use Rattle.tp_model.specs.Support.Moves.{Leads, maximum_at}
use Rattle.tp_model.proofs.Closings.{closings_changed}
use Rattle.tp_model.proofs.Maxima.{maxima_changed}
use Rattle.tp_model.proofs.CallbackMoves.{change_moves}
use Rattle.tp_model.proofs.ObjectMoves.{change_objects}
use Rattle.tp_model.proofs.WaitMoves.{change_waits}
use Rattle.tp_model.proofs.GroupMoves.{change_groups}

module _ (next_number : ℕ) (w : World) (entry : Entry) where
  limits_same : (ch : Change) → (changed w ch).limits ≡ w.limits
  limits_same (change.ChangePool pool how) = of_row (slice_get w.pools pool.0)
    where
      of_row : (row : Option PoolRow) → (change_pool w pool.0 how row).limits ≡ w.limits
      of_row None = refl
      of_row (Some row) = refl
  limits_same (change.ReleaseObject object) = of_row (numbered w.objects object.0)
    where
      of_row : (row : Option ObjectRow) → (release_object w object row).limits ≡ w.limits
      of_row None = refl
      of_row (Some row) = refl
  limits_same _ = refl

  pub change_leads : (ch : Change) → IsSound next_number w → IsAllowed next_number w ch → IsMadeBy w entry.who ch → told_by entry ≡ told_by_change next_number w ch → Leads next_number w entry (changed w ch)
  change_leads ch s a by tells =
      record {
        moves = change_moves next_number w entry ch s a by tells;
        waits = change_waits next_number w entry ch s a by tells;
        limits = limits_same ch;
        objects = change_objects next_number w entry ch tells;
        groups = change_groups next_number w entry ch a tells;
        maxima = λ pool. maxima_changed next_number w ch a pool ∙ sym (ap (λ (t : Told). t.maxima pool (maximum_at w pool)) tells);
        closings = λ pool. closings_changed next_number w ch a pool ∙ sym (ap (λ (t : Told). is_closed_pool w pool || option_map_or (λ (p : PoolId). p.0 == pool) t.shut false) tells);
      }
