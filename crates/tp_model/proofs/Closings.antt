-- Each change closes the pool that its entry tells, and no other.
use Rattle.std.proofs.Common.{◌≡◌, ℕ, suc, zero, ◌<◌, length, get_or, Bool, true, false, ◌||◌, ◌==◌, List, [], ◌∷◌, ◌++◌, slice_get, slice_set, Option, Some, None, refl, sym, ap, ◌∙◌, subst, eqb-true, eq-eqb}
use Rattle.std.specs.Option.{option_map_or}
use Rattle.std.proofs.lemmas.Option.{slice_get-get_or}
use Rattle.tp_base.specs.declared.plans.Mark.TheVariants.{Long, Loose, Asks}
use Rattle.tp_base.specs.declared.plans.PoolChange.{PoolChange}
use Rattle.tp_base.specs.declared.plans.PoolChange.TheVariants.{Close, Maximum, Minimum}
use Rattle.tp_base.specs.declared.plans.Change.{Change}
use Rattle.tp_base.specs.declared.plans.Change.TheVariants as change
use Rattle.tp_base.specs.declared.rows.ObjectRow.{ObjectRow}
use Rattle.tp_base.specs.declared.rows.PoolRow.{PoolRow}
use Rattle.tp_base.specs.declared.ids.ObjectId.{ObjectId}
use Rattle.tp_base.specs.declared.ids.PoolId.{PoolId}
use Rattle.tp_model.specs.World.{World, new_pool}
use Rattle.tp_model.specs.Conditions.{is_closed_pool}
use Rattle.tp_model.specs.Counts.{numbered}
use Rattle.tp_model.specs.Changes.{change_pool, pool_after, changed, release_object}
use Rattle.tp_model.specs.Support.Allowed.{IsAllowed}
use Rattle.tp_model.specs.Support.Told.{shut_of, told_by_change}
use Rattle.tp_model.proofs.Lists.{get_set, get_set_other}
use Rattle.tp_model.proofs.Refusals.{false_true, or_false, or_true}

abbrev closed_or : Option PoolRow → Bool
closed_or row = option_map_or (λ (p : PoolRow). p.closed) row false

closed_appended : (limits : _) (pools : List PoolRow) (pool : ℕ) → closed_or (slice_get (pools ++ new_pool limits ∷ []) pool) ≡ closed_or (slice_get pools pool)
closed_appended limits [] zero = refl
closed_appended limits [] (suc pool) = refl
closed_appended limits (p ∷ pools) zero = refl
closed_appended limits (p ∷ pools) (suc pool) = closed_appended limits pools pool

-- a pool's row with another in its place that is as closed as it
kept_closed : (pools : List PoolRow) (n pool : ℕ) (old new : PoolRow) → slice_get pools n ≡ Some old → new.closed ≡ old.closed → closed_or (slice_get (slice_set pools n new) pool) ≡ closed_or (slice_get pools pool)
kept_closed pools n pool old new is same =
    elim (n == pool) as (λ b. (n == pool) ≡ b → closed_or (slice_get (slice_set pools n new) pool) ≡ closed_or (slice_get pools pool)) [
      | true ↦ λ e. subst (λ k. closed_or (slice_get (slice_set pools n new) k) ≡ closed_or (slice_get pools k)) (eqb-true n pool e) (ap closed_or (get_set pools n old new is) ∙ same ∙ ap closed_or (sym is))
      | false ↦ λ e. ap closed_or (get_set_other pools n pool new (λ same_pool. false_true (sym e ∙ eq-eqb n pool same_pool)))
    ] refl

-- and one that is closed
put_closed : (pools : List PoolRow) (n pool : ℕ) (old new : PoolRow) → slice_get pools n ≡ Some old → new.closed ≡ true → closed_or (slice_get (slice_set pools n new) pool) ≡ (closed_or (slice_get pools pool) || (n == pool))
put_closed pools n pool old new is closed =
    elim (n == pool) as (λ b. (n == pool) ≡ b → closed_or (slice_get (slice_set pools n new) pool) ≡ (closed_or (slice_get pools pool) || b)) [
      | true ↦ λ e. subst (λ k. closed_or (slice_get (slice_set pools n new) k) ≡ true) (eqb-true n pool e) (ap closed_or (get_set pools n old new is) ∙ closed) ∙ sym (or_true (closed_or (slice_get pools pool)))
      | false ↦ λ e. ap closed_or (get_set_other pools n pool new (λ same_pool. false_true (sym e ∙ eq-eqb n pool same_pool))) ∙ sym (or_false (closed_or (slice_get pools pool)))
    ] refl

changed_closed : (w : World) (pool : PoolId) (how : PoolChange) (row : Option PoolRow) → slice_get w.pools pool.0 ≡ row → pool.0 < length w.pools → (other : ℕ)
    → is_closed_pool (change_pool w pool.0 how row) other ≡ (is_closed_pool w other || option_map_or (λ (p : PoolId). p.0 == other) (shut_of pool how) false)
changed_closed w pool how None is home other = absurd (none_there (sym is ∙ slice_get-get_or w.pools pool.0 (new_pool w.limits) home))
  where
    none_there : None ≡ Some (get_or w.pools pool.0 (new_pool w.limits)) → ⊥
    none_there e = cc
changed_closed w pool Close (Some row) is home other = put_closed w.pools pool.0 other row (pool_after Close row) is refl
changed_closed w pool (Maximum value) (Some row) is home other = kept_closed w.pools pool.0 other row (pool_after (Maximum value) row) is refl ∙ sym (or_false (is_closed_pool w other))
changed_closed w pool (Minimum value) (Some row) is home other = kept_closed w.pools pool.0 other row (pool_after (Minimum value) row) is refl ∙ sym (or_false (is_closed_pool w other))

released_closed : (w : World) (object : ObjectId) (row : Option ObjectRow) (pool : ℕ) → is_closed_pool (release_object w object row) pool ≡ is_closed_pool w pool
released_closed w object None pool = refl
released_closed w object (Some row) pool = refl

pub closings_changed : (next_number : ℕ) (w : World) (ch : Change) → IsAllowed next_number w ch → (pool : ℕ) → is_closed_pool (changed w ch) pool ≡ (is_closed_pool w pool || option_map_or (λ (p : PoolId). p.0 == pool) (told_by_change next_number w ch).shut false)
closings_changed next_number w change.CreatePool a pool = closed_appended w.limits w.pools pool ∙ sym (or_false (is_closed_pool w pool))
closings_changed next_number w (change.ChangePool pool how) a other = changed_closed w pool how (slice_get w.pools pool.0) refl a other
closings_changed next_number w (change.ReleaseObject object) a pool = released_closed w object (numbered w.objects object.0) pool ∙ sym (or_false (is_closed_pool w pool))
closings_changed next_number w (change.Mark by Long) a pool = sym (or_false (is_closed_pool w pool))
closings_changed next_number w (change.Mark by Loose) a pool = sym (or_false (is_closed_pool w pool))
closings_changed next_number w (change.Mark by (Asks kind action)) a pool = sym (or_false (is_closed_pool w pool))
closings_changed next_number w _ a pool = sym (or_false (is_closed_pool w pool))
