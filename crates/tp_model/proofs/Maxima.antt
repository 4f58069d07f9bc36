-- Each change leaves the maxima of pools that its entry tells.
use Rattle.std.proofs.Common.{◌≡◌, ℕ, suc, zero, ◌<◌, Bool, true, false, cond, ◌==◌, max, List, [], ◌∷◌, ◌++◌, length, slice_get, slice_set, get_or, Option, Some, None, refl, sym, ap, ◌∙◌, subst, eqb-true, eq-eqb}
use Rattle.std.specs.Option.{option_map_or}
use Rattle.std.proofs.lemmas.Option.{slice_get-get_or}
use Rattle.tp_base.specs.declared.plans.Mark.TheVariants.{Long, Loose, Asks}
use Rattle.tp_base.specs.declared.plans.PoolChange.{PoolChange}
use Rattle.tp_base.specs.declared.plans.PoolChange.TheVariants.{Close, Maximum, Minimum}
use Rattle.tp_base.specs.declared.plans.Change.{Change}
use Rattle.tp_base.specs.declared.plans.Change.TheVariants as change
use Rattle.tp_base.specs.declared.rows.ObjectRow.{ObjectRow}
use Rattle.tp_base.specs.declared.rows.PoolRow.{PoolRow}
use Rattle.tp_base.specs.declared.ids.ObjectId.{ObjectId}
use Rattle.tp_model.specs.World.{World, new_pool}
use Rattle.tp_model.specs.Counts.{numbered}
use Rattle.tp_model.specs.Changes.{change_pool, pool_after, changed, release_object}
use Rattle.tp_model.specs.Support.Allowed.{IsAllowed}
use Rattle.tp_model.specs.Support.Told.{maxima_by, told_by_change}
use Rattle.tp_model.specs.Support.Moves.{maximum_at}
use Rattle.tp_model.proofs.Lists.{get_set, get_set_other}
use Rattle.tp_model.proofs.Refusals.{false_true}

abbrev maximum_or : ℕ → Option PoolRow → ℕ
maximum_or d row = option_map_or (λ (p : PoolRow). p.maximum) row d

maximum_appended : (limits : _) (pools : List PoolRow) (pool : ℕ) → maximum_or limits.workers (slice_get (pools ++ new_pool limits ∷ []) pool) ≡ maximum_or limits.workers (slice_get pools pool)
maximum_appended limits [] zero = refl
maximum_appended limits [] (suc pool) = refl
maximum_appended limits (p ∷ pools) zero = refl
maximum_appended limits (p ∷ pools) (suc pool) = maximum_appended limits pools pool

-- the maxima after a row was put in another's place, where its maximum is f of the one before
maximum_put : (pools : List PoolRow) (n pool d : ℕ) (old new : PoolRow) (f : ℕ → ℕ) → slice_get pools n ≡ Some old → new.maximum ≡ f old.maximum
    → maximum_or d (slice_get (slice_set pools n new) pool) ≡ cond (n == pool) (f (maximum_or d (slice_get pools pool))) (maximum_or d (slice_get pools pool))
maximum_put pools n pool d old new f is put =
    elim (n == pool) as (λ b. (n == pool) ≡ b → maximum_or d (slice_get (slice_set pools n new) pool) ≡ cond b (f (maximum_or d (slice_get pools pool))) (maximum_or d (slice_get pools pool))) [
      | true ↦ λ e.
          let same : n ≡ pool = eqb-true n pool e in
          subst (λ k. maximum_or d (slice_get (slice_set pools n new) k) ≡ f (maximum_or d (slice_get pools k))) same
          (ap (maximum_or d) (get_set pools n old new is) ∙ put ∙ ap (λ o. f (maximum_or d o)) (sym is))
      | false ↦ λ e. ap (maximum_or d) (get_set_other pools n pool new (λ same. false_true (sym e ∙ eq-eqb n pool same)))
    ] refl

-- what becomes of the maxima is what the change tells
maxima_put : (w : World) (pool : ℕ) (how : PoolChange) (row : Option PoolRow) → slice_get w.pools pool ≡ row → pool < length w.pools → (other : ℕ) → maximum_at (change_pool w pool how row) other ≡ maxima_by pool how other (maximum_at w other)
maxima_put w pool how None is home other = absurd (none_there (sym is ∙ slice_get-get_or w.pools pool (new_pool w.limits) home))
  where
    none_there : None ≡ Some (get_or w.pools pool (new_pool w.limits)) → ⊥
    none_there e = cc
maxima_put w pool Close (Some row) is home other = maximum_put w.pools pool other w.limits.workers row (pool_after Close row) (λ m. m) is refl ∙ unchanged (pool == other) (maximum_at w other)
  where
    unchanged : (b : Bool) (m : ℕ) → cond b m m ≡ m
    unchanged true m = refl
    unchanged false m = refl
maxima_put w pool (Maximum value) (Some row) is home other = maximum_put w.pools pool other w.limits.workers row (pool_after (Maximum value) row) (λ m. max value 1) is refl
maxima_put w pool (Minimum value) (Some row) is home other = maximum_put w.pools pool other w.limits.workers row (pool_after (Minimum value) row) (λ m. max m value) is refl

released_maxima : (w : World) (object : ObjectId) (row : Option ObjectRow) (pool : ℕ) → maximum_at (release_object w object row) pool ≡ maximum_at w pool
released_maxima w object None pool = refl
released_maxima w object (Some row) pool = refl

pub maxima_changed : (next_number : ℕ) (w : World) (ch : Change) → IsAllowed next_number w ch → (pool : ℕ) → maximum_at (changed w ch) pool ≡ (told_by_change next_number w ch).maxima pool (maximum_at w pool)
maxima_changed next_number w change.Keep a pool = refl
maxima_changed next_number w (change.Fire trigger first count) a pool = refl
maxima_changed next_number w change.CreatePool a pool = maximum_appended w.limits w.pools pool
maxima_changed next_number w (change.ChangePool pool how) a other = maxima_put w pool.0 how (slice_get w.pools pool.0) refl a other
maxima_changed next_number w (change.CreateObject row) a pool = refl
maxima_changed next_number w (change.ReleaseObject object) a pool = released_maxima w object (numbered w.objects object.0) pool
maxima_changed next_number w (change.QueueCallback c) a pool = refl
maxima_changed next_number w (change.ExpectCallback c) a pool = refl
maxima_changed next_number w (change.Operate c how) a pool = refl
maxima_changed next_number w (change.CreateKernel state) a pool = refl
maxima_changed next_number w (change.ChangeKernel kernel how) a pool = refl
maxima_changed next_number w (change.Attach worker at) a pool = refl
maxima_changed next_number w (change.Detach by) a pool = refl
maxima_changed next_number w (change.Take by c) a pool = refl
maxima_changed next_number w (change.Mark by Long) a pool = refl
maxima_changed next_number w (change.Mark by Loose) a pool = refl
maxima_changed next_number w (change.Mark by (Asks kind action)) a pool = refl
maxima_changed next_number w (change.Return by words first count) a pool = refl
maxima_changed next_number w (change.BeginWait who awaited cancel) a pool = refl
maxima_changed next_number w change.CreateGroup a pool = refl
maxima_changed next_number w (change.CloseGroup group) a pool = refl
maxima_changed next_number w (change.BeginClose who group cancel context notices) a pool = refl
maxima_changed next_number w (change.GiveNotice who) a pool = refl
maxima_changed next_number w (change.EndWait who how) a pool = refl
maxima_changed next_number w (change.Finish client) a pool = refl
