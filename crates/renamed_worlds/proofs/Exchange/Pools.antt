-- Calls on pools, groups and kernel objects where two workers change places.
use Rattle.std.proofs.Common.{◌≡◌, ℕ, ◌+◌, ◌<◌, ◌||◌, ◌&&◌, ◌==◌, not, nat_lt, nat_le, Bool, true, false, List, [], ◌∷◌, ◌++◌, length, refl, ap, ap₂, ◌∙◌}
use Rattle.std.specs.List.{list_any}
use Rattle.tp_base.specs.Kernels.{is_event, is_lock, lock_made, owns}
use Rattle.tp_base.specs.declared.answers.Answer.{Answer}
use Rattle.tp_base.specs.declared.answers.Answer.TheVariants as answer
use Rattle.tp_base.specs.declared.answers.Refusal.{Refusal}
use Rattle.tp_base.specs.declared.answers.Refusal.TheVariants.{NotOwner, ObjectLimit, OverMaximum}
use Rattle.tp_base.specs.declared.calls.Lock.{Lock}
use Rattle.tp_base.specs.declared.ids.GroupId.{GroupId}
use Rattle.tp_base.specs.declared.ids.KernelId.{KernelId}
use Rattle.tp_base.specs.declared.ids.PoolId.{PoolId}
use Rattle.tp_base.specs.declared.ids.Who.{Who}
use Rattle.tp_base.specs.declared.plans.Busy.{Busy}
use Rattle.tp_base.specs.declared.plans.Change.{Change}
use Rattle.tp_base.specs.declared.plans.Change.TheVariants as change
use Rattle.tp_base.specs.declared.plans.KernelChange.{KernelChange}
use Rattle.tp_base.specs.declared.plans.KernelChange.TheVariants.{Leave, Reset}
use Rattle.tp_base.specs.declared.plans.Plan.TheVariants.{Does}
use Rattle.tp_base.specs.declared.plans.PoolChange.{PoolChange}
use Rattle.tp_base.specs.declared.plans.PoolChange.TheVariants.{Close, Maximum, Minimum}
use Rattle.tp_base.specs.declared.rows.CallbackRow.{CallbackRow}
use Rattle.tp_base.specs.declared.rows.KernelState.{KernelState}
use Rattle.tp_base.specs.declared.rows.KernelState.TheVariants.{Event, Semaphore}
use Rattle.tp_base.specs.declared.rows.ObjectRow.{ObjectRow}
use Rattle.tp_base.specs.declared.rows.WaitTarget.TheVariants.{Group}
use Rattle.tp_model.specs.World.{World}
use Rattle.tp_model.specs.Counts.{is_live}
use Rattle.tp_model.specs.Groups.{first_operating, has_simple, is_object_that, is_operating_member, is_member, is_simple_of, notices_of, numbers_in}
use Rattle.tp_model.specs.Kernels.{is_kernel_that}
use Rattle.tp_model.specs.Refusing.{make, make_refusals}
use Rattle.tp_model.specs.Calls.Pools.{change_pool_plan, close_pool_plan, create_pool_plan, is_used, pool_refusals, set_maximum_plan, set_minimum_plan}
use Rattle.tp_model.specs.Calls.Groups.{begin_close_plan, begin_close_refusals, close_group_plan, close_group_refusals, create_group_plan, runs_in_group}
use Rattle.tp_model.specs.Calls.Kernels.{change_kernel, create_event_plan, create_kernel, create_lock_plan, create_semaphore_plan, kernel_refusals, release_lock_plan, reset_event_plan}
use Rattle.tp_model.proofs.Lists.{find_agree}
use Rattle.renamed_worlds.specs.Exchanged.{exchanged, exchanged_change, exchanged_how, exchanged_kernel, exchanged_plan, exchanged_state, exchanged_who}
use Rattle.std.proofs.lemmas.List.{length-map}
use Rattle.tp_base.specs.declared.calls.Lock.TheVariants as lock
use Rattle.renamed_worlds.proofs.Exchange.Actions.{is_lock_exchanged, state_same}
use Rattle.renamed_worlds.proofs.Exchange.Kernels.{one_exchanged, owns_exchanged}
use Rattle.renamed_worlds.proofs.Exchange.Queries.{actor_exchanged, busy_test, finished_exchanged, in_wait_exchanged, live_same, operations_exchanged, some_same, without_exchanged}
use Rattle.renamed_worlds.proofs.Exchange.Refusing.{actor_refusals_exchanged, kernel_refusals_exchanged, unless_exchanged}
use Rattle.renamed_worlds.proofs.Exchange.Waiting.{count_cancelled_exchanged, count_covered_exchanged, outstanding_callback}

module _ (at : ℕ) (w : World) (fits : at + 1 < length w.workers) (who : Who) where
  abbrev u : World
  u = exchanged at w

  abbrev v : Who
  v = exchanged_who at who

  make_exchanged : (own : List (Bool × Refusal)) (limit count number : ℕ) (after before : Change) → after ≡ exchanged_change at before → make u v own limit count number after ≡ exchanged_plan at (make w who own limit count number before)
  make_exchanged own limit count number after before same =
      unless_exchanged at (make_refusals u v own limit count) (make_refusals w who own limit count) _ _ (ap (λ rs. rs ++ (own ++ (nat_le limit count, ObjectLimit) ∷ [])) (actor_refusals_exchanged at w fits who)) (ap (Does (answer.Made number)) same)

  -- ---- pools

  pub create_pool_exchanged : create_pool_plan u v ≡ exchanged_plan at (create_pool_plan w who)
  unfolding create_pool_plan
  create_pool_exchanged = make_exchanged [] w.limits.pools (length w.pools) (length w.pools) change.CreatePool change.CreatePool refl

  pool_refusals_exchanged : (pool : ℕ) → pool_refusals u v pool ≡ pool_refusals w who pool
  pool_refusals_exchanged pool = rw (actor_exchanged at w fits who, finished_exchanged at w fits who, without_exchanged at w fits who, in_wait_exchanged at w fits who)

  change_pool_exchanged : (pool : PoolId) (how : PoolChange) (after before : Answer) → after ≡ before → change_pool_plan u v pool how after ≡ exchanged_plan at (change_pool_plan w who pool how before)
  change_pool_exchanged pool how after before told =
      unless_exchanged at (pool_refusals u v pool.0) (pool_refusals w who pool.0) _ _ (pool_refusals_exchanged pool.0) (ap (λ a. Does a (change.ChangePool pool how)) told)

  used_exchanged : (pool : ℕ) → is_used u pool ≡ is_used w pool
  used_exchanged pool =
      ap (λ b. list_any (λ (o : ObjectRow). not o.released && (o.env.pool.0 == pool)) w.objects || b) (some_same at w fits (λ (c : CallbackRow). is_live c.status && (c.pool.0 == pool)) (λ c. ap (λ b. b && (c.pool.0 == pool)) (live_same at w fits c)))

  pub close_pool_exchanged : (pool : PoolId) → close_pool_plan u v pool ≡ exchanged_plan at (close_pool_plan w who pool)
  unfolding close_pool_plan
  close_pool_exchanged pool = change_pool_exchanged pool Close (answer.Closed (is_used u pool.0)) (answer.Closed (is_used w pool.0)) (ap (λ b. answer.Closed b) (used_exchanged pool.0))

  pub set_maximum_exchanged : (pool : PoolId) (value : ℕ) → set_maximum_plan u v pool value ≡ exchanged_plan at (set_maximum_plan w who pool value)
  unfolding set_maximum_plan
  set_maximum_exchanged pool value = change_pool_exchanged pool (Maximum value) answer.Done answer.Done refl

  pub set_minimum_exchanged : (pool : PoolId) (value : ℕ) → set_minimum_plan u v pool value ≡ exchanged_plan at (set_minimum_plan w who pool value)
  unfolding set_minimum_plan
  set_minimum_exchanged pool value = change_pool_exchanged pool (Minimum value) answer.Done answer.Done refl

  -- ---- groups

  pub create_group_exchanged : create_group_plan u v ≡ exchanged_plan at (create_group_plan w who)
  unfolding create_group_plan
  create_group_exchanged = make_exchanged [] w.limits.groups (length w.groups) (length w.groups + 1) change.CreateGroup change.CreateGroup refl

  simple_exchanged : (group : GroupId) → has_simple u group ≡ has_simple w group
  simple_exchanged group = some_same at w fits (is_simple_of group) (λ c. ap (λ b. b && (c.object.0 == 0)) (outstanding_callback at (Group group) c))

  pub close_group_exchanged : (group : GroupId) → close_group_plan u v group ≡ exchanged_plan at (close_group_plan w who group)
  unfolding close_group_plan
  close_group_exchanged group =
      unless_exchanged at (close_group_refusals u v group) (close_group_refusals w who group) _ _
      (rw (actor_exchanged at w fits who, finished_exchanged at w fits who, without_exchanged at w fits who, in_wait_exchanged at w fits who, simple_exchanged group)) refl

  operating_exchanged : (group : ℕ) → first_operating u group ≡ first_operating w group
  operating_exchanged group =
      find_agree (is_operating_member u group) (is_operating_member w group) (λ object. ap (λ b. is_object_that (is_member group) w.objects object && b) (operations_exchanged at w fits object)) (numbers_in w.objects)

  in_group_exchanged : (group : ℕ) → runs_in_group u v group ≡ runs_in_group w who group
  in_group_exchanged group = busy_test at w fits (λ (by : Busy). by.callback.group.0 == group) (λ _. refl) who

  pub begin_close_exchanged : (group : GroupId) (cancel : Bool) (context : ℕ) → begin_close_plan u v group cancel context ≡ exchanged_plan at (begin_close_plan w who group cancel context)
  unfolding begin_close_plan
  begin_close_exchanged group cancel context =
      unless_exchanged at (begin_close_refusals u v group.0) (begin_close_refusals w who group.0) _ _
      (rw (actor_exchanged at w fits who, finished_exchanged at w fits who, without_exchanged at w fits who, in_wait_exchanged at w fits who, in_group_exchanged group.0, operating_exchanged group.0))
      (ap₂ (λ m n. Does (answer.Closing m n (length (notices_of w group.0 cancel))) (change.BeginClose v group cancel context (length (notices_of w group.0 cancel))))
      (count_covered_exchanged at w fits (Group group) cancel) (count_cancelled_exchanged at w fits (Group group) cancel))

  -- ---- kernel objects

  create_kernel_exchanged : (own : List (Bool × Refusal)) (after before : KernelState) → after ≡ exchanged_state at before → create_kernel u v own after ≡ exchanged_plan at (create_kernel w who own before)
  create_kernel_exchanged own after before same =
      ap (λ n. make u v own w.limits.kernels n (n + 1) (change.CreateKernel after)) (length-map w.kernels (exchanged_kernel at))
      ∙ make_exchanged own w.limits.kernels (length w.kernels) (length w.kernels + 1) (change.CreateKernel after) (change.CreateKernel before) (ap (λ t. change.CreateKernel t) same)

  pub create_event_exchanged : (manual signalled : Bool) → create_event_plan u v manual signalled ≡ exchanged_plan at (create_event_plan w who manual signalled)
  unfolding create_event_plan
  create_event_exchanged manual signalled = create_kernel_exchanged [] (Event manual signalled) (Event manual signalled) refl

  pub create_semaphore_exchanged : (initial maximum : ℕ) → create_semaphore_plan u v initial maximum ≡ exchanged_plan at (create_semaphore_plan w who initial maximum)
  unfolding create_semaphore_plan
  create_semaphore_exchanged initial maximum = create_kernel_exchanged ((nat_lt maximum initial || (maximum == 0), OverMaximum initial) ∷ []) (Semaphore initial maximum) (Semaphore initial maximum) refl

  pub create_lock_exchanged : (of : Lock) (owned : Bool) → create_lock_plan u v of owned ≡ exchanged_plan at (create_lock_plan w who of owned)
  unfolding create_lock_plan
  create_lock_exchanged of owned = create_kernel_exchanged [] (lock_made of v owned) (lock_made of who owned) (made of owned)
    where
      made : (lock : Lock) (taken : Bool) → lock_made lock (exchanged_who at who) taken ≡ exchanged_state at (lock_made lock who taken)
      made lock.Mutex true = refl
      made lock.Mutex false = refl
      made lock.Section true = refl
      made lock.Section false = refl

  change_kernel_exchanged : (kind : KernelState → Bool) → ((t : KernelState) → kind (exchanged_state at t) ≡ kind t) → (kernel : KernelId) (after before : List (Bool × Refusal)) → after ≡ before → (told : Answer) (how : KernelChange)
      → change_kernel u v kind kernel after told (exchanged_how at how) ≡ exchanged_plan at (change_kernel w who kind kernel before told how)
  change_kernel_exchanged kind agree kernel after before same told how =
      unless_exchanged at (kernel_refusals u v kind kernel.0 after) (kernel_refusals w who kind kernel.0 before) _ _ (kernel_refusals_exchanged at w fits who kind agree kernel.0 after before same) refl

  pub reset_event_exchanged : (kernel : KernelId) → reset_event_plan u v kernel ≡ exchanged_plan at (reset_event_plan w who kernel)
  unfolding reset_event_plan
  reset_event_exchanged kernel = change_kernel_exchanged is_event (state_same at is_event (λ _ _ _. refl) (λ _ _ _. refl)) kernel [] [] refl answer.Done Reset

  pub release_lock_exchanged : (lock : Lock) (kernel : KernelId) → release_lock_plan u v lock kernel ≡ exchanged_plan at (release_lock_plan w who lock kernel)
  unfolding release_lock_plan
  release_lock_exchanged lock kernel =
      change_kernel_exchanged (is_lock lock) (is_lock_exchanged at lock) kernel ((not (is_kernel_that (owns v) u kernel.0), NotOwner) ∷ []) ((not (is_kernel_that (owns who) w kernel.0), NotOwner) ∷ [])
      (ap (λ b. (not b, NotOwner) ∷ []) (one_exchanged at (owns v) (owns who) (owns_exchanged at who) w.kernels kernel.0)) answer.Done Leave
