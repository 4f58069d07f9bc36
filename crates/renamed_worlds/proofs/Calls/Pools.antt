-- Calls on pools, groups and kernel objects in a renamed world.
use Rattle.std.proofs.Common.{◌≡◌, ℕ, ◌+◌, ◌||◌, ◌&&◌, ◌==◌, not, nat_lt, nat_le, Bool, List, [], ◌∷◌, ◌++◌, length, refl, ap, ap₂}
use Rattle.std.specs.List.{list_any}
use Rattle.tp_base.specs.Kernels.{is_event, is_lock, lock_made, owns}
use Rattle.tp_base.specs.declared.answers.Answer.{Answer}
use Rattle.tp_base.specs.declared.answers.Answer.TheVariants as answer
use Rattle.tp_base.specs.declared.answers.Refusal.{Refusal}
use Rattle.tp_base.specs.declared.answers.Refusal.TheVariants.{NotOwner, ObjectLimit, OverMaximum}
use Rattle.tp_base.specs.declared.calls.Lock.{Lock}
use Rattle.tp_base.specs.declared.ids.GroupId.{GroupId}
use Rattle.tp_base.specs.declared.ids.KernelId.{KernelId}
use Rattle.tp_base.specs.declared.ids.PoolId.{PoolId}
use Rattle.tp_base.specs.declared.ids.Who.{Who}
use Rattle.tp_base.specs.declared.plans.Busy.{Busy}
use Rattle.tp_base.specs.declared.plans.Change.{Change}
use Rattle.tp_base.specs.declared.plans.Change.TheVariants as change
use Rattle.tp_base.specs.declared.plans.KernelChange.{KernelChange}
use Rattle.tp_base.specs.declared.plans.KernelChange.TheVariants.{Leave, Reset}
use Rattle.tp_base.specs.declared.plans.Plan.TheVariants.{Does}
use Rattle.tp_base.specs.declared.plans.PoolChange.{PoolChange}
use Rattle.tp_base.specs.declared.plans.PoolChange.TheVariants.{Close, Maximum, Minimum}
use Rattle.tp_base.specs.declared.rows.CallbackRow.{CallbackRow}
use Rattle.tp_base.specs.declared.rows.KernelState.{KernelState}
use Rattle.tp_base.specs.declared.rows.KernelState.TheVariants.{Event, Semaphore}
use Rattle.tp_base.specs.declared.rows.ObjectRow.{ObjectRow}
use Rattle.tp_base.specs.declared.rows.WaitTarget.TheVariants.{Group}
use Rattle.tp_model.specs.World.{World}
use Rattle.tp_model.specs.Counts.{is_live}
use Rattle.tp_model.specs.Groups.{first_operating, has_simple, is_object_that, is_operating_member, is_member, is_simple_of, notices_of, numbers_in}
use Rattle.tp_model.specs.Kernels.{is_kernel_that}
use Rattle.tp_model.specs.Refusing.{make, make_refusals}
use Rattle.tp_model.specs.Calls.Pools.{change_pool_plan, close_pool_plan, create_pool_plan, is_used, pool_refusals, set_maximum_plan, set_minimum_plan}
use Rattle.tp_model.specs.Calls.Groups.{begin_close_plan, begin_close_refusals, close_group_plan, close_group_refusals, create_group_plan, runs_in_group}
use Rattle.tp_model.specs.Calls.Kernels.{change_kernel, create_event_plan, create_kernel, create_lock_plan, create_semaphore_plan, kernel_refusals, release_lock_plan, reset_event_plan}
use Rattle.tp_model.proofs.Lists.{find_agree}
use Rattle.renamed_worlds.specs.Renamed.{renamed, renamed_answer, renamed_change, renamed_plan, IsNaming}
use Rattle.renamed_worlds.proofs.Queries.{actor_renamed, busy_test, in_wait_renamed, operations_renamed, some_renamed, without_renamed}
use Rattle.renamed_worlds.proofs.Refusing.{actor_refusals_renamed, unless_renamed}
use Rattle.renamed_worlds.proofs.Waiting.{count_cancelled_renamed, count_covered_renamed}

module _ (name : ℕ → ℕ) (naming : IsNaming name) (w : World) (who : Who) where
  abbrev u : World
  u = renamed name w

  pub make_renamed : (own : List (Bool × Refusal)) (limit count number : ℕ) (how : Change) → how ≡ renamed_change name how → make u who own limit count number how ≡ renamed_plan name (make w who own limit count number how)
  make_renamed own limit count number how same =
      unless_renamed name (make_refusals u who own limit count) (make_refusals w who own limit count) _ _ (ap (λ rs. rs ++ (own ++ (nat_le limit count, ObjectLimit) ∷ [])) (actor_refusals_renamed name naming w who)) (ap (Does (answer.Made number)) same)

  -- ---- pools

  pub create_pool_renamed : create_pool_plan u who ≡ renamed_plan name (create_pool_plan w who)
  unfolding create_pool_plan
  create_pool_renamed = make_renamed [] w.limits.pools (length w.pools) (length w.pools) change.CreatePool refl

  pool_refusals_renamed : (pool : ℕ) → pool_refusals u who pool ≡ pool_refusals w who pool
  pool_refusals_renamed pool = rw (actor_renamed name naming w who, without_renamed name naming w who, in_wait_renamed name naming w who)

  change_pool_renamed : (pool : PoolId) (how : PoolChange) (after before : Answer) → after ≡ renamed_answer name before → change_pool_plan u who pool how after ≡ renamed_plan name (change_pool_plan w who pool how before)
  change_pool_renamed pool how after before told =
      unless_renamed name (pool_refusals u who pool.0) (pool_refusals w who pool.0) _ _ (pool_refusals_renamed pool.0) (ap (λ a. Does a (change.ChangePool pool how)) told)

  used_renamed : (pool : ℕ) → is_used u pool ≡ is_used w pool
  used_renamed pool =
      ap (λ b. list_any (λ (o : ObjectRow). not o.released && (o.env.pool.0 == pool)) w.objects || b) (some_renamed name naming w (λ (c : CallbackRow). is_live c.status && (c.pool.0 == pool)) (λ _. refl))

  pub close_pool_renamed : (pool : PoolId) → close_pool_plan u who pool ≡ renamed_plan name (close_pool_plan w who pool)
  unfolding close_pool_plan
  close_pool_renamed pool = change_pool_renamed pool Close (answer.Closed (is_used u pool.0)) (answer.Closed (is_used w pool.0)) (ap (λ b. answer.Closed b) (used_renamed pool.0))

  pub set_maximum_renamed : (pool : PoolId) (value : ℕ) → set_maximum_plan u who pool value ≡ renamed_plan name (set_maximum_plan w who pool value)
  unfolding set_maximum_plan
  set_maximum_renamed pool value = change_pool_renamed pool (Maximum value) answer.Done answer.Done refl

  pub set_minimum_renamed : (pool : PoolId) (value : ℕ) → set_minimum_plan u who pool value ≡ renamed_plan name (set_minimum_plan w who pool value)
  unfolding set_minimum_plan
  set_minimum_renamed pool value = change_pool_renamed pool (Minimum value) answer.Done answer.Done refl

  -- ---- groups

  pub create_group_renamed : create_group_plan u who ≡ renamed_plan name (create_group_plan w who)
  unfolding create_group_plan
  create_group_renamed = make_renamed [] w.limits.groups (length w.groups) (length w.groups + 1) change.CreateGroup refl

  simple_renamed : (group : GroupId) → has_simple u group ≡ has_simple w group
  simple_renamed group = some_renamed name naming w (is_simple_of group) (λ _. refl)

  pub close_group_renamed : (group : GroupId) → close_group_plan u who group ≡ renamed_plan name (close_group_plan w who group)
  unfolding close_group_plan
  close_group_renamed group =
      unless_renamed name (close_group_refusals u who group) (close_group_refusals w who group) _ _
      (rw (actor_renamed name naming w who, without_renamed name naming w who, in_wait_renamed name naming w who, simple_renamed group)) refl

  operating_renamed : (group : ℕ) → first_operating u group ≡ first_operating w group
  operating_renamed group =
      find_agree (is_operating_member u group) (is_operating_member w group) (λ object. ap (λ b. is_object_that (is_member group) w.objects object && b) (operations_renamed name naming w object)) (numbers_in w.objects)

  in_group_renamed : (group : ℕ) → runs_in_group u who group ≡ runs_in_group w who group
  in_group_renamed group = busy_test name naming w (λ (by : Busy). by.callback.group.0 == group) (λ _. refl) who

  pub begin_close_renamed : (group : GroupId) (cancel : Bool) (context : ℕ) → begin_close_plan u who group cancel context ≡ renamed_plan name (begin_close_plan w who group cancel context)
  unfolding begin_close_plan
  begin_close_renamed group cancel context =
      unless_renamed name (begin_close_refusals u who group.0) (begin_close_refusals w who group.0) _ _
      (rw (actor_renamed name naming w who, without_renamed name naming w who, in_wait_renamed name naming w who, in_group_renamed group.0, operating_renamed group.0))
      (ap₂ (λ m n. Does (answer.Closing m n (length (notices_of w group.0 cancel))) (change.BeginClose who group cancel context (length (notices_of w group.0 cancel))))
      (count_covered_renamed name naming w (Group group) cancel) (count_cancelled_renamed name naming w (Group group) cancel))

  -- ---- kernel objects

  create_kernel_renamed : (own : List (Bool × Refusal)) (state : KernelState) → create_kernel u who own state ≡ renamed_plan name (create_kernel w who own state)
  create_kernel_renamed own state = make_renamed own w.limits.kernels (length w.kernels) (length w.kernels + 1) (change.CreateKernel state) refl

  pub create_event_renamed : (manual signalled : Bool) → create_event_plan u who manual signalled ≡ renamed_plan name (create_event_plan w who manual signalled)
  unfolding create_event_plan
  create_event_renamed manual signalled = create_kernel_renamed [] (Event manual signalled)

  pub create_semaphore_renamed : (initial maximum : ℕ) → create_semaphore_plan u who initial maximum ≡ renamed_plan name (create_semaphore_plan w who initial maximum)
  unfolding create_semaphore_plan
  create_semaphore_renamed initial maximum = create_kernel_renamed ((nat_lt maximum initial || (maximum == 0), OverMaximum initial) ∷ []) (Semaphore initial maximum)

  pub create_lock_renamed : (lock : Lock) (owned : Bool) → create_lock_plan u who lock owned ≡ renamed_plan name (create_lock_plan w who lock owned)
  unfolding create_lock_plan
  create_lock_renamed lock owned = create_kernel_renamed [] (lock_made lock who owned)

  pub kernel_refusals_renamed : (kind : KernelState → Bool) (kernel : ℕ) (own : List (Bool × Refusal)) → kernel_refusals u who kind kernel own ≡ kernel_refusals w who kind kernel own
  kernel_refusals_renamed kind kernel own = rw (actor_renamed name naming w who, without_renamed name naming w who, in_wait_renamed name naming w who)

  change_kernel_renamed : (kind : KernelState → Bool) (kernel : KernelId) (own : List (Bool × Refusal)) (told : Answer) (how : KernelChange) → told ≡ renamed_answer name told → change_kernel u who kind kernel own told how ≡ renamed_plan name (change_kernel w who kind kernel own told how)
  change_kernel_renamed kind kernel own told how same =
      unless_renamed name (kernel_refusals u who kind kernel.0 own) (kernel_refusals w who kind kernel.0 own) _ _ (kernel_refusals_renamed kind kernel.0 own) (ap (λ a. Does a (change.ChangeKernel kernel how)) same)

  pub reset_event_renamed : (kernel : KernelId) → reset_event_plan u who kernel ≡ renamed_plan name (reset_event_plan w who kernel)
  unfolding reset_event_plan
  reset_event_renamed kernel = change_kernel_renamed is_event kernel [] answer.Done Reset refl

  pub release_lock_renamed : (lock : Lock) (kernel : KernelId) → release_lock_plan u who lock kernel ≡ renamed_plan name (release_lock_plan w who lock kernel)
  unfolding release_lock_plan
  release_lock_renamed lock kernel = change_kernel_renamed (is_lock lock) kernel ((not (is_kernel_that (owns who) w kernel.0), NotOwner) ∷ []) answer.Done Leave refl
