-- The refusals that calls share are the same in a world where two workers change places.
use Rattle.std.proofs.Common.{◌≡◌, ℕ, ◌+◌, ◌<◌, is_some, length, Bool, List, Option, Some, None, refl, ap, ap₂, ◌∙◌}
use Rattle.tp_base.specs.declared.answers.Refusal.{Refusal}
use Rattle.tp_base.specs.declared.calls.Environ.{Environ}
use Rattle.tp_base.specs.declared.calls.Kind.{Kind}
use Rattle.tp_base.specs.declared.ids.Who.{Who}
use Rattle.tp_base.specs.declared.plans.Plan.{Plan}
use Rattle.tp_model.specs.World.{World}
use Rattle.tp_model.specs.Refusing.{actor_refusals, environ_refusals, first_refusal, object_refusals, unless_refused}
use Rattle.renamed_worlds.specs.Exchanged.{exchanged, exchanged_plan, exchanged_who}
use Rattle.tp_base.specs.declared.rows.KernelState.{KernelState}
use Rattle.tp_model.specs.Kernels.{is_kernel, is_kernel_that}
use Rattle.tp_model.specs.Counts.{numbered}
use Rattle.tp_model.specs.Calls.Kernels.{kernel_refusals}
use Rattle.renamed_worlds.specs.Exchanged.{exchanged_kernel, exchanged_state}
use Rattle.renamed_worlds.proofs.Exchange.Kernels.{one_exchanged}
use Rattle.renamed_worlds.proofs.Exchange.Queries.{actor_exchanged, finished_exchanged, in_wait_exchanged, without_exchanged}
use Rattle.renamed_worlds.proofs.Mapped.{numbered_map, some_mapped}

-- a plan that is refused or not, as the same plan of the other world is
pub unless_exchanged : (at : ℕ) (after before : List (Bool × Refusal)) (p q : Plan) → after ≡ before → p ≡ exchanged_plan at q → unless_refused (first_refusal after) p ≡ exchanged_plan at (unless_refused (first_refusal before) q)
unless_exchanged at after before p q same is = ap₂ (λ rs x. unless_refused (first_refusal rs) x) same is ∙ refuses (first_refusal before)
  where
    refuses : (o : Option Refusal) → unless_refused o (exchanged_plan at q) ≡ exchanged_plan at (unless_refused o q)
    refuses None = refl
    refuses (Some refusal) = refl

module _ (at : ℕ) (w : World) (fits : at + 1 < length w.workers) (who : Who) where
  abbrev u : World
  u = exchanged at w

  abbrev v : Who
  v = exchanged_who at who

  pub actor_refusals_exchanged : actor_refusals u v ≡ actor_refusals w who
  actor_refusals_exchanged = rw (actor_exchanged at w fits who, finished_exchanged at w fits who, without_exchanged at w fits who, in_wait_exchanged at w fits who)

  pub object_refusals_exchanged : (kind : Kind) (object : ℕ) → object_refusals u v kind object ≡ object_refusals w who kind object
  object_refusals_exchanged kind object = rw (actor_exchanged at w fits who, finished_exchanged at w fits who, without_exchanged at w fits who, in_wait_exchanged at w fits who)

  pub environ_refusals_exchanged : (env : Environ) → environ_refusals u v env ≡ environ_refusals w who env
  environ_refusals_exchanged env = rw (actor_exchanged at w fits who, finished_exchanged at w fits who, without_exchanged at w fits who, in_wait_exchanged at w fits who)

  pub is_kernel_exchanged : (kernel : ℕ) → is_kernel u kernel ≡ is_kernel w kernel
  is_kernel_exchanged kernel = ap is_some (numbered_map (exchanged_kernel at) w.kernels kernel) ∙ some_mapped (exchanged_kernel at) (numbered w.kernels kernel)

  pub kernel_refusals_exchanged : (kind : KernelState → Bool) → ((s : KernelState) → kind (exchanged_state at s) ≡ kind s) → (kernel : ℕ) (after before : List (Bool × Refusal)) → after ≡ before → kernel_refusals u v kind kernel after ≡ kernel_refusals w who kind kernel before
  kernel_refusals_exchanged kind agree kernel after before same =
      let there : is_kernel_that kind u kernel ≡ is_kernel_that kind w kernel = one_exchanged at kind kind agree w.kernels kernel in
      rw (actor_exchanged at w fits who, finished_exchanged at w fits who, without_exchanged at w fits who, in_wait_exchanged at w fits who, is_kernel_exchanged kernel, there, same)
