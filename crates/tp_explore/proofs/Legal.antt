-- An order is legal where there is room enough for it.
use Rattle.std.proofs.Common.{◌≡◌, ℕ, ◌+◌, ◌≤◌, List, [], ◌∷◌, refl, ap, ◌∙◌, arith}
use Rattle.tp_base.specs.declared.answers.Entry.{Entry}
use Rattle.tp_base.specs.declared.answers.Outcome.TheVariants.{Done}
use Rattle.tp_base.specs.declared.limits.Limits.{Limits}
use Rattle.tp_base.specs.declared.plans.Plan.{Plan}
use Rattle.tp_base.specs.declared.plans.Plan.TheVariants.{Does, Looked, Refused}
use Rattle.tp_model.specs.Changes.{changed}
use Rattle.tp_model.specs.Counts.{owed}
use Rattle.tp_model.specs.History.{room, IsLegalFrom}
use Rattle.tp_model.specs.Step.{cost, outcome_of, stepped, within}
use Rattle.tp_model.specs.Step as step
use Rattle.tp_model.specs.Table.{plan}
use Rattle.tp_model.specs.Table as table
use Rattle.tp_model.specs.World.{World}
use Rattle.tp_model.proofs.Entries.{next_number_in}
use Rattle.tp_model.proofs.Steps.{not_full}
use Rattle.part_places.specs.Places.{Given}
use Rattle.tp_explore.specs.Legal.{IsLegalAtLast}
use Rattle.tp_explore.specs.Scenes.{ample, first_scene, scene_after, IsOrder, IsOrderFrom, IsTurn, Scene}
use Rattle.tp_explore.proofs.Ample.{plan_same}

-- what a plan costs
cost_of : World → Plan → ℕ
cost_of w (Looked look) = 0
cost_of w (Refused refusal) = 1
cost_of w (Does told change) = cost w (changed w change)

-- where there is room for it, it comes to what it comes to freely
fits : (w : World) (left : ℕ) (p : Plan) → cost_of w p ≤ left → outcome_of (within w left (stepped w p)) ≡ outcome_of (stepped w p)
unfolding cost_of
fits w left (Looked look) enough = refl
fits w left (Refused refusal) enough = ap outcome_of (not_full left 1 (step.Refused refusal) enough)
fits w left (Does told change) enough = ap outcome_of (not_full left (cost w (changed w change)) (step.Accepted told (changed w change)) enough)

module _ (g : Given) (limits : Limits) where
  turn_legal : (s : Scene) (e : Entry) (left : ℕ) → IsTurn g limits s e → 4 + cost_of s.world (plan s.world ample e.who e.call) ≤ left → outcome_of (table.step s.world left e.who e.call) ≡ Done e.answer
  turn_legal s e left turn enough =
      ap (λ p. outcome_of (within s.world left (stepped s.world p))) (plan_same s.world left (omega (arith, enough)) (next_number_in s.world) e.who e.call)
      ∙ fits s.world left (plan s.world ample e.who e.call) (omega (arith, enough))
      ∙ turn.answers

  legal_from : (s : Scene) (entries : ℕ) (history : List Entry) → IsOrderFrom g limits s history → (least : ℕ) × ((capacity : ℕ) → least ≤ capacity → IsLegalFrom s.world capacity entries history)
  legal_from s entries [] order = (0, λ capacity enough. tt)
  legal_from s entries (e ∷ rest) order =
      let more = legal_from (scene_after g s e) (entries + 1) rest order.1 in
      let price : ℕ = cost_of s.world (plan s.world ample e.who e.call) in
      let here : ℕ = entries + (owed s.world + (4 + price)) in (
        here + more.0,
        λ capacity enough. (
          turn_legal s e (room capacity s.world entries) order.0 (omega (arith, enough)),
          more.1 capacity (omega (arith, enough)),
        ),
      )

pub order_legal : (g : Given) (limits : Limits) (history : List Entry) → IsOrder g limits history → IsLegalAtLast limits history
order_legal g limits history order = legal_from g limits (first_scene limits) 0 history order
