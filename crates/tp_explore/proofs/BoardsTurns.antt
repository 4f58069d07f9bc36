-- Each turn of a scene is a move of a board that shows it, and each move is a turn, or leads nowhere.
use Rattle.std.proofs.Common.{◌≡◌, ℕ, ◌+◌, ◌*◌, ◌%◌, ◌<◌, Bool, true, false, cond, nat_lt, List, slice_get, Option, Some, None, refl, sym, ap, ap₂, ◌∙◌, subst, arith}
use Rattle.std.proofs.lemmas.Bool.{lt-ltb, ltb-true}
use Rattle.breadth_first.specs.declared.Next.{Next}
use Rattle.breadth_first.specs.declared.Next.TheVariants.{Nowhere, Bad, To}
use Rattle.breadth_first.specs.Rules.{move_of}
use Rattle.tp_base.specs.declared.answers.Answer.{Answer}
use Rattle.tp_base.specs.declared.answers.Answer.TheVariants as answer
use Rattle.tp_base.specs.declared.answers.Entry.{Entry}
use Rattle.tp_base.specs.declared.answers.Outcome.TheVariants.{Done}
use Rattle.tp_base.specs.declared.calls.Call.{Call}
use Rattle.tp_base.specs.declared.ids.Who.{Who}
use Rattle.tp_base.specs.declared.limits.Limits.{Limits}
use Rattle.tp_base.specs.declared.plans.Plan.{Plan}
use Rattle.tp_base.specs.declared.plans.Plan.TheVariants.{Does, Looked, Refused}
use Rattle.tp_model.specs.Step.{outcome_of, stepped}
use Rattle.tp_model.specs.Table.{plan, plan_at}
use Rattle.tp_model.proofs.Calls.{plan_forget}
use Rattle.tp_model.proofs.Entries.{next_number_in}
use Rattle.part_places.specs.Places.{next_call}
use Rattle.tp_explore.specs.Movers.{mover_acts, mover_at, second_at, within_width}
use Rattle.tp_explore.specs.Boards.{after_board, call_by, called, mover, place_in_row, planned, rules_of, scene_of, turn_in, width_of, Board}
use Rattle.tp_explore.specs.Explored.{IsMove}
use Rattle.tp_explore.specs.Noted.{Noted}
use Rattle.tp_explore.specs.Scenes.{ample, turns_at, IsTurn, Scene}
use Rattle.tp_explore.specs.Watched.{Watched}
use Rattle.tp_explore.proofs.BoardsRow.{contained, few_turns, turn_told, turns_same}
use Rattle.tp_explore.proofs.BoardsShown.{planned_comes, Comes, Shows}

module _ (k : Watched) (limits : Limits) (key : Board → List ℕ) where
  module _ (s : Scene) (noted : Noted) (b : Board) (shows : Shows k limits s noted b) where
    -- the board has the plans of the scene
    plans_same : (who : Who) (made : Call) → plan_at b.world (b.made + 1) ample who made ≡ plan s.world ample who made
    plans_same who made = ap₂ (λ w n. plan_at w (n + 1) ample who made) shows.world shows.made ∙ plan_forget (next_number_in s.world) ample s.world who made shows.whole

    -- ---- a turn is a move

    pub record Moves (e : Entry) : Type 0 where
      pub by : ℕ
      pub comes : Comes k limits s noted e (move_of (rules_of k limits key) b by)

    within_moves : (by : ℕ) → by < width_of limits → move_of (rules_of k limits key) b by ≡ after_board k limits b by
    within_moves by within = ap (λ t. cond t (after_board k limits b by) Nowhere) (lt-ltb by (width_of limits) within)

    pub turn_moves : (e : Entry) → IsTurn k.given limits s e → Moves e
    turn_moves e turn = record { by = by; comes = subst (Comes k limits s noted e) (sym leads) (planned_comes k limits s noted b shows e turn.actor turn.turn (plan s.world ample e.who e.call) refl turn.answers) }
      where
        number : ℕ
        number = turn.due.0

        few : number < 2
        few = omega (arith, turn.due.1, few_turns ((s.places e.who).stage) (next_call k.given e.who (s.places e.who)))

        by : ℕ
        by = place_in_row limits e.who * 2 + number

        turn_is : turn_in k.given (scene_of limits b) e.who number ≡ Some e.call
        turn_is =
            turns_same k.given limits s b.places shows.row b.world e.who number turn.actor
            ∙ ap (λ t. cond t (slice_get (turns_at k.given e.who (s.places e.who)) number) None) turn.turn
            ∙ contained (turns_at k.given e.who (s.places e.who)) e.call turn.due

        leads : move_of (rules_of k limits key) b by ≡ planned k limits b e.who e.call (plan s.world ample e.who e.call)
        leads =
            within_moves by (within_width limits e.who number turn.actor few)
            ∙ ap₂ (λ who n. called k limits b who (turn_in k.given (scene_of limits b) who n)) (mover_at limits e.who number turn.actor few) (second_at limits e.who number few)
            ∙ ap (called k limits b e.who) turn_is
            ∙ ap (planned k limits b e.who e.call) (plans_same e.who e.call)

    -- ---- a move is a turn

    pub record Turn (by : ℕ) (n : Next Board) : Type 0 where
      pub entry : Entry
      pub turn : IsTurn k.given limits s entry
      pub made : IsMove k.given limits s by entry
      pub comes : Comes k limits s noted entry n

    abbrev pub Turned : ℕ → Next Board → Type 0
    Turned by Nowhere = Unit {0}
    Turned by Bad = Turn by Bad
    Turned by (To c) = Turn by (To c)

    -- the entry of a turn that is due, with the answer that its call has
    module _ (by : ℕ) (made : Call) (within : by < width_of limits) (is : call_by k.given limits s by ≡ Some made) where
      abbrev who : Who
      who = mover limits by

      told_turned : (p : Plan) (told : Answer) → plan s.world ample who made ≡ p → outcome_of (stepped s.world p) ≡ Done told → Turned by (planned k limits b who made p)
      told_turned p told plans says = of_next (planned k limits b who made p) (planned_comes k limits s noted b shows entry turn.actor turn.turn p plans says)
        where
          entry : Entry
          entry = record { who = who; call = made; answer = told }

          turn : IsTurn k.given limits s entry
          turn = turn_told k.given limits s by made told within is (ap (λ x. outcome_of (stepped s.world x)) plans ∙ says)

          of_next : (n : Next Board) → Comes k limits s noted entry n → Turned by n
          of_next Nowhere comes = tt
          of_next Bad comes = record { entry = entry; turn = turn; made = record { actor = refl; made = is }; comes = comes }
          of_next (To c) comes = record { entry = entry; turn = turn; made = record { actor = refl; made = is }; comes = comes }

      plan_turned : (p : Plan) → plan s.world ample who made ≡ p → Turned by (planned k limits b who made p)
      plan_turned (Looked look) plans = tt
      plan_turned (Refused refusal) plans = told_turned (Refused refusal) (answer.Refused refusal) plans refl
      plan_turned (Does told ch) plans = told_turned (Does told ch) told plans refl

    call_turned : (by : ℕ) → by < width_of limits → (c : Option Call) → call_by k.given limits s by ≡ c → Turned by (called k limits b (mover limits by) c)
    call_turned by within None is = tt
    call_turned by within (Some made) is =
        subst (λ p. Turned by (planned k limits b (mover limits by) made p)) (sym (plans_same (mover limits by) made)) (plan_turned by made within is (plan s.world ample (mover limits by) made) refl)

    pub turning : (by : ℕ) → Turned by (move_of (rules_of k limits key) b by)
    turning by = of_width (nat_lt by (width_of limits)) refl
      where
        of_width : (t : Bool) → nat_lt by (width_of limits) ≡ t → Turned by (cond t (after_board k limits b by) Nowhere)
        of_width false past = tt
        of_width true is =
            let within : by < width_of limits = ltb-true by (width_of limits) is in
            subst (λ c. Turned by (called k limits b (mover limits by) c)) (sym (turns_same k.given limits s b.places shows.row b.world (mover limits by) (by % 2) (mover_acts limits by within)))
            (call_turned by within (call_by k.given limits s by) refl)
