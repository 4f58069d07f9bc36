-- Moves of closed boards, one by one: what a search of them answers is what there is to say of orders.
use Rattle.std.proofs.Common.{◌≡◌, ℕ, ◌+◌, ◌%◌, Bool, true, false, cond, nat_lt, List, [], ◌∷◌, fold, Option, None, Some, option_map, refl, sym, ap, ◌∙◌, subst, filter, arith}
use Rattle.std.proofs.lemmas.Bool.{ltb-true}
use Rattle.breadth_first.specs.Answers.{Answers}
use Rattle.breadth_first.specs.declared.Answer.{Answer as Found}
use Rattle.breadth_first.specs.declared.Answer.TheVariants.{Bad as BadFor, GaveUp, None as NoneBad}
use Rattle.breadth_first.specs.declared.Next.{Next}
use Rattle.breadth_first.specs.declared.Next.TheVariants.{Nowhere, Bad, To}
use Rattle.breadth_first.specs.Rules.{comes_to, goes_on, move_of}
use Rattle.tp_base.specs.declared.answers.Answer.{Answer}
use Rattle.tp_base.specs.declared.answers.Answer.TheVariants as answer
use Rattle.tp_base.specs.declared.answers.Refusal.{Refusal}
use Rattle.tp_base.specs.declared.calls.Call.{Call}
use Rattle.tp_base.specs.declared.ids.Who.{Who}
use Rattle.tp_base.specs.declared.limits.Limits.{Limits}
use Rattle.tp_base.specs.declared.plans.Change.{Change}
use Rattle.tp_base.specs.declared.plans.Plan.{Plan}
use Rattle.tp_base.specs.declared.plans.Plan.TheVariants.{Does, Looked, Refused}
use Rattle.tp_base.specs.declared.rows.CallbackRow.{CallbackRow}
use Rattle.tp_model.specs.Changes.{changed}
use Rattle.tp_model.specs.Stages.{IsActor}
use Rattle.tp_model.specs.Support.Allowed.{news}
use Rattle.tp_model.specs.Support.Remembered.{forget, lives}
use Rattle.tp_model.specs.Support.Safe.{IsSafeChange}
use Rattle.tp_model.specs.Support.Sound.{IsSound}
use Rattle.tp_model.specs.Table.{plan_at}
use Rattle.tp_model.specs.World.{World}
use Rattle.tp_model.proofs.Forgetting.{forget_sound, live_again}
use Rattle.tp_model.proofs.Sound.{changed_sound, opening_sound}
use Rattle.tp_model.proofs.Steps.{plan_allowed}
use Rattle.part_places.specs.declared.place.Place.{Place}
use Rattle.renamed_worlds.specs.Closed.{closed, named_by_place, place_of, settled, tidied}
use Rattle.renamed_worlds.specs.Renamed.{renamed, renamed_answer, renamed_call, renamed_callback, renamed_change, renamed_plan}
use Rattle.renamed_worlds.proofs.Closing.{closed_again, closed_back}
use Rattle.renamed_worlds.proofs.Mapped.{filter_map}
use Rattle.renamed_worlds.proofs.Nameless.{changed_closed, plan_closed, renamed_behind}
use Rattle.tp_explore.specs.Movers.{mover_acts}
use Rattle.tp_explore.specs.Boards.{actors, after_board, board_behind, called, first_board, mover, planned, rules_of, scene_of, to_board, turn_in, width_of, Board}
use Rattle.tp_explore.specs.Closing.{after_closed, closed_board, closed_came, rules_of_closed, IsBlind}
use Rattle.tp_explore.specs.declared.fault.Fault.{Fault}
use Rattle.tp_explore.specs.Explored.{Explores}
use Rattle.tp_explore.specs.Scenes.{ample}
use Rattle.tp_explore.specs.Watched.{Watched}
use Rattle.tp_explore.proofs.BoardsAlong.{searches_tell}
use Rattle.tp_explore.proofs.BoardsRow.{first_in_row}
use Rattle.tp_explore.proofs.ClosedMoves.{first, kept_behind, moved_same, none_first, old, p, turn_named, IsKeptBoard}
use Rattle.tp_explore.proofs.Closing.{place_none}
use Rattle.tp_explore.proofs.Issued.{operation_made}
use Rattle.tp_explore.proofs.Naming.{row_below}

closed_forget : (w : World) → closed (forget w) ≡ closed w
closed_forget w = ap (λ (cs : List CallbackRow). named_by_place (settled (record w { callbacks = cs }))) (live_again w.callbacks)

module _ (k : Watched) (blind : IsBlind k) (limits : Limits) where
  abbrev Kept : Board → Type 0
  Kept b = IsKeptBoard k blind limits b

  -- what comes of a move is kept
  abbrev IsKept : Next Board → Type 0
  IsKept Nowhere = Unit {0}
  IsKept Bad = Unit {0}
  IsKept (To b) = Kept b

  module _ (b : Board) (kept : Kept b) (who : Who) (actor : IsActor limits who) where
    abbrev shut : Board
    shut = closed_board limits b

    abbrev there : ℕ → ℕ
    there = first k blind limits b kept who actor

    abbrev back : ℕ → ℕ
    back = old k blind limits b kept who actor

    abbrev place : Place
    place = p k blind limits b kept who actor

    module _ (made : Call) where
      plan_is : plan_at b.world (b.made + 1) ample who made ≡ renamed_plan back (plan_at shut.world (shut.made + 1) ample who (renamed_call there made))
      plan_is = plan_closed (b.made + 1) b.world kept.sound ample who made

      -- ---- a change

      module _ (told : Answer) (how : Change) (does : plan_at b.world (b.made + 1) ample who made ≡ Does told how) where
        safe : IsSafeChange (b.made + 1) b.world who made told how
        safe = plan_allowed (b.made + 1) ample b.world who made told how kept.sound does

        sound_behind : IsSound (b.made + news how + 1) (forget (changed b.world how))
        sound_behind =
            let count : b.made + 1 + news how ≡ b.made + news how + 1 = omega arith in
            forget_sound (b.made + news how + 1) (changed b.world how) (subst (λ n. IsSound n (changed b.world how)) count (changed_sound (b.made + 1) b.world how kept.sound safe.allowed))

        none_behind : place_of (filter lives (filter lives (changed b.world how).callbacks)) 0 ≡ 0
        none_behind = place_none 1 (b.made + news how + 1) 0 (filter lives (filter lives (changed b.world how).callbacks)) (omega arith) (forget_sound (b.made + news how + 1) (forget (changed b.world how)) sound_behind).numbers

        kept_does : Kept (board_behind k limits b (record { who = who; call = made; answer = told }) (forget (changed b.world how)) (b.made + news how))
        kept_does =
            kept_behind k blind limits b kept who actor made told (forget (changed b.world how)) (b.made + news how)
            (ap (λ (cs : List CallbackRow). record (changed b.world how) { callbacks = cs }) (live_again (changed b.world how).callbacks))
            sound_behind (omega arith)
            (λ callback same. omega (arith, operation_made (b.made + 1) b.world who made callback how kept.sound (subst (λ a. IsSafeChange (b.made + 1) b.world who made a how) same safe)))

      kept_refused : (refusal : Refusal) → Kept (board_behind k limits b (record { who = who; call = made; answer = answer.Refused refusal }) b.world b.made)
      kept_refused refusal = kept_behind k blind limits b kept who actor made (answer.Refused refusal) b.world b.made kept.forgotten kept.sound (omega arith) (λ callback same. absurd cc)

      kept_faults : (next : Board) → Kept next → (faults : List Fault) → IsKept (to_board k limits next faults)
      kept_faults next is [] = is
      kept_faults next is (fault ∷ faults) = tt

      kept_planned : (x : Plan) → plan_at b.world (b.made + 1) ample who made ≡ x → IsKept (planned k limits b who made x)
      kept_planned (Looked look) is = tt
      kept_planned (Refused refusal) is = kept_faults (board_behind k limits b (record { who = who; call = made; answer = answer.Refused refusal }) b.world b.made) (kept_refused refusal) _
      kept_planned (Does told how) is = kept_faults (board_behind k limits b (record { who = who; call = made; answer = told }) (forget (changed b.world how)) (b.made + news how)) (kept_does told how is) _

      -- ---- the same on the closed board

      of_plan : (x : Plan) → plan_at shut.world (shut.made + 1) ample who (renamed_call there made) ≡ x
          → closed_came limits (planned k limits shut who (renamed_call there made) x) ≡ closed_came limits (planned k limits b who made (renamed_plan back x))
      of_plan (Looked look) is = refl
      of_plan (Refused refusal) is =
          moved_same k blind limits b kept who actor made (answer.Refused refusal) b.world shut.world b.made shut.made
          (sym (ap (λ (w : World). w.callbacks) (closed_back (b.made + 1) b.world kept.sound) ∙ ap (λ (w : World). w.callbacks) kept.forgotten))
          refl
          (none_first k blind limits b kept who actor)
          (closed_again (b.made + 1) b.world kept.sound)
      of_plan (Does told how) is =
          let does : plan_at b.world (b.made + 1) ample who made ≡ Does (renamed_answer back told) (renamed_change back how) = plan_is ∙ ap (renamed_plan back) is in
          let same : tidied (changed b.world (renamed_change back how)) ≡ tidied (renamed back (changed shut.world how)) = renamed_behind (b.made + 1) b.world kept.sound ample who made told how is in
          moved_same k blind limits b kept who actor made told
          (forget (changed b.world (renamed_change back how))) (forget (changed shut.world how)) (b.made + news (renamed_change back how)) (shut.made + news how)
          (ap (λ (w : World). w.callbacks) same ∙ filter_map (renamed_callback back) lives lives (λ _. refl) (changed shut.world how).callbacks)
          (ap (λ (w : World). w.clients) same)
          (none_behind (renamed_answer back told) (renamed_change back how) does)
          (closed_forget (changed shut.world how) ∙ sym (changed_closed (b.made + 1) b.world kept.sound ample who made told how is) ∙ sym (closed_forget (changed b.world (renamed_change back how))))

      plan_same : closed_came limits (planned k limits shut who (renamed_call there made) (plan_at shut.world (shut.made + 1) ample who (renamed_call there made))) ≡ closed_came limits (planned k limits b who made (plan_at b.world (b.made + 1) ample who made))
      plan_same = of_plan (plan_at shut.world (shut.made + 1) ample who (renamed_call there made)) refl ∙ ap (λ x. closed_came limits (planned k limits b who made x)) (sym plan_is)

    -- ---- calls

    call_same : (number : ℕ) (o : Option Call) → turn_in k.given (scene_of limits b) who number ≡ o → closed_came limits (called k limits shut who (option_map (renamed_call there) o)) ≡ closed_came limits (called k limits b who o)
    call_same number None is = refl
    call_same number (Some made) is = plan_same made

    kept_called : (number : ℕ) (o : Option Call) → turn_in k.given (scene_of limits b) who number ≡ o → IsKept (called k limits b who o)
    kept_called number None is = tt
    kept_called number (Some made) is = kept_planned made (plan_at b.world (b.made + 1) ample who made) refl

    pub turn_same : (number : ℕ) → closed_came limits (called k limits shut who (turn_in k.given (scene_of limits shut) who number)) ≡ closed_came limits (called k limits b who (turn_in k.given (scene_of limits b) who number))
    turn_same number =
        ap (λ o. closed_came limits (called k limits shut who o)) (turn_named k blind limits b kept who actor number)
        ∙ call_same number (turn_in k.given (scene_of limits b) who number) refl

  -- ---- moves

  module _ (key : Board → List ℕ) where
    move_same : (b : Board) → Kept b → (by : ℕ) → move_of (rules_of_closed k limits key) (closed_board limits b) by ≡ closed_came limits (move_of (rules_of k limits key) b by)
    move_same b kept by = of_width (nat_lt by (width_of limits)) refl
      where
        of_width : (t : Bool) → nat_lt by (width_of limits) ≡ t → cond t (after_closed k limits (closed_board limits b) by) Nowhere ≡ closed_came limits (cond t (after_board k limits b by) Nowhere)
        of_width false past = refl
        of_width true is = turn_same b kept (mover limits by) (mover_acts limits by (ltb-true by (width_of limits) is)) (by % 2)

    move_kept : (b : Board) → Kept b → (by : ℕ) → IsKept (move_of (rules_of k limits key) b by)
    move_kept b kept by = of_width (nat_lt by (width_of limits)) refl
      where
        of_width : (t : Bool) → nat_lt by (width_of limits) ≡ t → IsKept (cond t (after_board k limits b by) Nowhere)
        of_width false past = tt
        of_width true is = kept_called b kept (mover limits by) (mover_acts limits by (ltb-true by (width_of limits) is)) (by % 2) (turn_in k.given (scene_of limits b) (mover limits by) (by % 2)) refl

    along : (moves : List ℕ) (n : Next Board) → IsKept n → fold (goes_on (rules_of_closed k limits key)) (closed_came limits n) moves ≡ closed_came limits (fold (goes_on (rules_of k limits key)) n moves)
    along [] n kept = refl
    along (by ∷ moves) Nowhere kept = along moves Nowhere tt
    along (by ∷ moves) Bad kept = along moves Nowhere tt
    along (by ∷ moves) (To b) kept =
        ap (λ n. fold (goes_on (rules_of_closed k limits key)) n moves) (move_same b kept by)
        ∙ along moves (move_of (rules_of k limits key) b by) (move_kept b kept by)

    -- ---- from the beginning

    first_kept : Kept (first_board limits)
    first_kept = record {
      forgotten = refl;
      sound = opening_sound limits;
      count = (first_in_row limits).count;
      below = row_below limits 1 0 (actors limits);
    }

    comes_same : (moves : List ℕ) → comes_to (rules_of_closed k limits key) moves ≡ closed_came limits (comes_to (rules_of k limits key) moves)
    comes_same moves = along moves (To (first_board limits)) first_kept

    bad_closed : (n : Next Board) → closed_came limits n ≡ Bad → n ≡ Bad
    bad_closed Nowhere is = cc
    bad_closed Bad is = refl
    bad_closed (To b) is = absurd cc

    bad_there : (moves : List ℕ) → comes_to (rules_of_closed k limits key) moves ≡ Bad → comes_to (rules_of k limits key) moves ≡ Bad
    bad_there moves is = bad_closed (comes_to (rules_of k limits key) moves) (sym (comes_same moves) ∙ is)

    bad_here : (moves : List ℕ) → comes_to (rules_of k limits key) moves ≡ Bad → comes_to (rules_of_closed k limits key) moves ≡ Bad
    bad_here moves is = comes_same moves ∙ ap (closed_came limits) is

    answers_same : (told : Found) → Answers (rules_of_closed k limits key) told → Answers (rules_of k limits key) told
    answers_same (BadFor path) is = record { bad = bad_there path.items is.bad; shortest = λ moves bad. is.shortest moves (bad_here moves bad) }
    answers_same (NoneBad states) none = λ moves bad. none moves (bad_here moves bad)
    answers_same (GaveUp states deep) none = λ moves few bad. none moves few (bad_here moves bad)

pub closed_searches_tell : (k : Watched) → IsBlind k → (limits : Limits) (key : Board → List ℕ) (told : Found) → Answers (rules_of_closed k limits key) told → Explores k limits told
closed_searches_tell k blind limits key told is = searches_tell k limits key told (answers_same k blind limits key told is)
