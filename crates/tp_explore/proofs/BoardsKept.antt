-- Boards as they are kept: what comes of an entry, and of a move.
use Rattle.std.proofs.Common.{◌≡◌, ℕ, ◌+◌, ◌==◌, true, false, List, [], ◌∷◌, length, None, Some, refl, sym, arith, slice_set}
use Rattle.std.proofs.lemmas.Bool.{eqb-true}
use Rattle.breadth_first.specs.declared.Next.TheVariants.{Bad, Nowhere, To}
use Rattle.tp_base.specs.declared.answers.Entry.{Entry}
use Rattle.tp_base.specs.declared.answers.Answer.{Answer}
use Rattle.tp_base.specs.declared.answers.Answer.TheVariants as answer
use Rattle.tp_base.specs.declared.answers.Refusal.{Refusal}
use Rattle.tp_base.specs.declared.calls.Call.{Call}
use Rattle.tp_base.specs.declared.ids.Who.{Who}
use Rattle.tp_base.specs.declared.limits.Limits.{Limits}
use Rattle.tp_base.specs.declared.plans.Change.{Change}
use Rattle.tp_base.specs.declared.plans.Plan.{Plan}
use Rattle.tp_base.specs.declared.plans.Plan.TheVariants.{Does, Refused}
use Rattle.tp_model.specs.Changes.{changed}
use Rattle.tp_model.specs.Support.Allowed.{news, IsAllowed}
use Rattle.tp_model.specs.Support.Remembered.{forget}
use Rattle.tp_model.specs.Table.{plan_at}
use Rattle.tp_model.specs.World.{World}
use Rattle.part_places.specs.declared.place.Place.{Place}
use Rattle.part_places.specs.Places.{place_after}
use Rattle.tp_explore.specs.declared.fault.Fault.{Fault}
use Rattle.tp_explore.specs.Boards.{after_board, call_by, mover, moved, place_at, place_in_row, planned, scene_of, to_board, Board}
use Rattle.tp_explore.specs.Ended.{brought, noted_by_entry}
use Rattle.tp_explore.specs.Kept.{board_of}
use Rattle.tp_explore.specs.Noted.{Noted}
use Rattle.tp_explore.specs.Scenes.{ample}
use Rattle.tp_explore.specs.Watched.{Watched}

-- what a world allows is what the same world allows
pub allowed_alike : (made made2 : ℕ) (w w2 : World) (change : Change) → made ≡ made2 → w ≡ w2 → IsAllowed (made2 + 1) w2 change → IsAllowed (made + 1) w change
allowed_alike made made2 w w2 change e1 e2 is = rw (e1, e2) is

module _ (k : Watched) (limits : Limits) where
  pub no_faults : (b : Board) (faults : List Fault) → (length faults == 0) ≡ true → To b ≡ to_board k limits b faults
  no_faults b [] e = refl
  no_faults b (fault ∷ faults) e = absurd (omega (arith, eqb-true (length (fault ∷ faults)) 0 e))

  pub some_faults : (b : Board) (faults : List Fault) → (length faults == 0) ≡ false → Bad ≡ to_board k limits b faults
  some_faults b [] e = cc
  some_faults b (fault ∷ faults) e = refl

  -- what comes of an entry is told by where its actor was and is, and by what it brings
  pub comes : (b : Board) (e : Entry) (w : World) (made : ℕ) (places : List Place) (before after : Place) (noted : Noted) (faults : List Fault)
      → places ≡ slice_set b.places (place_in_row limits e.who) (place_after k.given e.who (place_at limits b.places e.who) e.call e.answer)
      → before ≡ place_at limits b.places e.who
      → after ≡ place_at limits places e.who
      → noted ≡ noted_by_entry k limits (record { entry = e; before = before; after = after }) b.noted
      → faults ≡ brought k limits w (record { entry = e; before = before; after = after }) b.noted
      → to_board k limits (board_of w made places noted) faults ≡ moved k limits b e w made
  comes b e w made places before after noted faults e1 e2 e3 e4 e5 = rw (e5, e4, e3, e2, e1) refl

  -- what comes of a move is what comes of its call
  pub by_call : (b : Board) (by : ℕ) (call : Call) → call_by k.given limits (scene_of limits b) by ≡ Some call
      → planned k limits b (mover limits by) call (plan_at b.world (b.made + 1) ample (mover limits by) call) ≡ after_board k limits b by
  by_call b by call e = rw e refl

  pub by_none : (b : Board) (by : ℕ) → call_by k.given limits (scene_of limits b) by ≡ None → Nowhere ≡ after_board k limits b by
  by_none b by e = rw e refl

  -- what comes of a plan is what comes of its entry
  pub by_refusal : (b : Board) (who : Who) (call : Call) (plan : Plan) (refusal : Refusal) (e : Entry) (w : World) (made : ℕ)
      → plan ≡ Refused refusal
      → e ≡ record { who = who; call = call; answer = answer.Refused refusal }
      → w ≡ b.world
      → made ≡ b.made
      → moved k limits b e w made ≡ planned k limits b who call plan
  by_refusal b who call plan refusal e w made e1 e2 e3 e4 = rw (e1, e2, e3, e4) refl

  pub by_change : (b : Board) (who : Who) (call : Call) (plan : Plan) (told : Answer) (change : Change) (e : Entry) (w : World) (made : ℕ)
      → plan ≡ Does told change
      → e ≡ record { who = who; call = call; answer = told }
      → w ≡ forget (changed b.world change)
      → made ≡ b.made + news change
      → moved k limits b e w made ≡ planned k limits b who call plan
  by_change b who call plan told change e w made e1 e2 e3 e4 = rw (e1, e2, e3, e4) refl

  -- a move of a board that is kept by its parts
  pub moves : (b : Board) (w : World) (made : ℕ) (places : List Place) (noted : Noted) (who : Who) (by : ℕ) (call : Call)
      → b ≡ board_of w made places noted
      → who ≡ mover limits by
      → Some call ≡ call_by k.given limits (record { world = w; places = place_at limits places }) by
      → planned k limits (board_of w made places noted) who call (plan_at w (made + 1) ample who call) ≡ after_board k limits b by
  moves b w made places noted who by call e1 e2 found = rw (e1, e2) (by_call (board_of w made places noted) by call (sym found))

  pub stays : (b : Board) (w : World) (made : ℕ) (places : List Place) (noted : Noted) (by : ℕ)
      → b ≡ board_of w made places noted
      → None ≡ call_by k.given limits (record { world = w; places = place_at limits places }) by
      → Nowhere ≡ after_board k limits b by
  stays b w made places noted by e none = rw e (by_none (board_of w made places noted) by (sym none))
