-- What a board shows of a scene, and what comes of an entry.
use Rattle.std.proofs.Common.{◌≡◌, ◌≢◌, ℕ, ◌+◌, true, false, List, [], ◌∷◌, length, sym, ap, ◌∙◌, subst}
use Rattle.breadth_first.specs.declared.Next.{Next}
use Rattle.breadth_first.specs.declared.Next.TheVariants.{Nowhere, Bad, To}
use Rattle.tp_base.specs.declared.answers.Answer.TheVariants as answer
use Rattle.tp_base.specs.declared.answers.Entry.{Entry}
use Rattle.tp_base.specs.declared.answers.Outcome.TheVariants.{Done}
use Rattle.tp_base.specs.declared.limits.Limits.{Limits}
use Rattle.tp_base.specs.declared.plans.Plan.{Plan}
use Rattle.tp_base.specs.declared.plans.Plan.TheVariants.{Does, Looked, Refused}
use Rattle.tp_model.specs.Changes.{changed}
use Rattle.tp_model.specs.History.{is_refusal, led_to}
use Rattle.tp_model.specs.Stages.{IsActor}
use Rattle.tp_model.specs.Step.{outcome_of, stepped}
use Rattle.tp_model.specs.Support.Allowed.{news}
use Rattle.tp_model.specs.Support.Remembered.{forget}
use Rattle.tp_model.specs.Support.Safe.{IsSafeChange}
use Rattle.tp_model.specs.Table.{plan}
use Rattle.tp_model.specs.World.{World}
use Rattle.tp_model.proofs.Entries.{next_number_in, Accepts, Entered, Refuses}
use Rattle.tp_model.proofs.Forgetting.{changed_forget}
use Rattle.tp_model.proofs.Growing.{grows}
use Rattle.tp_model.proofs.Steps.{plan_allowed}
use Rattle.part_places.specs.declared.place.Place.{Place}
use Rattle.tp_explore.specs.Boards.{board_behind, moved, place_at, planned, scene_of, to_board, Board}
use Rattle.tp_explore.specs.declared.fault.Fault.{Fault}
use Rattle.tp_explore.specs.Faults.{faults_between, noted_between, shown}
use Rattle.tp_explore.specs.Noted.{Noted}
use Rattle.tp_explore.specs.Rows.{AreInRow}
use Rattle.tp_explore.specs.Scenes.{ample, has_turn, scene_after, Scene}
use Rattle.tp_explore.specs.Watched.{Watched}
use Rattle.tp_explore.proofs.BoardsRow.{at_behind, in_row_behind}
use Rattle.tp_explore.proofs.Freely.{freely_entered, led_whole, IsWhole}

module _ (k : Watched) (limits : Limits) where
  -- the board is what is kept of the scene and of what was noted
  pub record Shows (s : Scene) (noted : Noted) (b : Board) : Type 0 where
    pub world : b.world ≡ forget s.world
    pub made : b.made ≡ length s.world.callbacks
    pub whole : IsWhole s.world
    pub row : AreInRow limits s b.places
    pub noted_is : b.noted ≡ noted

  -- what is noted behind an entry, and the faults that it brings
  abbrev pub noted_by : Scene → Noted → Entry → Noted
  noted_by s noted e = noted_between k limits (shown s) (shown (scene_after k.given s e)) noted e

  abbrev pub faults_by : Scene → Noted → Entry → List Fault
  faults_by s noted e = faults_between k limits (shown s) (shown (scene_after k.given s e)) noted e

  -- what comes of an entry: the board that shows the scene behind it, unless it brings faults
  abbrev pub Comes : Scene → Noted → Entry → Next Board → Type 0
  Comes s noted e Nowhere = ⊥
  Comes s noted e Bad = faults_by s noted e ≢ []
  Comes s noted e (To b) = (faults_by s noted e ≡ []) × Shows (scene_after k.given s e) (noted_by s noted e) b

  module _ (s : Scene) (noted : Noted) (b : Board) (shows : Shows s noted b) (e : Entry) (actor : IsActor limits e.who) (turn : has_turn s e.who ≡ true) where
    module _ (w : World) (made : ℕ) (is : w ≡ forget (led_to s.world e)) (counts : made ≡ length (led_to s.world e).callbacks) (whole : IsWhole (led_to s.world e)) where
      abbrev next : Board
      next = board_behind k limits b e w made

      abbrev behind : Scene
      behind = scene_after k.given s e

      before : place_at limits b.places e.who ≡ s.places e.who
      before = shows.row.at e.who actor

      after : place_at limits next.places e.who ≡ behind.places e.who
      after = at_behind k.given limits s b.places shows.row e actor turn e.who actor

      abbrev noted_with : Place → Place → Noted → Noted
      noted_with p q n = noted_between k limits (record { world = w; places = λ who. p }) (record { world = w; places = λ who. q }) n e

      abbrev faults_with : World → Place → Place → Noted → List Fault
      faults_with v p q n = faults_between k limits (record { world = v; places = λ who. p }) (record { world = v; places = λ who. q }) n e

      noted_same : next.noted ≡ noted_by s noted e
      noted_same =
          ap (λ p. noted_with p (place_at limits next.places e.who) b.noted) before
          ∙ ap (λ q. noted_with (s.places e.who) q b.noted) after
          ∙ ap (λ n. noted_with (s.places e.who) (behind.places e.who) n) shows.noted_is

      faults_same : faults_between k limits (scene_of limits b) (scene_of limits next) b.noted e ≡ faults_by s noted e
      faults_same =
          ap (λ v. faults_with v (place_at limits b.places e.who) (place_at limits next.places e.who) b.noted) is
          ∙ ap (λ p. faults_with (forget behind.world) p (place_at limits next.places e.who) b.noted) before
          ∙ ap (λ q. faults_with (forget behind.world) (s.places e.who) q b.noted) after
          ∙ ap (λ n. faults_with (forget behind.world) (s.places e.who) (behind.places e.who) n) shows.noted_is

      shows_next : Shows behind (noted_by s noted e) next
      shows_next = record {
        world = is;
        made = counts;
        whole = whole;
        row = in_row_behind k.given limits s b.places shows.row e actor turn;
        noted_is = noted_same;
      }

      moved_comes : Comes s noted e (moved k limits b e w made)
      moved_comes = of_faults (faults_between k limits (scene_of limits b) (scene_of limits next) b.noted e) faults_same
        where
          of_faults : (fs : List Fault) → fs ≡ faults_by s noted e → Comes s noted e (to_board k limits next fs)
          of_faults [] same = (sym same, shows_next)
          of_faults (f ∷ fs) same = λ none. let wrong : f ∷ fs ≡ [] = same ∙ none in cc

    -- what comes of the plan of the entry's call
    pub planned_comes : (p : Plan) → plan s.world ample e.who e.call ≡ p → outcome_of (stepped s.world p) ≡ Done e.answer → Comes s noted e (planned k limits b e.who e.call p)
    planned_comes p is says = of_entry p is says entered
      where
        entered : Entered s.world ample e
        entered = freely_entered s.world e shows.whole (ap (λ x. outcome_of (stepped s.world x)) is ∙ says)

        whole : IsWhole (led_to s.world e)
        whole = led_whole s.world e shows.whole entered

        of_entry : (p : Plan) → plan s.world ample e.who e.call ≡ p → outcome_of (stepped s.world p) ≡ Done e.answer → Entered s.world ample e → Comes s noted e (planned k limits b e.who e.call p)
        of_entry (Looked look) plans answers entry = absurd cc
        of_entry (Refused refusal) plans answers (Accepts a) = let wrong : Refused refusal ≡ Does e.answer a.change = sym plans ∙ a.plan_is in absurd cc
        of_entry (Refused refusal) plans answers (Refuses other told stays) =
            let same : e.answer ≡ answer.Refused refusal = cc in
            subst (λ x. Comes s noted e (moved k limits b (record { who = e.who; call = e.call; answer = x }) b.world b.made)) same
            (moved_comes b.world b.made (shows.world ∙ ap forget (sym stays)) (shows.made ∙ ap (λ (v : World). length v.callbacks) (sym stays)) whole)
        of_entry (Does told ch) plans answers (Refuses refusal refuses stays) =
            let safe : IsSafeChange (next_number_in s.world) s.world e.who e.call told ch = plan_allowed (next_number_in s.world) ample s.world e.who e.call told ch shows.whole plans in
            let same : told ≡ answer.Refused refusal = cc in
            let wrong : false ≡ true = sym safe.accepted ∙ ap is_refusal same in
            absurd cc
        of_entry (Does told ch) plans answers (Accepts a) =
            let same : Does e.answer a.change ≡ Does told ch = sym a.plan_is ∙ plans in
            subst (λ x. Comes s noted e (planned k limits b e.who e.call x)) same
            (
            moved_comes (forget (changed b.world a.change)) (b.made + news a.change)
            (ap (λ u. forget (changed u a.change)) shows.world ∙ changed_forget (next_number_in s.world) s.world a.change shows.whole a.safe.allowed ∙ ap forget (sym a.leads))
            (ap (λ n. n + news a.change) shows.made ∙ sym (grows (next_number_in s.world) s.world a.change a.safe.allowed) ∙ ap (λ (v : World). length v.callbacks) (sym a.leads)) whole
            )
