-- Boards that differ in which worker is which move alike.
use mathlib.Core.Path.{fun_ext}
use Rattle.std.proofs.Common.{◌≡◌, ℕ, ◌+◌, ◌-◌, ◌%◌, ◌<◌, Bool, true, false, cond, nat_lt, List, [], ◌∷◌, ◌++◌, length, map, fold, slice_get, slice_set, Option, None, Some, refl, sym, ap, ap₂, ◌∙◌, subst, filter, length-set, arith}
use Rattle.std.proofs.lemmas.Bool.{ltb-true, lt-ltb}
use Rattle.std.proofs.lemmas.List.{length-map}
use Rattle.breadth_first.specs.declared.Next.{Next}
use Rattle.breadth_first.specs.declared.Next.TheVariants.{Nowhere, Bad, To}
use Rattle.breadth_first.specs.Rules.{move_of, HasLike, Keeps, Rules}
use Rattle.tp_base.specs.declared.answers.Answer.TheVariants as answer
use Rattle.tp_base.specs.declared.answers.Entry.{Entry}
use Rattle.tp_base.specs.declared.calls.Call.{Call}
use Rattle.tp_base.specs.declared.ids.Who.{Who}
use Rattle.tp_base.specs.declared.limits.Limits.{Limits}
use Rattle.tp_base.specs.declared.plans.Change.{Change}
use Rattle.tp_base.specs.declared.plans.Change.TheVariants as change
use Rattle.tp_base.specs.declared.plans.Plan.{Plan}
use Rattle.tp_base.specs.declared.plans.Plan.TheVariants.{Does, Looked, Refused}
use Rattle.tp_base.specs.declared.rows.CallbackRow.{CallbackRow}
use Rattle.tp_base.specs.declared.rows.ObjectRow.{ObjectRow}
use Rattle.tp_base.specs.declared.rows.PoolRow.{PoolRow}
use Rattle.tp_model.specs.Changes.{changed, change_pool, release_object}
use Rattle.tp_model.specs.Counts.{has_number, is_live, numbered}
use Rattle.tp_model.specs.Stages.{IsActor}
use Rattle.tp_model.specs.Support.Allowed.{news}
use Rattle.tp_model.specs.Support.Remembered.{forget, lives}
use Rattle.tp_model.specs.Table.{plan_at}
use Rattle.tp_model.specs.World.{World}
use Rattle.part_places.specs.declared.place.Place.{Place}
use Rattle.part_places.specs.Places.{place_after}
use Rattle.renamed_worlds.specs.Closed.{closed, further, place_of, tidied}
use Rattle.renamed_worlds.specs.Exchanged.{exchanged, exchanged_callback, exchanged_change, exchanged_plan, exchanged_rows, exchanged_who}
use Rattle.renamed_worlds.specs.Renamed.{renamed_worker}
use Rattle.renamed_worlds.proofs.Exchange.Changes.{changed_exchanged}
use Rattle.renamed_worlds.proofs.Exchange.Closing.{closed_exchanged}
use Rattle.renamed_worlds.proofs.Exchange.Plans.{plan_exchanged}
use Rattle.renamed_worlds.proofs.Exchange.Queries.{status_same}
use Rattle.renamed_worlds.proofs.Mapped.{filter_map}
use Rattle.tp_explore.specs.Movers.{mover_acts, row_length}
use Rattle.tp_explore.specs.Boards.{after_board, board_behind, called, mover, moved, place_at, place_in_row, planned, scene_of, to_board, turn_in, width_of, Board}
use Rattle.tp_explore.specs.Closing.{after_closed, closed_board, closed_came, closed_name, named_row, rules_of_closed}
use Rattle.tp_explore.specs.declared.fault.Fault.{Fault}
use Rattle.tp_explore.specs.Exchanging.{exchanged_by, exchanged_entry, AreAlong, AreExchanged, AreLike, IsNotedAlike}
use Rattle.tp_explore.specs.Faults.{answer_faults, behind, deed_faults, deeds, faults_between, left_faults, noted_at}
use Rattle.tp_explore.specs.Noted.{Noted}
use Rattle.tp_explore.specs.Scenes.{ample}
use Rattle.tp_explore.specs.Watched.{Watched}
use Rattle.tp_explore.specs.Like.Faults.{faults_alike, noted_alike}
use Rattle.tp_explore.specs.Like.Plans.{plan_by_worker, IsPlanByWorker}
use Rattle.tp_explore.specs.Like.Rows.{after_exchanged, at_exchanged, mover_exchanged, named_exchanged, second_exchanged, set_exchanged_at, turn_exchanged, within_exchanged}

-- ---- worlds

-- no change makes a worker
workers_kept : (w : World) (how : Change) → length (changed w how).workers ≡ length w.workers
workers_kept w (change.ChangePool pool how) = of_pool (slice_get w.pools pool.0)
  where
    of_pool : (o : Option PoolRow) → length (change_pool w pool.0 how o).workers ≡ length w.workers
    of_pool None = refl
    of_pool (Some row) = refl
workers_kept w (change.ReleaseObject object) = of_object (numbered w.objects object.0)
  where
    of_object : (o : Option ObjectRow) → length (release_object w object o).workers ≡ length w.workers
    of_object None = refl
    of_object (Some row) = refl
workers_kept w (change.Attach worker pool) = length-set w.workers (worker - 1) _
workers_kept w (change.Detach by) = length-set w.workers (by.worker - 1) _
workers_kept w (change.Take by callback) = length-set w.workers (by.worker - 1) _
workers_kept w (change.Return by words first count) = length-set w.workers (by.worker - 1) _
workers_kept w _ = refl

module _ (at : ℕ) where
  news_exchanged : (how : Change) → news (exchanged_change at how) ≡ news how
  news_exchanged (change.Return by words first count) = refl
  news_exchanged _ = refl

  living_exchanged : (cs : List CallbackRow) → filter lives (map (exchanged_callback at) cs) ≡ map (exchanged_callback at) (filter lives cs)
  living_exchanged cs = filter_map (exchanged_callback at) lives lives (λ c. status_same at is_live (λ _ _ _. refl) c.status) cs

  forget_exchanged : (w : World) → forget (exchanged at w) ≡ exchanged at (forget w)
  forget_exchanged w = ap (λ (cs : List CallbackRow). record (exchanged at w) { callbacks = cs }) (living_exchanged w.callbacks)

  name_exchanged : (w : World) → closed_name (exchanged at w) ≡ closed_name w
  name_exchanged w = ap place_of (living_exchanged w.callbacks) ∙ fun_ext (places (filter lives w.callbacks))
    where
      places : (cs : List CallbackRow) (number : ℕ) → place_of (map (exchanged_callback at) cs) number ≡ place_of cs number
      places [] number = refl
      places (c ∷ cs) number = ap (λ place. cond (has_number number c) 1 (further place)) (places cs number)

-- ---- boards behind moves

module _ (k : Watched) (limits : Limits) (at : ℕ) where
  -- what comes of a move of the one board, and of a move of the other
  abbrev AreCome : Next Board → Next Board → Type 0
  AreCome Nowhere y = y ≡ Nowhere
  AreCome Bad y = y ≡ Bad
  AreCome (To u) y = (v : Board) × (y ≡ To v) × AreExchanged limits at u v

  closed_alike : (b c : Board) → AreExchanged limits at b c → AreExchanged limits at (closed_board limits b) (closed_board limits c)
  closed_alike b c e =
      let fits : at + 1 < length b.world.workers = omega (arith, e.workers, e.rows) in
      record {
        client = e.client;
        workers = e.workers;
        rows = length-map b.world.workers (renamed_worker (place_of (tidied b.world).callbacks)) ∙ e.rows;
        count = row_length limits (closed_name b.world) 0 b.places ∙ e.count;
        world = ap closed e.world ∙ closed_exchanged at b.world fits;
        made = ap (λ (w : World). length (forget w).callbacks) e.world ∙ ap length (living_exchanged at b.world.callbacks) ∙ length-map (filter lives b.world.callbacks) (exchanged_callback at);
        places =
            ap₂ (λ name ps. named_row limits name 0 ps) (ap closed_name e.world ∙ name_exchanged at b.world) e.places
            ∙ named_exchanged limits (closed_name b.world) 0 (limits.clients + at) b.places (omega arith);
        noted = e.noted;
      }

  closed_come : (x y : Next Board) → AreCome x y → AreCome (closed_came limits x) (closed_came limits y)
  closed_come Nowhere y is = ap (closed_came limits) is
  closed_come Bad y is = ap (closed_came limits) is
  closed_come (To u) y (v, is, e) = (closed_board limits v, ap (closed_came limits) is, closed_alike u v e)

  come_to : (x y z : Next Board) → z ≡ y → AreCome x y → AreCome x z
  come_to x y z same is = subst (AreCome x) (sym same) is

  module _ (b c : Board) (ex : AreExchanged limits at b c) where
    fits : at + 1 < length b.world.workers
    fits = omega (arith, ex.workers, ex.rows)

    -- ---- behind an entry

    module _ (e : Entry) (acts : IsActor limits e.who) (w : World) (made : ℕ) (rows : length w.workers ≡ limits.workers) where
      abbrev other : Who
      other = exchanged_who at e.who

      abbrev f : Entry
      f = exchanged_entry at e

      abbrev next_b : Board
      next_b = board_behind k limits b e w made

      abbrev next_c : Board
      next_c = board_behind k limits c f (exchanged at w) made

      abbrev p : Place
      p = place_at limits b.places e.who

      abbrev q : Place
      q = place_at limits next_b.places e.who

      before_is : place_at limits c.places other ≡ p
      before_is = ap (λ ps. place_at limits ps other) ex.places ∙ at_exchanged at limits ex.workers b.places ex.count e.who acts

      count_next : length next_b.places ≡ limits.clients + limits.workers
      count_next = length-set b.places (place_in_row limits e.who) (place_after k.given e.who p e.call e.answer) ∙ ex.count

      places_next : next_c.places ≡ exchanged_rows (limits.clients + at) next_b.places
      places_next =
          ap₂ (λ ps r. slice_set ps (place_in_row limits other) (place_after k.given other r e.call e.answer)) ex.places before_is
          ∙ ap (slice_set (exchanged_rows (limits.clients + at) b.places) (place_in_row limits other)) (after_exchanged at k.given e.who p e.call e.answer)
          ∙ set_exchanged_at at limits ex.workers b.places ex.count e.who (place_after k.given e.who p e.call e.answer) acts

      after_is : place_at limits next_c.places other ≡ q
      after_is = ap (λ ps. place_at limits ps other) places_next ∙ at_exchanged at limits ex.workers next_b.places count_next e.who acts

      abbrev noted_from : Place → Place → Noted
      noted_from before after = fold behind (noted_at k c.noted before after f) (deeds k limits before after f)

      noted_next : IsNotedAlike at next_b.noted next_c.noted
      noted_next = subst (IsNotedAlike at next_b.noted) (sym (ap₂ noted_from before_is after_is)) (noted_alike k limits at b.noted c.noted ex.noted p q e)

      abbrev faults_from : Place → Place → List Fault
      faults_from before after =
          filter k.wants
          (answer_faults k c.noted (exchanged at w) other before e.answer ++ deed_faults (exchanged at w) (noted_at k c.noted before after f) (deeds k limits before after f) ++ left_faults (exchanged at w) (noted_from before after).lines)

      faults_next : faults_between k limits (scene_of limits c) (scene_of limits next_c) c.noted f ≡ faults_between k limits (scene_of limits b) (scene_of limits next_b) b.noted e
      faults_next = ap₂ faults_from before_is after_is ∙ faults_alike k limits at w b.noted c.noted ex.noted p q e

      next_alike : AreExchanged limits at next_b next_c
      next_alike = record { client = ex.client; workers = ex.workers; rows = rows; count = count_next; world = refl; made = refl; places = places_next; noted = noted_next }

      moved_alike : AreCome (moved k limits b e w made) (moved k limits c f (exchanged at w) made)
      moved_alike = of_faults (faults_between k limits (scene_of limits b) (scene_of limits next_b) b.noted e) _ faults_next
        where
          of_faults : (fs gs : List Fault) → gs ≡ fs → AreCome (to_board k limits next_b fs) (to_board k limits next_c gs)
          of_faults [] gs same = (next_c, ap (to_board k limits next_c) same, next_alike)
          of_faults (fault ∷ fs) gs same = ap (to_board k limits next_c) same

    -- ---- moves

    module _ (who : Who) (acts : IsActor limits who) where
      abbrev by_other : Who
      by_other = exchanged_who at who

      of_plan : (made : Call) (x : Plan) → IsPlanByWorker x → AreCome (planned k limits b who made x) (planned k limits c by_other made (exchanged_plan at x))
      of_plan made (Looked look) by = refl
      of_plan made (Refused refusal) by =
          come_to _ _ _ (ap₂ (moved k limits c (record { who = by_other; call = made; answer = answer.Refused refusal })) ex.world ex.made)
          (moved_alike (record { who = who; call = made; answer = answer.Refused refusal }) acts b.world b.made ex.rows)
      of_plan made (Does told how) by =
          come_to _ _ _
          (
          ap₂ (moved k limits c (record { who = by_other; call = made; answer = told }))
          (ap (λ w. forget (changed w (exchanged_change at how))) ex.world ∙ ap forget (changed_exchanged at b.world fits how by) ∙ forget_exchanged at (changed b.world how))
          (ap₂ (λ m n. m + n) ex.made (news_exchanged at how))
          )
          (moved_alike (record { who = who; call = made; answer = told }) acts (forget (changed b.world how)) (b.made + news how) (workers_kept b.world how ∙ ex.rows))

      call_alike : (o : Option Call) → AreCome (called k limits b who o) (called k limits c by_other o)
      call_alike None = refl
      call_alike (Some made) =
          come_to _ _ _
          (ap (planned k limits c by_other made) (ap₂ (λ w n. plan_at w (n + 1) ample by_other made) ex.world ex.made ∙ plan_exchanged at b.world fits (b.made + 1) ample who made))
          (of_plan made (plan_at b.world (b.made + 1) ample who made) (plan_by_worker limits b.world (b.made + 1) ample who acts made))

      turn_is : (number : ℕ) → turn_in k.given (scene_of limits c) by_other number ≡ turn_in k.given (scene_of limits b) who number
      turn_is number =
          ap (λ ps. turn_in k.given (record { world = c.world; places = place_at limits ps }) by_other number) ex.places
          ∙ turn_exchanged at limits ex.workers b.places ex.count ex.client k.given c.world b.world who number acts

    after_alike : (by : ℕ) → by < width_of limits → AreCome (after_board k limits b by) (after_board k limits c (exchanged_by limits at by))
    after_alike by within =
        let acts : IsActor limits (mover limits by) = mover_acts limits by within in
        come_to _ _ _
        (
        ap₂ (λ who number. called k limits c who (turn_in k.given (scene_of limits c) who number)) (mover_exchanged at limits ex.workers by within) (second_exchanged at limits ex.workers by within)
        ∙ ap (called k limits c (exchanged_who at (mover limits by))) (turn_is (mover limits by) acts (by % 2))
        )
        (call_alike (mover limits by) acts (turn_in k.given (scene_of limits b) (mover limits by) (by % 2)))

    -- ---- moves of closed boards

    module _ (key : Board → List ℕ) where
      move_alike : (by : ℕ) → (other : ℕ) × AreCome (move_of (rules_of_closed k limits key) b by) (move_of (rules_of_closed k limits key) c other)
      move_alike by = of_width (nat_lt by (width_of limits)) refl
        where
          of_width : (t : Bool) → nat_lt by (width_of limits) ≡ t → (other : ℕ) × AreCome (cond t (after_closed k limits b by) Nowhere) (move_of (rules_of_closed k limits key) c other)
          of_width false past = (by, ap (λ t. cond t (after_closed k limits c by) Nowhere) past)
          of_width true is =
              let within : by < width_of limits = ltb-true by (width_of limits) is in
              let there : nat_lt (exchanged_by limits at by) (width_of limits) ≡ true = lt-ltb (exchanged_by limits at by) (width_of limits) (within_exchanged at limits ex.workers by within) in
              (exchanged_by limits at by, come_to _ _ _ (ap (λ t. cond t (after_closed k limits c (exchanged_by limits at by)) Nowhere) there) (closed_come _ _ (after_alike by within)))

-- ---- one exchange after another

pub like_itself : (limits : Limits) (b : Board) → AreLike limits b b
like_itself limits b = ([], refl)

module _ (k : Watched) (limits : Limits) (key : Board → List ℕ) where
  abbrev rules : Rules Board
  rules = rules_of_closed k limits key

  abbrev Has : Board → Next Board → Type 0
  Has = HasLike rules (AreLike limits)

  itself : (b : Board) (by : ℕ) (next : Next Board) → move_of rules b by ≡ next → Has b next
  itself b by Nowhere is = tt
  itself b by Bad is = (by, is)
  itself b by (To u) is = (by, u, is, like_itself limits u)

  -- what has its like behind the other exchanges has it behind this one too
  behind_one : (at : ℕ) (c : Board) (x y : Next Board) → AreCome k limits at x y → Has c y → Has c x
  behind_one at c Nowhere y is has = tt
  behind_one at c Bad y is has = subst (Has c) is has
  behind_one at c (To u) y (v, is, ex) has = of_like (subst (Has c) is has)
    where
      of_like : Has c (To v) → Has c (To u)
      of_like (by, t, comes, (ats, along)) = (by, t, comes, (at ∷ ats, (v, ex, along)))

  keeps_along : (ats : List ℕ) (b c : Board) (by : ℕ) → AreAlong limits ats b c → Keeps rules (AreLike limits) b c by
  keeps_along [] b c by same = subst (λ t. Has t (move_of rules b by)) same (itself b by (move_of rules b by) refl)
  keeps_along (at ∷ ats) b c by (m, ex, along) =
      let alike : (o : ℕ) × AreCome k limits at (move_of rules b by) (move_of rules m o) = move_alike k limits at b m ex key by in
      behind_one at c (move_of rules b by) (move_of rules m alike.0) alike.1 (keeps_along ats m c alike.0 along)

  pub keeps_like : (b c : Board) (by : ℕ) → AreLike limits b c → Keeps rules (AreLike limits) b c by
  keeps_like b c by (ats, along) = keeps_along ats b c by along
