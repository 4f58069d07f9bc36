-- Orders and moves, one by one: what a search of boards answers is what there is to say of orders.
use Rattle.std.proofs.Common.{◌≡◌, ◌≢◌, ℕ, suc, ◌≤◌, List, [], ◌∷◌, ◌++◌, length, fold, refl, sym, ap, ◌∙◌, arith}
use Rattle.breadth_first.specs.Answers.{Answers}
use Rattle.breadth_first.specs.declared.Answer.{Answer}
use Rattle.breadth_first.specs.declared.Answer.TheVariants.{Bad as BadFor, GaveUp, None as NoneBad}
use Rattle.breadth_first.specs.declared.Next.{Next}
use Rattle.breadth_first.specs.declared.Next.TheVariants.{Nowhere, Bad, To}
use Rattle.breadth_first.specs.Rules.{goes_on, move_of}
use Rattle.tp_base.specs.declared.answers.Entry.{Entry}
use Rattle.tp_base.specs.declared.limits.Limits.{Limits}
use Rattle.tp_model.proofs.Sound.{opening_sound}
use Rattle.tp_explore.specs.Boards.{first_board, rules_of, Board}
use Rattle.tp_explore.specs.declared.fault.Fault.{Fault}
use Rattle.tp_explore.specs.Explored.{Explores, IsMadeFrom}
use Rattle.tp_explore.specs.Faults.{faults_from, faults_of}
use Rattle.tp_explore.specs.Noted.{nothing_noted, Noted}
use Rattle.tp_explore.specs.Scenes.{first_scene, scene_after, IsOrderFrom, Scene}
use Rattle.tp_explore.specs.Watched.{Watched}
use Rattle.tp_explore.proofs.BoardsRow.{first_in_row}
use Rattle.tp_explore.proofs.BoardsShown.{faults_by, noted_by, Comes, Shows}
use Rattle.tp_explore.proofs.BoardsTurns.{turn_moves, turning, Moves, Turn, Turned}

module _ (k : Watched) (limits : Limits) (key : Board → List ℕ) where
  -- what comes of moves behind what came before
  abbrev along : Next Board → List ℕ → Next Board
  along n moves = fold (goes_on (rules_of k limits key)) n moves

  -- ---- from an order to moves

  record Found (b : Board) (most : ℕ) : Type 0 where
    pub moves : List ℕ
    pub bad : along (To b) moves ≡ Bad
    pub few : length moves ≤ most

  moves_of : (s : Scene) (noted : Noted) (b : Board) (history : List Entry) → Shows k limits s noted b → IsOrderFrom k.given limits s history → faults_from k limits s noted history ≢ [] → Found b (length history)
  moves_of s noted b [] shows order bad = absurd (bad refl)
  moves_of s noted b (e ∷ rest) shows order bad =
      let moves : Moves k limits key s noted b shows e = turn_moves k limits key s noted b shows e order.0 in
      by_move moves.by (λ c onward more. moves_of (scene_after k.given s e) (noted_by k limits s noted e) c rest onward order.1 more) (move_of (rules_of k limits key) b moves.by) refl moves.comes
    where
      by_move : (by : ℕ) → ((c : Board) → Shows k limits (scene_after k.given s e) (noted_by k limits s noted e) c → faults_from k limits (scene_after k.given s e) (noted_by k limits s noted e) rest ≢ [] → Found c (length rest))
          → (came : Next Board) → move_of (rules_of k limits key) b by ≡ came → Comes k limits s noted e came → Found b (suc (length rest))
      by_move by go Nowhere is comes = absurd comes
      by_move by go Bad is comes = record { moves = by ∷ []; bad = is; few = omega arith }
      by_move by go (To c) is comes =
          let found : Found c (length rest) = go c comes.1 (λ none. bad (ap (λ fs. fs ++ faults_from k limits (scene_after k.given s e) (noted_by k limits s noted e) rest) comes.0 ∙ none)) in
          record { moves = by ∷ found.moves; bad = ap (λ n. along n found.moves) is ∙ found.bad; few = omega (arith, found.few) }

  -- ---- from moves to an order

  nowhere_on : (moves : List ℕ) → along Nowhere moves ≡ Nowhere
  nowhere_on [] = refl
  nowhere_on (by ∷ moves) = nowhere_on moves

  never_bad : (moves : List ℕ) → along Nowhere moves ≡ Bad → ⊥
  never_bad moves is = let wrong : Nowhere ≡ Bad = sym (nowhere_on moves) ∙ is in cc

  record Made (s : Scene) (noted : Noted) (moves : List ℕ) : Type 0 where
    pub history : List Entry
    pub order : IsOrderFrom k.given limits s history
    pub made : IsMadeFrom k.given limits s moves history
    pub bad : faults_from k limits s noted history ≢ []
    pub long : length history ≡ length moves

  only_last : (fs : List Fault) → fs ++ [] ≡ [] → fs ≡ []
  only_last [] none = refl
  only_last (f ∷ fs) none = absurd cc

  order_of : (s : Scene) (noted : Noted) (b : Board) (moves : List ℕ) → Shows k limits s noted b → along (To b) moves ≡ Bad → Made s noted moves
  order_of s noted b [] shows is = absurd (let wrong : To b ≡ Bad = is in cc)
  order_of s noted b (by ∷ moves) shows is = by_move (λ t more c onward. order_of t more c moves onward) (move_of (rules_of k limits key) b by) refl (turning k limits key s noted b shows by)
    where
      -- the moves end with the one that is bad
      last : (rest : List ℕ) → along Bad rest ≡ Bad → Turn k limits key s noted b shows by Bad → Made s noted (by ∷ rest)
      last [] end turned =
          record { history = turned.entry ∷ []; order = (turned.turn, tt); made = (turned.made, tt); bad = λ none. turned.comes (only_last (faults_by k limits s noted turned.entry) none); long = refl }
      last (more ∷ rest) end turned = absurd (never_bad rest end)

      by_move : ((t : Scene) (more : Noted) (c : Board) → Shows k limits t more c → along (To c) moves ≡ Bad → Made t more moves)
          → (came : Next Board) → move_of (rules_of k limits key) b by ≡ came → Turned k limits key s noted b shows by came → Made s noted (by ∷ moves)
      by_move go Nowhere same turned = absurd (never_bad moves (ap (λ n. along n moves) (sym same) ∙ is))
      by_move go Bad same turned = last moves (ap (λ n. along n moves) (sym same) ∙ is) turned
      by_move go (To c) same turned =
          let e : Entry = turned.entry in
          let found : Made (scene_after k.given s e) (noted_by k limits s noted e) moves = go (scene_after k.given s e) (noted_by k limits s noted e) c turned.comes.1 (ap (λ n. along n moves) (sym same) ∙ is) in
          record {
            history = e ∷ found.history;
            order = (turned.turn, found.order);
            made = (turned.made, found.made);
            bad = λ none. found.bad (sym (ap (λ fs. fs ++ faults_from k limits (scene_after k.given s e) (noted_by k limits s noted e) found.history) turned.comes.0) ∙ none);
            long = ap suc found.long;
          }

  -- ---- from the beginning

  first_shows : Shows k limits (first_scene limits) nothing_noted (first_board limits)
  first_shows = record {
    world = refl;
    made = refl;
    whole = opening_sound limits;
    row = first_in_row limits;
    noted_is = refl;
  }

  none_if : (fs : List Fault) → (fs ≢ [] → ⊥) → fs ≡ []
  none_if [] never = refl
  none_if (f ∷ fs) never = absurd (never (λ none. cc))

  pub searches_tell : (told : Answer) → Answers (rules_of k limits key) told → Explores k limits told
  searches_tell (NoneBad states) none = λ history order. none_if (faults_of k limits history) (λ bad.
      let found : Found (first_board limits) (length history) = moves_of (first_scene limits) nothing_noted (first_board limits) history first_shows order bad in
      none found.moves found.bad)
  searches_tell (GaveUp states deep) none = λ history order short. none_if (faults_of k limits history) (λ bad.
      let found : Found (first_board limits) (length history) = moves_of (first_scene limits) nothing_noted (first_board limits) history first_shows order bad in
      none found.moves (omega (arith, found.few, short)) found.bad)
  searches_tell (BadFor path) is =
      let made : Made (first_scene limits) nothing_noted path.items = order_of (first_scene limits) nothing_noted (first_board limits) path.items first_shows is.bad in (
        made.history,
        record {
          order = made.order;
          made = made.made;
          bad = made.bad;
          shortest = λ other order bad.
              let found : Found (first_board limits) (length other) = moves_of (first_scene limits) nothing_noted (first_board limits) other first_shows order bad in
              omega (arith, made.long, found.few, is.shortest found.moves found.bad);
        },
      )
