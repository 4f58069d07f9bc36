-- Of scenes that are alike the same orders come, with the same faults.
use mathlib.Core.Path.{fun_ext}
use Rattle.std.proofs.Common.{◌≡◌, List, [], ◌∷◌, ◌++◌, Contains, refl, sym, ap, ap₂, ◌∙◌, subst}
use Rattle.tp_base.specs.declared.answers.Entry.{Entry}
use Rattle.tp_base.specs.declared.answers.Outcome.TheVariants.{Done}
use Rattle.tp_base.specs.declared.ids.Who.{Who}
use Rattle.tp_base.specs.declared.limits.Limits.{Limits}
use Rattle.tp_model.proofs.Sound.{opening_sound}
use Rattle.part_places.specs.declared.place.Place.{Place}
use Rattle.part_places.specs.Places.{Given, place_after}
use Rattle.tp_explore.specs.declared.fault.Fault.{Fault}
use Rattle.tp_explore.specs.Alike.{AreAlike}
use Rattle.tp_explore.specs.Faults.{faults_between, faults_from, noted_between, shown}
use Rattle.tp_explore.specs.Noted.{Noted}
use Rattle.tp_explore.specs.Scenes.{first_scene, freely, has_turn, scene_after, scene_behind, scene_from, turns_at, with_place, IsOrder, IsOrderFrom, IsTurn, Scene}
use Rattle.tp_explore.specs.Watched.{Watched}
use Rattle.tp_explore.proofs.Freely.{freely_entered, freely_same, led_same, led_whole, IsWhole, SameLiving}

-- ---- along an order each world is whole

pub turn_whole : (g : Given) (limits : Limits) (s : Scene) (e : Entry) → IsWhole s.world → IsTurn g limits s e → IsWhole (scene_after g s e).world
turn_whole g limits s e whole turn = led_whole s.world e whole (freely_entered s.world e whole turn.answers)

pub order_whole : (g : Given) (limits : Limits) (s : Scene) (history : List Entry) → IsWhole s.world → IsOrderFrom g limits s history → IsWhole (scene_from g s history).world
order_whole g limits s [] whole order = whole
order_whole g limits s (e ∷ rest) whole order = order_whole g limits (scene_after g s e) rest (turn_whole g limits s e whole order.0) order.1

pub behind_whole : (g : Given) (limits : Limits) (history : List Entry) → IsOrder g limits history → IsWhole (scene_behind g limits history).world
behind_whole g limits history order = order_whole g limits (first_scene limits) history (opening_sound limits) order

-- ---- orders behind orders

pub order_append : (g : Given) (limits : Limits) (s : Scene) (before more : List Entry) → IsOrderFrom g limits s before → IsOrderFrom g limits (scene_from g s before) more → IsOrderFrom g limits s (before ++ more)
order_append g limits s [] more first rest = rest
order_append g limits s (e ∷ before) more first rest = (first.0, order_append g limits (scene_after g s e) before more first.1 rest)

pub order_split : (g : Given) (limits : Limits) (s : Scene) (before more : List Entry) → IsOrderFrom g limits s (before ++ more) → IsOrderFrom g limits s before × IsOrderFrom g limits (scene_from g s before) more
order_split g limits s [] more order = (tt, order)
order_split g limits s (e ∷ before) more order =
    let rest = order_split g limits (scene_after g s e) before more order.1 in
    ((order.0, rest.0), rest.1)

-- ---- alike

module _ (s t : Scene) (alike : AreAlike s t) where
  pub places_same : s.places ≡ t.places
  places_same = fun_ext alike.places

  pub living : SameLiving s.world t.world
  living = record { worlds = alike.worlds; counts = alike.counts }

  pub shown_same : shown s ≡ shown t
  shown_same = ap₂ (λ w (places : Who → Place). record { world = w; places = places }) alike.worlds places_same

module _ (g : Given) (limits : Limits) (s t : Scene) (e : Entry) (whole_s : IsWhole s.world) (whole_t : IsWhole t.world) (alike : AreAlike s t) where
  pub after_alike : freely s.world e.who e.call ≡ Done e.answer → AreAlike (scene_after g s e) (scene_after g t e)
  after_alike answers =
      let led : SameLiving _ _ = led_same s.world t.world whole_s whole_t (living s t alike) e answers in
      record {
        worlds = led.worlds;
        counts = led.counts;
        places = λ who. ap (λ (places : Who → Place). with_place places e.who (place_after g e.who (places e.who) e.call e.answer) who) (places_same s t alike);
      }

  pub turn_alike : IsTurn g limits s e → IsTurn g limits t e
  turn_alike turn =
      record {
        actor = turn.actor;
        turn = ap (λ (places : Who → Place). has_turn (record { world = t.world; places = places }) e.who) (sym (places_same s t alike)) ∙ turn.turn;
        due = subst (λ (p : Place). Contains (turns_at g e.who p) e.call) (alike.places e.who) turn.due;
        answers = sym (freely_same s.world t.world whole_s whole_t (living s t alike) e.who e.call) ∙ turn.answers;
      }

module _ (k : Watched) (limits : Limits) where
  pub orders_alike : (s t : Scene) (more : List Entry) → IsWhole s.world → IsWhole t.world → AreAlike s t → IsOrderFrom k.given limits s more → IsOrderFrom k.given limits t more
  orders_alike s t [] whole_s whole_t alike order = tt
  orders_alike s t (e ∷ rest) whole_s whole_t alike order =
      let turn : IsTurn k.given limits t e = turn_alike k.given limits s t e whole_s whole_t alike order.0 in (
        turn,
        orders_alike (scene_after k.given s e) (scene_after k.given t e) rest (turn_whole k.given limits s e whole_s order.0) (turn_whole k.given limits t e whole_t turn)
            (after_alike k.given limits s t e whole_s whole_t alike order.0.answers) order.1,
      )

  pub faults_alike : (s t : Scene) (noted : Noted) (more : List Entry) → IsWhole s.world → IsWhole t.world → AreAlike s t → IsOrderFrom k.given limits s more → faults_from k limits s noted more ≡ faults_from k limits t noted more
  faults_alike s t noted [] whole_s whole_t alike order = refl
  faults_alike s t noted (e ∷ rest) whole_s whole_t alike order =
      let turn : IsTurn k.given limits t e = turn_alike k.given limits s t e whole_s whole_t alike order.0 in
      let next : AreAlike (scene_after k.given s e) (scene_after k.given t e) = after_alike k.given limits s t e whole_s whole_t alike order.0.answers in
      let here : shown s ≡ shown t = shown_same s t alike in
      let there : shown (scene_after k.given s e) ≡ shown (scene_after k.given t e) = shown_same (scene_after k.given s e) (scene_after k.given t e) next in
      let noted_same : noted_between k limits (shown s) (shown (scene_after k.given s e)) noted e ≡ noted_between k limits (shown t) (shown (scene_after k.given t e)) noted e
      = ap₂ (λ a b. noted_between k limits a b noted e) here there in
      ap₂ (λ (xs ys : List Fault). xs ++ ys)
      (ap₂ (λ a b. faults_between k limits a b noted e) here there)
      (
      faults_alike (scene_after k.given s e) (scene_after k.given t e) (noted_between k limits (shown s) (shown (scene_after k.given s e)) noted e) rest
      (turn_whole k.given limits s e whole_s order.0) (turn_whole k.given limits t e whole_t turn) next order.1
      ∙ ap (λ n. faults_from k limits (scene_after k.given t e) n rest) noted_same
      )

-- ---- behind orders

pub forgets_orders : (k : Watched) (limits : Limits) (before other more : List Entry) → IsOrder k.given limits before → IsOrder k.given limits other → AreAlike (scene_behind k.given limits before) (scene_behind k.given limits other) → IsOrder k.given limits (before ++ more) → IsOrder k.given limits (other ++ more)
forgets_orders k limits before other more first second alike order =
    order_append k.given limits (first_scene limits) other more second
    (orders_alike k limits (scene_behind k.given limits before) (scene_behind k.given limits other) more (behind_whole k.given limits before first) (behind_whole k.given limits other second) alike
    (order_split k.given limits (first_scene limits) before more order).1)

pub forgets_faults : (k : Watched) (limits : Limits) (noted : Noted) (before other more : List Entry) → IsOrder k.given limits before → IsOrder k.given limits other → AreAlike (scene_behind k.given limits before) (scene_behind k.given limits other) → IsOrder k.given limits (before ++ more)
    → faults_from k limits (scene_behind k.given limits before) noted more ≡ faults_from k limits (scene_behind k.given limits other) noted more
forgets_faults k limits noted before other more first second alike order =
    faults_alike k limits (scene_behind k.given limits before) (scene_behind k.given limits other) noted more (behind_whole k.given limits before first) (behind_whole k.given limits other second) alike
    (order_split k.given limits (first_scene limits) before more order).1
