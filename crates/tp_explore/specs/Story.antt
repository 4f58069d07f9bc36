-- What a history tells besides its entries: its faults and the marks that took place, at their entries, and who waited where it
-- stalled. It is told of any history, whether its room was short or not.
use Rattle.std.specs.Prelude.{ℕ, ◌+◌, Bool, true, false, List, [], ◌∷◌, ◌++◌, map, if◌then◌else◌}
use Rattle.std.specs.List.{flat_map}
use Rattle.tp_base.specs.declared.answers.Answer.{Answer}
use Rattle.tp_base.specs.declared.answers.Answer.TheVariants.{Stalled}
use Rattle.tp_base.specs.declared.answers.Entry.{Entry}
use Rattle.tp_base.specs.declared.ids.Who.{Who}
use Rattle.tp_base.specs.declared.limits.Limits.{Limits}
use Rattle.tp_model.specs.Conditions.{is_in_wait}
use Rattle.tp_explore.specs.Boards.{actors}
use Rattle.tp_explore.specs.declared.fault.Fault.{Fault}
use Rattle.tp_explore.specs.declared.mark.Deed.{Deed}
pub use Rattle.tp_explore.specs.declared.told.Begun.{Begun}
pub use Rattle.tp_explore.specs.declared.told.Happened.{Happened}
pub use Rattle.tp_explore.specs.declared.told.Told.{Told}
use Rattle.tp_explore.specs.Faults.{deeds, faults_between, line_at, noted_between, shown}
use Rattle.tp_explore.specs.Noted.{Noted, nothing_noted}
use Rattle.tp_explore.specs.Scenes.{Scene, first_scene, scene_after}
use Rattle.tp_explore.specs.Watched.{Watched}

-- a fault of an entry, and a mark that took place with it
abbrev pub told : ℕ → Who → Fault → Told
told number who fault = record { entry = number; who = who; fault = fault }

abbrev pub happened : ℕ → Deed → Happened
happened number d = record { entry = number; who = d.who; line = d.marked.line }

abbrev pub begun : Who → ℕ → Begun
begun who line = record { who = who; line = line }

abbrev pub is_stall : Answer → Bool
is_stall Stalled = true
is_stall _ = false

-- the wait of an actor, if one is begun, at the line of its operation
abbrev pub begun_by : Watched → Scene → Who → List Begun
begun_by k s who = if is_in_wait s.world who then begun who (line_at k who (s.places who)) ∷ [] else []

module _ (k : Watched) (limits : Limits) where
  -- ---- the faults of a history, which are numbered from 1 as its entries are

  abbrev pub told_from : Scene → Noted → ℕ → List Entry → List Told
  told_from s noted number [] = []
  told_from s noted number (e ∷ rest) =
      let t = scene_after k.given s e in
      map (told number e.who) (faults_between k limits (shown s) (shown t) noted e) ++ told_from t (noted_between k limits (shown s) (shown t) noted e) (number + 1) rest

  abbrev pub told_of : List Entry → List Told
  told_of history = told_from (first_scene limits) nothing_noted 1 history

  -- ---- the marks that took place

  abbrev pub happened_from : Scene → ℕ → List Entry → List Happened
  happened_from s number [] = []
  happened_from s number (e ∷ rest) =
      let t = scene_after k.given s e in
      map (happened number) (deeds k limits (s.places e.who) (t.places e.who) e) ++ happened_from t (number + 1) rest

  abbrev pub happened_of : List Entry → List Happened
  happened_of history = happened_from (first_scene limits) 1 history

  -- ---- who waited where a wait ended since nobody could go on

  abbrev pub waiting_in : Scene → List Begun
  waiting_in s = flat_map (begun_by k s) (actors limits)

  abbrev pub waiting_from : Scene → List Entry → List Begun
  waiting_from s [] = []
  waiting_from s (e ∷ rest) = (if is_stall e.answer then waiting_in s else []) ++ waiting_from (scene_after k.given s e) rest

  abbrev pub waiting_of : List Entry → List Begun
  waiting_of history = waiting_from (first_scene limits) history
