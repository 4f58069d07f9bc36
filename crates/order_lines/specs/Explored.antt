-- What is written of all orders of a script.
use Rattle.std.specs.Prelude.{◌≡◌, ◌⊎◌, ℕ, ◌+◌, ◌≤◌, List, [], ◌∷◌, ◌++◌, codes, decimal, flat_map, length}
use Rattle.breadth_first.specs.Answers.{HasMoreKeys}
use Rattle.breadth_first.specs.declared.Answer.TheVariants.{None as NoneBad, GaveUp as GaveUpAt}
use Rattle.tp_base.specs.declared.answers.Entry.{Entry}
use Rattle.tp_base.specs.declared.limits.Limits.{Limits}
use Rattle.tp_explore.specs.Closing.{rules_of_closed}
use Rattle.tp_explore.specs.declared.fault.Fault.{Fault}
use Rattle.tp_explore.specs.Explored.{Explores, IsBad}
use Rattle.tp_explore.specs.Faults.{faults_of}
use Rattle.tp_explore.specs.Exchanging.{key_in_order}
use Rattle.tp_explore.specs.Legal.{IsRoomy}
use Rattle.tp_explore.specs.Scenes.{IsOrder}
use Rattle.tp_explore.specs.Scripts.{watched}
use Rattle.tp_explore.specs.Story.{happened_of, told_of, waiting_of}
use Rattle.tp_explore.specs.declared.told.Begun.{Begun}
use Rattle.tp_explore.specs.declared.told.Happened.{Happened}
use Rattle.tp_explore.specs.declared.told.Told.{Told}
use Rattle.tp_explore.specs.Watched.{Watched}
use Rattle.tp_model.specs.History.{IsLegal}
use Rattle.tp_model.specs.Laws.{KeepsLaws}
use Rattle.tp_report.specs.Histories.{history_text}
use Rattle.tp_script.specs.Parsed.{Parsed}
use Rattle.order_lines.specs.Lines.{bad_line, fault_line, mark_line, waits_line}
use Rattle.order_lines.specs.declared.explored.Found.{Found}
use Rattle.order_lines.specs.declared.explored.Searched.{Searched}
use Rattle.order_lines.specs.declared.explored.Searched.TheVariants as searched
use Rattle.order_lines.specs.declared.explored.Found.TheVariants.{None, Bad, GaveUp}
use Rattle.order_lines.specs.declared.explored.TheConstants.{DEEPEST, EVENTS}

-- ---- texts

abbrev pub states_line : ℕ → List ℕ
states_line states = codes "states " ++ (decimal states ++ 10 ∷ [])

abbrev pub none_text : ℕ → ℕ → List ℕ
none_text states steps = codes "none\n" ++ (states_line states ++ (codes "steps " ++ (decimal steps ++ 10 ∷ [])))

abbrev pub gave_up_text : ℕ → ℕ → List ℕ
gave_up_text states deep = codes "gave up at " ++ (decimal states ++ (codes " states\ndeep " ++ (decimal deep ++ 10 ∷ [])))

-- of the faults the first
abbrev pub first_told : List ℕ → List Told → List ℕ
first_told text [] = []
first_told text (told ∷ rest) = bad_line text told.fault told.who ++ 10 ∷ []

abbrev pub begun_text : Begun → List ℕ
begun_text begun = waits_line begun.who begun.line ++ 10 ∷ []

abbrev pub happened_text : List ℕ → Happened → List ℕ
happened_text text happened = mark_line text happened.entry happened.who happened.line ++ 10 ∷ []

-- a line for each fault of a run
abbrev pub told_line : List ℕ → Told → List ℕ
told_line text told = fault_line text told.entry told.fault told.who ++ 10 ∷ []

abbrev pub faults_text : List ℕ → List Told → List ℕ
faults_text text told = flat_map (told_line text) told

-- what stands behind a history: its first fault, who waits at a stall, and its marks
abbrev pub story_text : List ℕ → List Told → List Begun → List Happened → List ℕ
story_text text told waiting happened = first_told text told ++ (flat_map begun_text waiting ++ flat_map (happened_text text) happened)

abbrev pub bad_text : List ℕ → Watched → Limits → List Entry → ℕ → List ℕ
bad_text text k limits history states =
    history_text limits EVENTS history
    ++ (story_text text (told_of k limits history) (waiting_of k limits history) (happened_of k limits history) ++ states_line states)

-- ---- what was found

-- an order that has a fault, and is as short as any; in a history of this capacity it has its answers
pub record IsFirstBad (k : Watched) (limits : Limits) (history : List Entry) : Type 0 where
  pub order : IsOrder k.given limits history
  pub bad : IsBad k limits history
  pub shortest : (other : List Entry) → IsOrder k.given limits other → IsBad k limits other → length history ≤ length other
  pub legal : IsLegal limits EVENTS history
  pub laws : KeepsLaws limits history

-- it is the first of these
abbrev pub IsFirst : Fault → List Fault → Type 0
IsFirst fault faults = (rest : List Fault) × faults ≡ fault ∷ rest

-- such an order, its first fault, and how many states were met until it was found
pub record Block : Type 0 where
  pub history : List Entry
  pub fault : Fault
  pub states : ℕ

pub record IsBlock (k : Watched) (limits : Limits) (block : Block) : Type 0 where
  pub first_bad : IsFirstBad k limits block.history
  pub first : IsFirst block.fault (faults_of k limits block.history)

-- a shortest bad order is one more entry than this, and has no room in a history
pub record HasNoRoom (k : Watched) (limits : Limits) (deep : ℕ) : Type 0 where
  pub history : List Entry
  pub order : IsOrder k.given limits history
  pub bad : IsBad k limits history
  pub length_is : length history ≡ deep + 1
  pub no_room : IsRoomy limits EVENTS history → IsLegal limits EVENTS history → ⊥

-- why it was given up: more states were met than may be, orders were gone through that are as long as any that are looked at, or
-- there is no room for a bad one
abbrev pub IsReason : Watched → Limits → ℕ → ℕ → Type 0
IsReason k limits most deep = HasMoreKeys (rules_of_closed k limits (key_in_order limits)) most ⊎ (deep ≡ DEEPEST) ⊎ HasNoRoom k limits deep

pub record WritesNone (k : Watched) (limits : Limits) (output : List ℕ) : Type 0 where
  pub states : ℕ
  pub steps : ℕ
  pub none : Explores k limits (NoneBad states)
  pub output_is : output ≡ none_text states steps

pub record WritesBad (text : List ℕ) (k : Watched) (limits : Limits) (output : List ℕ) : Type 0 where
  pub block : Block
  pub is_block : IsBlock k limits block
  pub output_is : output ≡ bad_text text k limits block.history block.states

pub record WritesGaveUp (k : Watched) (limits : Limits) (most : ℕ) (output : List ℕ) : Type 0 where
  pub states : ℕ
  pub deep : ℕ
  pub none_so_deep : Explores k limits (GaveUpAt states deep)
  pub reason : IsReason k limits most deep
  pub output_is : output ≡ gave_up_text states deep

-- this was found of the orders of what is watched, where no more states than this may be met, and is to be written
abbrev pub IsSearched : Watched → List ℕ → Limits → ℕ → Searched → Type 0
IsSearched k text limits most (searched.None output) = WritesNone k limits output.items
IsSearched k text limits most (searched.GaveUp output) = WritesGaveUp k limits most output.items
IsSearched k text limits most (searched.Bad output fault) = (writes : WritesBad text k limits output.items) × writes.block.fault ≡ fault

-- of the orders of a script, where no more states than this may be met, this was found and written
abbrev pub IsExplored : Parsed → List ℕ → Limits → ℕ → List ℕ → Found → Type 0
IsExplored script text limits most output None = WritesNone (watched script) limits output
IsExplored script text limits most output Bad = WritesBad text (watched script) limits output
IsExplored script text limits most output GaveUp = WritesGaveUp (watched script) limits most output
