-- What is written of all orders of a script, where each fault is told that some order has.
use Rattle.std.specs.Prelude.{◌≡◌, ◌≢◌, ◌⊎◌, ℕ, ◌≤◌, List, [], ◌∷◌, ◌++◌, length, map}
use Rattle.tp_base.specs.declared.answers.Entry.{Entry}
use Rattle.tp_base.specs.declared.limits.Limits.{Limits}
use Rattle.tp_explore.specs.declared.fault.Fault.{Fault}
use Rattle.tp_explore.specs.Faults.{faults_of}
use Rattle.tp_explore.specs.Scenes.{IsOrder}
use Rattle.tp_explore.specs.Scripts.{watched_but}
use Rattle.tp_script.specs.Parsed.{Parsed}
use Rattle.order_lines.specs.Explored.{bad_text, Block, IsBlock, WritesGaveUp, WritesNone}
use Rattle.order_lines.specs.declared.explored.Found.{Found}
use Rattle.order_lines.specs.declared.explored.Found.TheVariants.{None, Bad, GaveUp}
use Rattle.order_lines.specs.declared.explored.TheConstants.{BLOCKS}

-- the faults that are told
abbrev pub told_by : List Block → List Fault
told_by blocks = map (λ (b : Block). b.fault) blocks

-- the shortest is the first
abbrev pub AreRising : List Block → Type 0
AreRising [] = Unit {0}
AreRising (b ∷ []) = Unit {0}
AreRising (b ∷ c ∷ rest) = (length b.history ≤ length c.history) × AreRising (c ∷ rest)

module _ (script : Parsed) (limits : Limits) where
  -- each block is of a shortest order that has a fault which is neither passed over nor told by a block before it, and tells
  -- the first of these
  abbrev pub AreBlocks : List Fault → List Block → Type 0
  AreBlocks passed [] = Unit {0}
  AreBlocks passed (b ∷ rest) = IsBlock (watched_but passed script) limits b × AreBlocks (passed ++ b.fault ∷ []) rest

  -- no order has another fault than these
  abbrev pub AreAll : List Fault → Type 0
  AreAll told = (history : List Entry) → IsOrder (watched_but told script).given limits history → faults_of (watched_but told script) limits history ≡ []

  module _ (text : List ℕ) where
    abbrev pub blocks_text : List Fault → List Block → List ℕ
    blocks_text passed [] = []
    blocks_text passed (b ∷ rest) = bad_text text (watched_but passed script) limits b.history b.states ++ blocks_text (passed ++ b.fault ∷ []) rest

  -- what is written behind these blocks, and why there is none more: all is told, no block has room any more, or a search gave up
  abbrev pub IsEnd : ℕ → List Block → List ℕ → Found → Type 0
  IsEnd most blocks ending None = (blocks ≡ []) × WritesNone (watched_but [] script) limits ending
  IsEnd most blocks ending Bad = (blocks ≢ []) × (ending ≡ []) × (AreAll (told_by blocks) ⊎ (length blocks ≡ BLOCKS))
  IsEnd most blocks ending GaveUp = WritesGaveUp (watched_but (told_by blocks) script) limits most ending

-- of the orders of a script, where no more states than this may be met in a search, these faults were found, and this was written
pub record IsEachExplored (script : Parsed) (text : List ℕ) (limits : Limits) (most : ℕ) (output : List ℕ) (found : Found) : Type 0 where
  pub blocks : List Block
  pub ending : List ℕ
  pub are_blocks : AreBlocks script limits [] blocks
  pub rising : AreRising blocks
  pub ends : IsEnd script limits most blocks ending found
  pub output_is : output ≡ blocks_text script limits text [] blocks ++ ending
