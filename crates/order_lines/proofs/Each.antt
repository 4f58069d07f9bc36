-- What is written of each fault, one search after another.
use Rattle.std.proofs.Common.{◌≡◌, ◌≢◌, ℕ, ◌+◌, ◌++◌, ◌==◌, Bool, true, false, not, eqb-true, eq-eqb, List, [], ◌∷◌, length, refl, sym, ap, ap₂, ◌∙◌, subst, arith, inl, inr}
use Rattle.std.proofs.lemmas.Bool.{false≢true}
use Rattle.std.proofs.lemmas.List.{append_assoc, append-nil, length-append, map-append, nil_from_length}
use Rattle.tp_base.specs.declared.answers.Entry.{Entry}
use Rattle.tp_base.specs.declared.limits.Limits.{Limits}
use Rattle.tp_explore.specs.declared.fault.Fault.{Fault}
use Rattle.tp_explore.specs.Faults.{faults_of}
use Rattle.tp_explore.specs.SameFaults.{is_passed}
use Rattle.tp_explore.specs.Scripts.{watched, watched_but}
use Rattle.tp_script.specs.Parsed.{Parsed}
use Rattle.std.specs.List.{filter}
use Rattle.order_lines.proofs.Rising.{rising}
use Rattle.order_lines.specs.EachExplored.{blocks_text, told_by, AreBlocks, IsEachExplored}
use Rattle.order_lines.specs.Explored.{bad_text, Block, IsBlock, WritesBad, WritesGaveUp, WritesNone}
use Rattle.order_lines.specs.declared.explored.Found.TheVariants as found
use Rattle.order_lines.specs.declared.explored.TheConstants.{BLOCKS}

-- whether there are none
pub is_none : (told : List Fault) (count : ℕ) (empty : Bool) → count ≡ length told → empty ≡ (count == 0) → empty ≡ true → told ≡ []
is_none told count empty count_is test so = nil_from_length told (sym count_is ∙ eqb-true count 0 (sym test ∙ so))

pub is_some : (told : List Fault) (count : ℕ) (empty : Bool) → count ≡ length told → empty ≡ (count == 0) → empty ≡ false → told ≢ []
is_some told count empty count_is test so none = false≢true (sym so ∙ test ∙ eq-eqb count 0 (count_is ∙ ap (λ (ts : List Fault). length ts) none))

module _ (script : Parsed) (limits : Limits) where
  -- one more block, behind those that there are
  are_more : (passed : List Fault) (blocks : List Block) (b : Block) → AreBlocks script limits passed blocks → IsBlock (watched_but (passed ++ told_by blocks) script) limits b → AreBlocks script limits passed (blocks ++ b ∷ [])
  are_more passed [] b are is = (subst (λ p. IsBlock (watched_but p script) limits b) (append-nil passed) is, tt)
  are_more passed (x ∷ blocks) b are is =
      (are.0, are_more (passed ++ x.fault ∷ []) blocks b are.1 (subst (λ p. IsBlock (watched_but p script) limits b) (sym (append_assoc passed (x.fault ∷ []) (told_by blocks))) is))

  module _ (text : List ℕ) where
    abbrev block_text : List Fault → Block → List ℕ
    block_text passed b = bad_text text (watched_but passed script) limits b.history b.states

    text_more : (passed : List Fault) (blocks : List Block) (b : Block) → blocks_text script limits text passed (blocks ++ b ∷ []) ≡ blocks_text script limits text passed blocks ++ block_text (passed ++ told_by blocks) b
    text_more passed [] b = append-nil (block_text passed b) ∙ ap (λ p. block_text p b) (sym (append-nil passed))
    text_more passed (x ∷ blocks) b =
        ap (λ t. block_text passed x ++ t) (text_more (passed ++ x.fault ∷ []) blocks b)
        ∙ sym (append_assoc (block_text passed x) (blocks_text script limits text (passed ++ x.fault ∷ []) blocks) (block_text ((passed ++ x.fault ∷ []) ++ told_by blocks) b))
        ∙ ap (λ p. (block_text passed x ++ blocks_text script limits text (passed ++ x.fault ∷ []) blocks) ++ block_text p b) (append_assoc passed (x.fault ∷ []) (told_by blocks))

    -- so many blocks were written, which tell these faults
    pub record IsSoFar (count : ℕ) (told : List Fault) (output : List ℕ) : Type 0 where
      pub blocks : List Block
      pub are_blocks : AreBlocks script limits [] blocks
      pub told_is : told ≡ told_by blocks
      pub count_is : length blocks ≡ count
      pub output_is : output ≡ blocks_text script limits text [] blocks

    pub begins : (told : List Fault) (output : List ℕ) → told ≡ [] → output ≡ [] → IsSoFar 0 told output
    begins told output none nothing = record { blocks = []; are_blocks = tt; told_is = none; count_is = refl; output_is = nothing }

    module _ (count : ℕ) (told : List Fault) (output : List ℕ) (so_far : IsSoFar count told output) where
      pub goes_on : (block : List ℕ) (fault : Fault) (told2 : List Fault) (output2 : List ℕ) → (writes : WritesBad text (watched_but told script) limits block) → writes.block.fault ≡ fault
          → told2 ≡ told ++ fault ∷ [] → output2 ≡ output ++ block → IsSoFar (count + 1) told2 output2
      goes_on block fault told2 output2 writes fault_is told2_is output2_is = record {
        blocks = so_far.blocks ++ writes.block ∷ [];
        are_blocks = are_more [] so_far.blocks writes.block so_far.are_blocks (subst (λ p. IsBlock (watched_but p script) limits writes.block) so_far.told_is writes.is_block);
        told_is = told2_is ∙ ap₂ (λ (ts : List Fault) f. ts ++ f ∷ []) so_far.told_is (sym fault_is) ∙ sym (map-append (λ (b : Block). b.fault) so_far.blocks (writes.block ∷ []));
        count_is = length-append so_far.blocks (writes.block ∷ []) ∙ ap (λ n. n + 1) so_far.count_is;
        output_is =
            output2_is
            ∙ ap₂ (λ (xs ys : List ℕ). xs ++ ys) so_far.output_is (writes.output_is ∙ ap (λ p. block_text p writes.block) so_far.told_is)
            ∙ sym (text_more [] so_far.blocks writes.block);
      }

      -- ---- the end

      abbrev Leaves : Type 0
      Leaves = (passed : List Fault) (history : List Entry) → faults_of (watched_but passed script) limits history ≡ filter (λ (f : Fault). not (is_passed passed f)) (faults_of (watched script) limits history)

      pub ends_none : (most : ℕ) (ending : List ℕ) → told ≡ [] → WritesNone (watched_but told script) limits ending → IsEachExplored script text limits most ending found.None
      ends_none most ending none writes = record {
        blocks = [];
        ending = ending;
        are_blocks = tt;
        rising = tt;
        ends = (refl, subst (λ p. WritesNone (watched_but p script) limits ending) none writes);
        output_is = refl;
      }

      pub ends_bad : Leaves → (most : ℕ) (ending : List ℕ) → told ≢ [] → WritesNone (watched_but told script) limits ending → IsEachExplored script text limits most output found.Bad
      ends_bad leaves most ending some writes = record {
        blocks = so_far.blocks;
        ending = [];
        are_blocks = so_far.are_blocks;
        rising = rising script limits leaves [] so_far.blocks so_far.are_blocks;
        ends = (λ none. some (so_far.told_is ∙ ap told_by none), refl, inl (subst (λ p. WritesNone (watched_but p script) limits ending) so_far.told_is writes).none);
        output_is = so_far.output_is ∙ sym (append-nil _);
      }

      pub ends_full : Leaves → (most : ℕ) → count ≡ BLOCKS → IsEachExplored script text limits most output found.Bad
      ends_full leaves most full = record {
        blocks = so_far.blocks;
        ending = [];
        are_blocks = so_far.are_blocks;
        rising = rising script limits leaves [] so_far.blocks so_far.are_blocks;
        ends = (λ none. absurd (omega (arith, ap (λ (bs : List Block). length bs) none, so_far.count_is, full)), refl, inr (so_far.count_is ∙ full));
        output_is = so_far.output_is ∙ sym (append-nil _);
      }

      pub ends_gave_up : Leaves → (most : ℕ) (ending output2 : List ℕ) → WritesGaveUp (watched_but told script) limits most ending → output2 ≡ output ++ ending → IsEachExplored script text limits most output2 found.GaveUp
      ends_gave_up leaves most ending output2 writes output2_is = record {
        blocks = so_far.blocks;
        ending = ending;
        are_blocks = so_far.are_blocks;
        rising = rising script limits leaves [] so_far.blocks so_far.are_blocks;
        ends = subst (λ p. WritesGaveUp (watched_but p script) limits most ending) so_far.told_is writes;
        output_is = output2_is ∙ ap (λ (xs : List ℕ). xs ++ ending) so_far.output_is;
      }
