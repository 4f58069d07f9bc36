-- No block's order is longer than that of the next.
use Rattle.std.proofs.Common.{◌≡◌, ◌++◌, ◌≤◌, ◌||◌, Bool, true, false, not, cond, List, [], ◌∷◌, length, refl, sym, ap, ◌∙◌}
use Rattle.std.proofs.lemmas.List.Folds.{list_any-append}
use Rattle.std.specs.List.{filter}
use Rattle.tp_base.specs.declared.answers.Entry.{Entry}
use Rattle.tp_base.specs.declared.limits.Limits.{Limits}
use Rattle.tp_explore.specs.declared.fault.Fault.{Fault}
use Rattle.tp_explore.specs.Faults.{faults_of}
use Rattle.tp_explore.specs.SameFaults.{is_passed, is_same_fault}
use Rattle.tp_explore.specs.Scripts.{watched, watched_but}
use Rattle.tp_script.specs.Parsed.{Parsed}
use Rattle.order_lines.specs.EachExplored.{AreBlocks, AreRising}
use Rattle.order_lines.specs.Explored.{Block, IsBlock}

-- where no fault is left, none is left where more are passed over
abbrev others : List Fault → List Fault → List Fault
others passed faults = filter (λ (f : Fault). not (is_passed passed f)) faults

left_out : (passed more : List Fault) (f : Fault) → is_passed passed f ≡ true → is_passed (passed ++ more) f ≡ true
left_out passed more f is = list_any-append (is_same_fault f) passed more ∙ ap (λ b. b || is_passed more f) is

none_left : (passed more faults : List Fault) → others passed faults ≡ [] → others (passed ++ more) faults ≡ []
none_left passed more [] none = refl
none_left passed more (f ∷ faults) none = by_test (none_left passed more faults) (is_passed passed f) refl none
  where
    by_test : (others passed faults ≡ [] → others (passed ++ more) faults ≡ []) → (b : Bool) → is_passed passed f ≡ b → cond (not b) (f ∷ others passed faults) (others passed faults) ≡ [] → others (passed ++ more) (f ∷ faults) ≡ []
    by_test go true is left = ap (λ b. cond (not b) (f ∷ others (passed ++ more) faults) (others (passed ++ more) faults)) (left_out passed more f is) ∙ go left
    by_test go false is left = let wrong : f ∷ others passed faults ≡ [] = left in cc

module _ (script : Parsed) (limits : Limits)
    (leaves : (passed : List Fault) (history : List Entry) → faults_of (watched_but passed script) limits history ≡ others passed (faults_of (watched script) limits history)) where
  rises : (passed : List Fault) (b c : Block) → IsBlock (watched_but passed script) limits b → IsBlock (watched_but (passed ++ b.fault ∷ []) script) limits c → length b.history ≤ length c.history
  rises passed b c is_b is_c = is_b.first_bad.shortest c.history is_c.first_bad.order
      (λ none. is_c.first_bad.bad (leaves (passed ++ b.fault ∷ []) c.history ∙ none_left passed (b.fault ∷ []) (faults_of (watched script) limits c.history) (sym (leaves passed c.history) ∙ none)))

  pub rising : (passed : List Fault) (blocks : List Block) → AreBlocks script limits passed blocks → AreRising blocks
  rising passed [] are = tt
  rising passed (b ∷ []) are = tt
  rising passed (b ∷ c ∷ blocks) are = (rises passed b c are.0 are.1.0, rising (passed ++ b.fault ∷ []) (c ∷ blocks) are.1)
