-- Where faults are passed over, an order has its other faults.
use Rattle.std.proofs.Common.{◌≡◌, ◌++◌, true, List, [], ◌∷◌, not, refl, sym, ap, ap₂, ◌∙◌}
use Rattle.std.proofs.lemmas.List.Elements.{filter-append}
use Rattle.std.specs.List.{filter}
use Rattle.tp_base.specs.declared.answers.Entry.{Entry}
use Rattle.tp_base.specs.declared.limits.Limits.{Limits}
use Rattle.tp_explore.specs.declared.fault.Fault.{Fault}
use Rattle.tp_explore.specs.Faults.{faults_between, faults_from, faults_of, noted_between, shown}
use Rattle.tp_explore.specs.Noted.{nothing_noted, Noted}
use Rattle.tp_explore.specs.SameFaults.{is_passed}
use Rattle.tp_explore.specs.Scenes.{first_scene, scene_after, Scene}
use Rattle.tp_explore.specs.Scripts.{watched, watched_but}
use Rattle.tp_script.specs.Parsed.{Parsed}

all_kept : (faults : List Fault) → filter (λ (f : Fault). true) faults ≡ faults
all_kept [] = refl
all_kept (fault ∷ faults) = ap (λ fs. fault ∷ fs) (all_kept faults)

module _ (script : Parsed) (passed : List Fault) (limits : Limits) where
  abbrev others : List Fault → List Fault
  others faults = filter (λ (f : Fault). not (is_passed passed f)) faults

  others_from : (s : Scene) (noted : Noted) (history : List Entry) → faults_from (watched_but passed script) limits s noted history ≡ others (faults_from (watched script) limits s noted history)
  others_from s noted [] = refl
  others_from s noted (e ∷ rest) =
      let t : Scene = scene_after (watched script).given s e in
      let more : Noted = noted_between (watched script) limits (shown s) (shown t) noted e in
      let here : List Fault = faults_between (watched script) limits (shown s) (shown t) noted e in
      ap₂ (λ (xs ys : List Fault). xs ++ ys) (ap others (sym (all_kept _))) (others_from t more rest)
      ∙ sym (filter-append (λ (f : Fault). not (is_passed passed f)) here (faults_from (watched script) limits t more rest))

  pub leaves_others : (history : List Entry) → faults_of (watched_but passed script) limits history ≡ others (faults_of (watched script) limits history)
  leaves_others history = others_from (first_scene limits) nothing_noted history
