-- What the whole program tells, by what its command came to.
use Rattle.std.proofs.Common.{◌≡◌, ℕ, Bool, true, false, List, ◌++◌, Option, None, Some, Result, Ok, Err, refl, sym, ap, ◌∙◌, subst}
use Rattle.std.proofs.lemmas.List.{append-nil}
use Rattle.tp_edge.specs.Given.{with_given}
use Rattle.tp_edge.specs.Taken.{behind, AreAll}
use Rattle.tp_run.specs.Ends.{status_of, Came, IsAllRead, IsOutput, IsReadIf, IsRun, IsTakenTo}
use Rattle.tp_run.specs.Inputs.{reads, Gives, IsDetermined, IsInput, IsInputIf, IsTold, IsToldIf}
use Rattle.tp_run.specs.Runs.{IsAnswered, IsBadLineOf, IsWhole}
use Rattle.tp_run.specs.declared.command.Command.{Command}
use Rattle.tp_run.specs.declared.replies.Output.{Output}
use Rattle.tp_run.specs.declared.status.Ending.{Ending}
use Rattle.tp_run.specs.declared.status.Ending.TheVariants as ending
use Rattle.tp_run.specs.declared.status.Status.{Status}
use Rattle.tp_run.specs.declared.status.Status.TheVariants.{Fine, BadLine, TooLong, NotLegal, Exhausted, Stalled, Bad, GaveUp}

-- what was read to its end is all that was left
input_of : (reads_it : Bool) (taken : List ℕ) (left now : Option (List ℕ)) → left ≡ behind taken now → IsReadIf reads_it taken now → IsInputIf reads_it taken left
input_of true taken left None took read = subst (λ l. AreAll taken l) (sym took) tt
input_of true taken left (Some rest) took read = subst (λ l. AreAll taken l) (sym took) (ap (λ r. taken ++ r) read ∙ append-nil taken)
input_of false taken left now took read = read

-- and it is what the source told
some_are : (a b : List ℕ) → ◌≡◌ {A = Option (List ℕ)} (Some a) (Some b) → a ≡ b
some_are a b is = cc

told_input : (reads_it : Bool) (taken bytes : List ℕ) (left now : Option (List ℕ)) → left ≡ behind taken now → IsReadIf reads_it taken now → IsToldIf reads_it bytes left → taken ≡ bytes
told_input true taken bytes left None took read told = absurd (lost (sym took ∙ told))
  where
    lost : ◌≡◌ {A = Option (List ℕ)} None (Some bytes) → ⊥
    lost is = cc
told_input true taken bytes left (Some rest) took read told = sym (ap (λ r. taken ++ r) read ∙ append-nil taken) ∙ some_are (taken ++ rest) bytes (sym took ∙ told)
told_input false taken bytes left now took read told = read ∙ sym told

module _ (command : Command) (left now held holds : Option (List ℕ)) (status : Status) (run : IsRun command left now held holds status) where
  is_input : IsAllRead command run.taken now → IsInput (Some command) run.taken left
  is_input read = input_of (reads (Some command)) run.taken left now run.took read

  -- what was written, with its ending
  written : (s : Status) → IsWhole s → Came command run.taken now held holds s
      → IsAllRead command run.taken now × ((output : List ℕ) × (ends : Ending) × IsOutput command run.taken output ends × (s ≡ status_of ends) × (holds ≡ with_given output held))
  written Fine whole came = (came.0, (came.1.0, ending.Fine, came.1.1, refl, came.1.2))
  written NotLegal whole came = (came.0, (came.1.0, ending.NotLegal, came.1.1, refl, came.1.2))
  written Exhausted whole came = (came.0, (came.1.0, ending.Exhausted, came.1.1, refl, came.1.2))
  written Stalled whole came = (came.0, (came.1.0, ending.Stalled, came.1.1, refl, came.1.2))
  written Bad whole came = (came.0, (came.1.0, ending.Bad, came.1.1, refl, came.1.2))
  written GaveUp whole came = (came.0, (came.1.0, ending.GaveUp, came.1.1, refl, came.1.2))
  written _ whole came = absurd whole

  pub whole_run : IsWhole status → IsAnswered (Some command) left (λ output ends. (status ≡ status_of ends) × (holds ≡ with_given output held))
  whole_run whole =
      let w = written status whole run.came in
      record { bytes = run.taken; output = w.1.0; ending = w.1.1; is_input = is_input w.0; gives = w.1.2.gives; given = (w.1.3, w.1.4) }

  -- where the command has one output for an input, that was written
  pub whole_only : (bytes output : List ℕ) (ends : Ending) → IsDetermined (Some command) → IsTold (Some command) bytes left → Gives (Some command) bytes output ends → IsWhole status
      → (status ≡ status_of ends) × (holds ≡ with_given output held)
  whole_only bytes output ends determined told gives whole =
      let w = written status whole run.came in
      let same : run.taken ≡ bytes = told_input (reads (Some command)) run.taken bytes left now run.took w.0 told in
      let one = w.1.2.only determined output ends (subst (λ taken. Gives (Some command) taken output ends) (sym same) gives) in
      (w.1.3 ∙ ap status_of one.1, w.1.4 ∙ ap (λ o. with_given o held) one.0)

  bad_line_of : (s : Status) → Came command run.taken now held holds s → IsBadLineOf (Some command) left s
  bad_line_of (BadLine line column) came = (run.taken, is_input came.0, came.1.at)
  bad_line_of _ came = tt

  pub bad_line : IsBadLineOf (Some command) left status
  bad_line = bad_line_of status run.came

-- what is told of an output that was written whole
module _ (command : Command) (left now held holds : Option (List ℕ)) (output : Output) (status : Status) (given : holds ≡ with_given output.text.items held) (ends : status ≡ status_of output.ending) where
  came_of : (taken : List ℕ) (ending : Ending) → IsAllRead command taken now → IsOutput command taken output.text.items ending → Came command taken now held holds (status_of ending)
  came_of taken ending.Fine read is = (read, (output.text.items, is, given))
  came_of taken ending.NotLegal read is = (read, (output.text.items, is, given))
  came_of taken ending.Exhausted read is = (read, (output.text.items, is, given))
  came_of taken ending.Stalled read is = (read, (output.text.items, is, given))
  came_of taken ending.Bad read is = (read, (output.text.items, is, given))
  came_of taken ending.GaveUp read is = (read, (output.text.items, is, given))

  never_long : (ending : Ending) → status_of ending ≡ TooLong → ⊥
  never_long ending.Fine is = cc
  never_long ending.NotLegal is = cc
  never_long ending.Exhausted is = cc
  never_long ending.Stalled is = cc
  never_long ending.Bad is = cc
  never_long ending.GaveUp is = cc

  taken_run : IsTakenTo command left now (Ok output) → IsRun command left now held holds status
  taken_run t = record {
    taken = t.taken;
    took = t.took;
    none = t.none;
    within = record { too_long = (λ is. absurd (never_long output.ending (sym ends ∙ is)), λ long. absurd (err_of (t.too_long.1 long))); most = t.most };
    came = subst (λ s. Came command t.taken now held holds s) (sym ends) (came_of t.taken output.ending t.reply.0 t.reply.1);
  }
    where
      err_of : ◌≡◌ {A = Result Output Status} (Ok output) (Err TooLong) → ⊥
      err_of is = cc

  pub run_written : (reply : Result Output Status) → reply ≡ Ok output → IsTakenTo command left now reply → IsRun command left now held holds status
  run_written reply is taken = taken_run (subst (λ r. IsTakenTo command left now r) is taken)
