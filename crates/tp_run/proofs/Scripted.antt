-- What the program makes of the run of a script.
use Rattle.std.proofs.Common.{◌≡◌, ℕ, Bool, true, false, cond, List, [], ◌∷◌, Option, None, Some, Result, Ok, Err, ◌<◌, arith, refl, sym, ap, ◌∙◌, subst, inl, inr}
use Rattle.std.specs.Prelude.{◌↔◌, IfErr, IfOk, IfSome}
use Rattle.std.specs.Result.{IsErrAnd}
use Rattle.std.proofs.lemmas.Bool.{false≢true}
use Rattle.tp_base.specs.declared.answers.Entry.{Entry}
use Rattle.tp_base.specs.declared.calls.Call.{Call}
use Rattle.tp_base.specs.declared.calls.Call.TheVariants as call
use Rattle.tp_base.specs.declared.limits.Limits.{Limits}
use Rattle.tp_model.specs.History.{after, IsLegal}
use Rattle.tp_model.specs.Laws.Once.{left}
use Rattle.recorded.specs.Recordings.{Recording}
use Rattle.tp_model.specs.Laws.{KeepsLaws}
use Rattle.tp_report.specs.Summaries.{totals_behind, IsNoneLost}
use Rattle.recorded.specs.declared.TheConstants.{OBJECT_LIMIT as machine_most}
use Rattle.script_lines.specs.declared.state.TheConstants.{OBJECT_LIMIT as declared_most}
use Rattle.tp_explore.specs.Scripts.{watched}
use Rattle.tp_explore.specs.Story.{told_of}
use Rattle.tp_explore.specs.declared.told.Told.{Told}
use Rattle.tp_run.specs.Played.{ending_by, ending_of_run, ending_told, has_pending, limits_for, long_script, printed, routines_of, told_in, with_faults, Ends, EndsRun, IsOfOne, IsOutputOf, IsPlayed, IsRunWith, RanOut}
use Rattle.tp_report.specs.EarlyEnds.{has_early_end}
use Rattle.tp_report.specs.declared.counts.EarlyEnd.TheVariants as early
use Rattle.tp_report.specs.declared.playing.MachineSize.{MachineSize}
use Rattle.tp_run.specs.Ends.{status_of_script, IsOutput, IsReply, IsScriptEnd}
use Rattle.tp_run.specs.Inputs.{short_layout, whole_layout, IsExploredOf, IsPlayedOf}
use Rattle.tp_run.specs.declared.command.Command.TheVariants.{Explore, Run, Big}
use Rattle.tp_run.specs.declared.played.Layout.{Layout}
use Rattle.tp_run.specs.declared.status.Status.{Status}
use Rattle.tp_run.specs.declared.status.Status.TheVariants as end
use Rattle.tp_run.specs.declared.status.Status.TheVariants.{BadLine}
use Rattle.tp_run.specs.declared.replies.Output.{Output}
use Rattle.script_lines.specs.declared.line.Line.{Line}
use Rattle.tp_script.specs.Answers.{IsScriptFault, IsThat}
use Rattle.tp_script.specs.Parsed.{Parsed}
use Rattle.tp_script.specs.Parts.{has_marks}
use Rattle.tp_script.specs.Scripts.{IsParsed, IsScript}
use Rattle.tp_script.specs.declared.fault.ScriptFault.{ScriptFault}
use Rattle.tp_script.specs.declared.fault.ScriptFault.TheVariants.{NoMemory, At}
use Rattle.tp_run.specs.declared.status.Ending.{Ending}
use Rattle.tp_run.specs.declared.status.Ending.TheVariants.{Fine, NotLegal, Exhausted, Stalled, Bad, GaveUp}
use Rattle.tp_script.specs.Calls.{begins_wait_call}
use Rattle.tp_script.specs.Machines.{NeverWaitsAtFirst}
use Rattle.tp_script.specs.Nexts.{first_progress, next_call}
use Rattle.tp_script.specs.declared.routines.Part.TheVariants as part
use Rattle.worker_gate.specs.Drawn.{IsDrawn}
use Rattle.part_places.specs.Places.{Given}
use Rattle.worker_gate.specs.Rounds.{begins_wait, NeverWaits}
use Rattle.worker_gate.specs.Runs.{IsCutShort}

-- ---- how a run ends

module _ (g : Given) (limits : Limits) (history : List Entry) where
  had_room : (false ≡ true) ↔ IsCutShort g limits history → false ≡ has_early_end early.Exhausted history → false ≡ has_pending (left (after limits history)) → RanOut g limits history → ⊥
  had_room short e p (inl cut) = false≢true (short.1 cut)
  had_room short e p (inr (inl found)) = false≢true (e ∙ found)
  had_room short e p (inr (inr found)) = false≢true (p ∙ found)

  pub run_ends : (cut exhausted pending stalled : Bool) → (cut ≡ true) ↔ IsCutShort g limits history → exhausted ≡ has_early_end early.Exhausted history
      → pending ≡ has_pending (left (after limits history)) → stalled ≡ has_early_end early.Stalled history → EndsRun g limits history (ending_by cut exhausted pending stalled)
  run_ends true exhausted pending stalled short e p s = inl (short.0 refl)
  run_ends false true pending stalled short e p s = inr (inl (sym e))
  run_ends false false true stalled short e p s = inr (inr (sym p))
  run_ends false false false true short e p s = (had_room short e p, sym s)
  run_ends false false false false short e p s = (had_room short e p, sym s)

-- ---- client 1 waits for nothing

same_waits : (made : Call) → begins_wait made ≡ begins_wait_call made
same_waits call.CreatePool = refl
same_waits _ = refl

calm_call : (next : Option Call) → IfSome next (λ made. begins_wait_call made ≡ false) → IfSome next (λ made. begins_wait made ≡ false)
calm_call None calm = tt
calm_call (Some made) calm = same_waits made ∙ calm

pub never_waits : (script : List Line) → NeverWaitsAtFirst script → NeverWaits (routines_of script) (part.Client 1) first_progress
never_waits script calm = λ answers. calm_call (next_call script (part.Client 1) answers) (calm answers)

-- ---- a run that was played

-- a run of which nothing is told ends as it does, and another one is bad
ends_told : (told : List Told) (g : Given) (limits : Limits) (history : List Entry) (ending : Ending) → EndsRun g limits history ending → Ends told g limits history (ending_told told ending)
ends_told [] g limits history ending ends = ends
ends_told (t ∷ rest) g limits history ending ends = refl

module _ (text : List ℕ) (script : Parsed) (threads : ℕ) (seed : Option ℕ) (layout : Layout) (output : List ℕ) (ending : Ending) where
  abbrev told : Limits → List Entry → List Told
  told limits history = told_in layout.faults script limits history

  pub run_played : (r : Recording) (cut : Bool) (limits : Limits) (capacity : ℕ) → IsRunWith script.lines threads seed limits capacity r cut
      → IsLegal r.limits r.capacity r.history → KeepsLaws r.limits r.history → IsNoneLost (totals_behind r)
      → output ≡ with_faults (printed layout r.limits r.capacity r.history) text (told r.limits r.history) → Ends (told r.limits r.history) (routines_of script.lines) r.limits r.history ending
      → IsPlayed text script threads seed limits capacity layout output ending
  run_played r cut limits capacity run legal laws none_lost written ends =
      let g = routines_of script.lines in
      let alone_there : threads ≡ 1 → IsOfOne seed g r.limits r.capacity r.history =
      λ one. subst (λ (e : ℕ). IsOfOne seed g r.limits e r.history) (sym run.capacity_is) (subst (λ (l : Limits). IsOfOne seed g l capacity r.history) (sym run.limits_are) (run.alone one)) in
      let there : IsPlayed text script threads seed r.limits r.capacity layout output ending =
      record {
        history = r.history;
        is_run = record { legal = legal; laws = laws; runs = run.runs; alone = alone_there; none_lost = none_lost };
        output_is = written;
        ends = ends;
      } in
      subst (λ (e : ℕ). IsPlayed text script threads seed limits e layout output ending) run.capacity_is
      (subst (λ (l : Limits). IsPlayed text script threads seed l r.capacity layout output ending) run.limits_are there)

-- what is made of a run that was played
pub run_output : {E : Type 0} (text : List ℕ) (script : Parsed) (threads : ℕ) (seed : Option ℕ) (layout : Layout) (said : List ℕ) (told : List Told) (r : Recording) (cut : Bool) (limits : Limits) (capacity : ℕ) (result : Result Output E)
    → IsRunWith script.lines threads seed limits capacity r cut → ((written : List ℕ) → with_faults written said told ≡ with_faults written text (told_in layout.faults script r.limits r.history)) → told ≡ told_in layout.faults script r.limits r.history
    → IsLegal r.limits r.capacity r.history → KeepsLaws r.limits r.history → IfOk result (λ output. IsOutputOf layout said told cut r output)
    → IfOk result (λ output. IsPlayed text script threads seed limits capacity layout output.text.items output.ending)
run_output text script threads seed layout said told r cut limits capacity (Err none) run same are legal laws made = made
run_output text script threads seed layout said told r cut limits capacity (Ok output) run same are legal laws made =
    let g = routines_of script.lines in
    let ends : Ends told g r.limits r.history output.ending =
    subst (λ ending. Ends told g r.limits r.history ending) (sym made.ending) (ends_told told g r.limits r.history (ending_of_run cut r) (run_ends g r.limits r.history cut _ _ _ run.cut_is refl refl refl)) in
    run_played text script threads seed layout output.text.items output.ending r cut limits capacity run legal laws made.none_lost
    (made.text_is ∙ same (printed layout r.limits r.capacity r.history))
    (subst (λ ts. Ends ts g r.limits r.history output.ending) are ends)

-- where the script has no marks nothing is told of its runs
untold : (wanted : Bool) (script : Parsed) (limits : Limits) (history : List Entry) → has_marks script ≡ false → [] ≡ told_in wanted script limits history
untold true script limits history none = ap (λ b. cond b (told_of (watched script) limits history) []) (sym none)
untold false script limits history none = refl

all_told : (script : Parsed) (limits : Limits) (history : List Entry) → has_marks script ≡ true → told_of (watched script) limits history ≡ told_in true script limits history
all_told script limits history some = ap (λ b. cond b (told_of (watched script) limits history) []) (sym some)

module _ {E : Type 0} (text : List ℕ) (script : Parsed) (threads : ℕ) (seed : Option ℕ) (json : Bool) (r : Recording) (cut : Bool) (limits : Limits) (capacity : ℕ) (result : Result Output E) where
  pub told_played : has_marks script ≡ true → IsRunWith script.lines threads seed limits capacity r cut → IsLegal r.limits r.capacity r.history → KeepsLaws r.limits r.history
      → IfOk result (λ output. IsOutputOf (whole_layout json) text (told_of (watched script) r.limits r.history) cut r output)
      → IfOk result (λ output. IsPlayed text script threads seed limits capacity (whole_layout json) output.text.items output.ending)
  told_played some run legal laws made =
      let told = all_told script r.limits r.history some in
      run_output text script threads seed (whole_layout json) text (told_of (watched script) r.limits r.history) r cut limits capacity result run (λ written. ap (λ ts. with_faults written text ts) told) told legal laws made

  pub whole_played : has_marks script ≡ false → IsRunWith script.lines threads seed limits capacity r cut → IsLegal r.limits r.capacity r.history → KeepsLaws r.limits r.history
      → IfOk result (λ output. IsOutputOf (whole_layout json) [] [] cut r output)
      → IfOk result (λ output. IsPlayed text script threads seed limits capacity (whole_layout json) output.text.items output.ending)
  whole_played none run legal laws made =
      let told = untold true script r.limits r.history none in
      run_output text script threads seed (whole_layout json) [] [] r cut limits capacity result run (λ written. ap (λ ts. with_faults written text ts) told) told legal laws made

-- ---- one thread

one_ending : (g : Given) (limits : Limits) (history : List Entry) (a b : Ending) → EndsRun g limits history a → EndsRun g limits history b → a ≡ b
one_ending g limits history Fine Fine p q = refl
one_ending g limits history Exhausted Exhausted p q = refl
one_ending g limits history Stalled Stalled p q = refl
one_ending g limits history Fine Exhausted p q = absurd (p.0 q)
one_ending g limits history Stalled Exhausted p q = absurd (p.0 q)
one_ending g limits history Exhausted Fine p q = absurd (q.0 p)
one_ending g limits history Exhausted Stalled p q = absurd (q.0 p)
one_ending g limits history Fine Stalled p q = absurd (false≢true (sym p.1 ∙ q.1))
one_ending g limits history Stalled Fine p q = absurd (false≢true (sym q.1 ∙ p.1))
one_ending g limits history NotLegal b p q = absurd p
one_ending g limits history Bad b p q = absurd p
one_ending g limits history GaveUp b p q = absurd p
one_ending g limits history a NotLegal p q = absurd q
one_ending g limits history a Bad p q = absurd q
one_ending g limits history a GaveUp p q = absurd q

-- a script has one history on one thread
abbrev pub OneHistory : Option ℕ → Type 0
OneHistory seed = (g : Given) (limits : Limits) (capacity : ℕ) (history other : List Entry) → IsOfOne seed g limits capacity history → IsOfOne seed g limits capacity other → history ≡ other

-- and one for each seed
abbrev pub OneDrawn : Type 0
OneDrawn = (seed : ℕ) (g : Given) (limits : Limits) (capacity : ℕ) (history other : List Entry) → IsDrawn seed g limits capacity history → IsDrawn seed g limits capacity other → history ≡ other

pub one_of : OneHistory None → OneDrawn → (seed : Option ℕ) → OneHistory seed
one_of alone drawn None = alone
one_of alone drawn (Some seed) = drawn seed

one_end : (told : List Told) (g : Given) (limits : Limits) (history : List Entry) (a b : Ending) → Ends told g limits history a → Ends told g limits history b → a ≡ b
one_end [] g limits history a b p q = one_ending g limits history a b p q
one_end (t ∷ rest) g limits history a b p q = p ∙ sym q

one_played : (seed : Option ℕ) → OneHistory seed → (text : List ℕ) (script : Parsed) (threads : ℕ) → threads ≡ 1 → (limits : Limits) (capacity : ℕ) (layout : Layout) (output other : List ℕ) (ending other_end : Ending)
    → IsPlayed text script threads seed limits capacity layout output ending → IsPlayed text script threads seed limits capacity layout other other_end → (output ≡ other) × (ending ≡ other_end)
one_played seed one_history text script threads one limits capacity layout output other ending other_end a b =
    let g = routines_of script.lines in
    let told : List Entry → List Told = λ h. told_in layout.faults script limits h in
    let same = one_history g limits capacity a.history b.history (a.is_run.alone one) (b.is_run.alone one) in (
      a.output_is ∙ ap (λ h. with_faults (printed layout limits capacity h) text (told h)) same ∙ sym b.output_is,
      one_end (told b.history) g limits b.history ending other_end (subst (λ h. Ends (told h) g limits h ending) same a.ends) b.ends,
    )

-- a text is read as one script
abbrev pub OneScript : Type 0
OneScript = (text : List ℕ) (script other : Parsed) → IsParsed text script → IsParsed text other → script ≡ other

one_played_of : (seed : Option ℕ) → OneHistory seed → OneScript → (text : List ℕ) (threads : ℕ) → threads ≡ 1
    → (machine : MachineSize) (layout : Layout) (output other : List ℕ) (ending other_end : Ending)
    → IsPlayedOf text threads seed machine layout output ending → IsPlayedOf text threads seed machine layout other other_end → (output ≡ other) × (ending ≡ other_end)
one_played_of seed one_history one_script text threads one machine layout output other ending other_end a b =
    let same = one_script text a.0 b.0 a.1 b.1 in
    one_played seed one_history text b.0 threads one (limits_for b.0.lines machine) machine.events layout output other ending other_end
    (subst (λ (script : Parsed). IsPlayed text script threads seed (limits_for script.lines machine) machine.events layout output ending) same a.2) b.2

-- ---- several threads

-- of them it is said less than of one
played_on_any : (text : List ℕ) (script : Parsed) (threads : ℕ) (seed : Option ℕ) (limits : Limits) (capacity : ℕ) (layout : Layout) (output : List ℕ) (ending : Ending)
    → IsPlayed text script 1 seed limits capacity layout output ending → IsPlayed text script threads seed limits capacity layout output ending
played_on_any text script threads seed limits capacity layout output ending p = record {
  history = p.history;
  is_run = record { legal = p.is_run.legal; laws = p.is_run.laws; runs = p.is_run.runs; alone = λ _. p.is_run.alone refl; none_lost = p.is_run.none_lost };
  output_is = p.output_is;
  ends = p.ends;
}

all_played_on_any : (text : List ℕ) (threads : ℕ) (seed : Option ℕ) (machine : MachineSize) (layout : Layout) (output : List ℕ) (ending : Ending)
    → IsPlayedOf text 1 seed machine layout output ending → IsPlayedOf text threads seed machine layout output ending
all_played_on_any text threads seed machine layout output ending p =
    (p.0, p.1, played_on_any text p.0 threads seed (limits_for p.0.lines machine) machine.events layout output ending p.2)

-- ---- what becomes of a text that is to be played

pub script_end : (bytes : List ℕ) (fault : ScriptFault) (reply : Result Output Status) → IsErrAnd reply (λ status. status ≡ status_of_script fault) → IsScriptFault bytes fault
    → ((lines : List Line) → IsScript bytes lines → IsThat lines (Err fault)) → IfErr reply (IsScriptEnd bytes)
script_end bytes fault (Ok output) h place only = absurd h
script_end bytes fault (Err status) h place only = subst (λ s. IsScriptEnd bytes s) (sym h) (of_fault fault place only)
  where
    of_fault : (f : ScriptFault) → IsScriptFault bytes f → ((lines : List Line) → IsScript bytes lines → IsThat lines (Err f)) → IsScriptEnd bytes (status_of_script f)
    of_fault NoMemory place only = tt
    of_fault (At line column kind) place only = ((kind, place), only)

unplayed_reply : (bytes : List ℕ) (threads : ℕ) (seed : Option ℕ) (machine : MachineSize) (json : Bool) (status : Status) → IsScriptEnd bytes status → IsReply (Run threads seed machine json) bytes (Err status)
unplayed_reply bytes threads seed machine json (BadLine line column) e = record { at = e.0; none = λ h. e.1 h.0 h.1 }
unplayed_reply bytes threads seed machine json end.NoMemory e = tt
unplayed_reply bytes threads seed machine json _ e = absurd e

-- gone through in all orders, of which there may be other outputs
pub explore_reply : (bytes : List ℕ) (workers states : ℕ) (each : Bool) (output : Output) → IsExploredOf bytes workers states each output.text.items output.ending → IsReply (Explore workers states each) bytes (Ok output)
explore_reply bytes workers states each output explored = record { gives = explored; only = λ determined other other_end g. absurd determined }

unexplored : (bytes : List ℕ) (workers states : ℕ) (each : Bool) (status : Status) → IsScriptEnd bytes status → IsReply (Explore workers states each) bytes (Err status)
unexplored bytes workers states each (BadLine line column) e = record { at = e.0; none = λ h. e.1 h.0 h.1 }
unexplored bytes workers states each end.NoMemory e = tt
unexplored bytes workers states each _ e = absurd e

pub explore_unread : (bytes : List ℕ) (workers states : ℕ) (each : Bool) (reply : Result Output Status) (fault : ScriptFault)
    → IsErrAnd reply (λ status. status ≡ status_of_script fault) → IsScriptFault bytes fault → ((lines : List Line) → IsScript bytes lines → IsThat lines (Err fault))
    → IsReply (Explore workers states each) bytes reply
explore_unread bytes workers states each (Ok output) fault h place only = absurd h
explore_unread bytes workers states each (Err status) fault h place only = unexplored bytes workers states each status (script_end bytes fault (Err status) h place only)

-- played on several, of which there may be other outputs
pub several_output : (bytes : List ℕ) (threads : ℕ) (seed : Option ℕ) (machine : MachineSize) (json : Bool) (output : Output) → 1 < threads
    → IsPlayedOf bytes threads seed machine (whole_layout json) output.text.items output.ending → IsOutput (Run threads seed machine json) bytes output.text.items output.ending
several_output bytes threads seed machine json output several played = record { gives = played; only = λ one other other_end g. absurd (omega (arith, several, one)) }

pub several_unplayed : (bytes : List ℕ) (threads : ℕ) (seed : Option ℕ) (machine : MachineSize) (json : Bool) (reply : Result Output Status) (fault : ScriptFault)
    → IsErrAnd reply (λ status. status ≡ status_of_script fault) → IsScriptFault bytes fault → ((lines : List Line) → IsScript bytes lines → IsThat lines (Err fault))
    → IsReply (Run threads seed machine json) bytes reply
several_unplayed bytes threads seed machine json (Ok output) fault h place only = absurd h
several_unplayed bytes threads seed machine json (Err status) fault h place only =
    unplayed_reply bytes threads seed machine json status (script_end bytes fault (Err status) h place only)

-- played on one thread, where the command may have more
pub run_reply : (bytes : List ℕ) (threads : ℕ) (seed : Option ℕ) (machine : MachineSize) (json : Bool) (reply : Result Output Status)
    → OneHistory seed → OneScript → IfOk reply (λ output. IsPlayedOf bytes 1 seed machine (whole_layout json) output.text.items output.ending) → IfErr reply (IsScriptEnd bytes)
    → IsReply (Run threads seed machine json) bytes reply
run_reply bytes threads seed machine json (Ok output) one_history one_script ok err =
    let gives = all_played_on_any bytes threads seed machine (whole_layout json) output.text.items output.ending ok in
    record {
      gives = gives;
      only = λ one other other_end g.
          one_played_of seed one_history one_script bytes threads one machine (whole_layout json) output.text.items other output.ending other_end gives g;
    }
run_reply bytes threads seed machine json (Err status) one_history one_script ok err = unplayed_reply bytes threads seed machine json status err

pub big_output : (bytes : List ℕ) (number : ℕ) (machine : MachineSize) (json : Bool) (output : Output) → OneHistory None → OneScript
    → IsPlayedOf (long_script number) 1 None machine (short_layout json) output.text.items output.ending → IsOutput (Big number machine json) bytes output.text.items output.ending
big_output bytes number machine json output one_history one_script played = record {
  gives = played;
  only = λ determined other other_end g.
      one_played_of None one_history one_script (long_script number) 1 refl machine (short_layout json) output.text.items other output.ending other_end played g;
}

-- a script declares as many objects as the machine has at most
objects_agree : declared_most ≡ machine_most
objects_agree = refl
