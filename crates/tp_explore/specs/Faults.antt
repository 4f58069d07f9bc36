-- The faults of an order, entry by entry. They are read of its entries, of the script, and of callbacks that aren't over.
use Rattle.std.specs.Prelude.{ℕ, ◌-◌, Bool, true, false, not, ◌&&◌, ◌||◌, ◌==◌, nat_lt, List, [], ◌∷◌, ◌++◌, map, if◌then◌else◌}
use Rattle.std.specs.List.{filter, fold, flat_map, list_all, list_any, range_with_len}
use Rattle.std.specs.Option.{option_map_or, unwrap_or}
use Rattle.tp_base.specs.Actors.{is_same_actor}
use Rattle.tp_base.specs.declared.answers.Answer.{Answer}
use Rattle.tp_base.specs.declared.answers.Answer.TheVariants as answer
use Rattle.tp_base.specs.declared.answers.Entry.{Entry}
use Rattle.tp_base.specs.declared.calls.Call.{Call}
use Rattle.tp_base.specs.declared.calls.Call.TheVariants as call
use Rattle.tp_base.specs.declared.ids.Who.{Who}
use Rattle.tp_base.specs.declared.ids.Who.TheVariants.{Client}
use Rattle.tp_base.specs.declared.limits.Limits.{Limits}
use Rattle.tp_base.specs.declared.rows.CallbackRow.{CallbackRow}
use Rattle.tp_base.specs.declared.rows.ClientRow.{ClientRow}
use Rattle.tp_base.specs.declared.rows.Status.{Status}
use Rattle.tp_base.specs.declared.rows.Status.TheVariants as status
use Rattle.tp_base.specs.declared.rows.WaitTarget.{WaitTarget}
use Rattle.tp_base.specs.declared.rows.WaitTarget.TheVariants.{Object}
use Rattle.tp_model.specs.declared.Left.{Left as LeftAs}
use Rattle.tp_model.specs.declared.Left.TheVariants as left
use Rattle.tp_model.specs.Counts.{callback_of, is_operating, is_pending, is_running, numbered}
use Rattle.tp_model.specs.Laws.Entries.{is_among}
use Rattle.tp_model.specs.Stages.{is_in_part}
use Rattle.tp_model.specs.Support.Remembered.{forget}
use Rattle.tp_model.specs.Waits.{is_of}
use Rattle.tp_model.specs.World.{World}
use Rattle.tp_script.specs.Nexts.{first_progress}
use Rattle.tp_script.specs.declared.routines.Part.TheVariants as part
use Rattle.part_places.specs.declared.place.Place.{Place}
use Rattle.part_places.specs.Places.{is_taken, part_in}
use Rattle.tp_explore.specs.declared.fault.Fault.{Fault}
use Rattle.tp_explore.specs.declared.fault.FaultKind.{FaultKind}
use Rattle.tp_explore.specs.declared.fault.FaultKind.TheVariants.{Refused, Stalled, NotQuiet, UseAfterFree, FreedTwice, FreedInUse, Left}
use Rattle.tp_explore.specs.declared.mark.Deed.{Deed}
use Rattle.tp_explore.specs.declared.noted.Hush.{Hush}
use Rattle.tp_explore.specs.declared.noted.Use.{Use}
use Rattle.tp_explore.specs.Noted.{Noted, is_hush_below, is_in_use, is_use, is_use_below, nothing_noted, with_one, without}
use Rattle.tp_explore.specs.Scenes.{Scene, first_scene, scene_after}
use Rattle.tp_explore.specs.Watched.{Mark, Marked, Watched, line_in, marks_in, may_refuse_in, Drop, Free, Quiet, Use as Uses}

abbrev pub fault_if : Bool → FaultKind → ℕ → List Fault
fault_if holds kind line = if holds then (record { kind = kind; line = line }) ∷ [] else []

-- ---- callbacks that run

abbrev pub is_none_target : WaitTarget → Bool
is_none_target (Object object) = object.0 == 0
is_none_target _ = false

-- the callback runs, and is of this object or group
abbrev pub is_run_of : WaitTarget → CallbackRow → Bool
is_run_of target c = not (is_none_target target) && (is_running c.status && is_of target c)

-- a callback began that may not run: at each line that says so
abbrev pub taken_faults : World → ℕ → List Hush → List Fault
taken_faults w number [] = []
taken_faults w number (hush ∷ hushes) = fault_if (option_map_or (is_run_of hush.target) (callback_of w number) false) NotQuiet hush.line ++ taken_faults w number hushes

-- ---- marks that take place

abbrev pub deed : Who → Bool → Marked → Deed
deed who visits marked = record { who = who; visits = visits; marked = marked }

-- a use that begins in a cancel routine ends with its actor's next entry, and so does one that is dropped
abbrev pub use_by : Deed → ℕ → Use
use_by d memory = record { who = d.who; memory = memory }

abbrev pub used : Noted → Deed → ℕ → Noted
used noted d memory =
    if d.visits
    then record noted { leaving = with_one is_use_below (use_by d memory) noted.leaving }
    else record noted { held = with_one is_use_below (use_by d memory) noted.held }

abbrev pub dropped : Noted → Deed → ℕ → Noted
dropped noted d memory =
    if not d.visits && list_any (is_use d.who memory) noted.held
    then record noted { held = filter (λ (u : Use). not (is_use d.who memory u)) noted.held; leaving = with_one is_use_below (use_by d memory) noted.leaving }
    else noted

abbrev pub noted_by : Deed → Noted → Mark → Noted
noted_by d noted (Uses memory) = used noted d memory
noted_by d noted (Drop memory) = dropped noted d memory
noted_by d noted (Free memory) = record noted { freed = with_one nat_lt memory noted.freed }
noted_by d noted (Quiet target) = record noted { quiet = with_one is_hush_below (record { line = d.marked.line; target = target }) noted.quiet }

abbrev pub behind : Noted → Deed → Noted
behind noted d = noted_by d noted d.marked.mark

-- what is wrong with a mark, in the world behind its entry
abbrev pub mark_faults : World → Noted → ℕ → Mark → List Fault
mark_faults w noted line (Uses memory) = fault_if (is_among memory noted.freed) UseAfterFree line
mark_faults w noted line (Drop memory) = []
mark_faults w noted line (Free memory) = fault_if (is_among memory noted.freed) FreedTwice line ++ fault_if (is_in_use noted memory) FreedInUse line
mark_faults w noted line (Quiet target) = fault_if (list_any (is_run_of target) w.callbacks) NotQuiet line

abbrev pub deed_faults : World → Noted → List Deed → List Fault
deed_faults w noted [] = []
deed_faults w noted (d ∷ ds) = mark_faults w noted d.marked.line d.marked.mark ++ deed_faults w (behind noted d) ds

-- ---- scenes

-- a scene without the callbacks that are over
abbrev pub shown : Scene → Scene
shown s = record s { world = forget s.world }

-- ---- what is left

-- each client has finished, no callback runs and none is pending
abbrev pub is_at_rest : World → Bool
is_at_rest w = list_all (λ (r : ClientRow). r.finished) w.clients && not (list_any (λ (c : CallbackRow). is_running c.status || is_pending c.status) w.callbacks)

abbrev pub left_as : Status → LeftAs
left_as status.Expected = left.Expected
left_as status.Issued = left.Issued
left_as _ = left.Pending

abbrev pub left_fault : List ℕ → CallbackRow → Fault
left_fault lines c = record { kind = Left (left_as c.status); line = unwrap_or (numbered lines c.object.0) 0 }

abbrev pub left_faults : World → List ℕ → List Fault
left_faults w lines = if is_at_rest w then map (left_fault lines) (filter (λ (c : CallbackRow). is_operating c.status) w.callbacks) else []

-- ---- what an entry makes and ends

abbrev pub is_create : Call → Bool
is_create (call.Create kind routine context env) = true
is_create _ = false

abbrev pub is_made : Answer → Bool
is_made (answer.Made number) = true
is_made _ = false

-- a part ends with its last call
abbrev pub ends_part : Place → Place → Bool
ends_part before after = is_in_part before.stage && not (is_in_part after.stage)

module _ (k : Watched) where
  -- the line of the operation that an actor makes
  abbrev pub line_at : Who → Place → ℕ
  line_at who p = line_in k (part_in p.stage who) p.at.op

  -- what an answer tells that an actor had at this place, in the world behind it
  abbrev pub answer_faults : Noted → World → Who → Place → Answer → List Fault
  answer_faults noted w who p (answer.Refused refusal) = fault_if (not (may_refuse_in k (part_in p.stage who) p.at.op)) (Refused refusal) (line_at who p)
  answer_faults noted w who p answer.Stalled = fault_if true Stalled (line_at who p)
  answer_faults noted w who p (answer.Taken callback object routine context result) = taken_faults w callback noted.quiet
  answer_faults noted w who p _ = []

  -- the uses end that were to, and with a part all that it goes on with; an object that is made has its line
  abbrev pub noted_at : Noted → Place → Place → Entry → Noted
  noted_at noted before after e = record noted {
    held = if ends_part before after then without e.who noted.held else noted.held;
    leaving = without e.who noted.leaving;
    lines = if is_create e.call && is_made e.answer then noted.lines ++ line_at e.who before ∷ [] else noted.lines;
  }

  -- ---- the marks of an entry

  -- a part says what stands above the line that it has come to
  abbrev pub own_deeds : Place → Place → Entry → List Deed
  own_deeds before after e =
      if is_taken e.answer || not (before.at.op == after.at.op)
      then map (deed e.who false) (marks_in k (part_in after.stage e.who) after.at)
      else []

  -- the other clients begin as client 1 finishes
  abbrev pub client_deeds : ℕ → List Deed
  client_deeds number = map (deed (Client number) false) (k.marks (part.Client number) first_progress)

  abbrev pub first_deeds : Limits → Place → Place → Entry → List Deed
  first_deeds limits before after e =
      if is_same_actor e.who (Client 1) && ends_part before after
      then flat_map client_deeds (range_with_len 2 (limits.clients - 1))
      else []

  -- a notice calls a cancel routine, which says all that it has to say
  abbrev pub notice_deeds : Who → Answer → List Deed
  notice_deeds who (answer.Notice object routine context cleanup) = map (deed who true) (k.all_marks routine)
  notice_deeds who _ = []

  abbrev pub deeds : Limits → Place → Place → Entry → List Deed
  deeds limits before after e = own_deeds before after e ++ first_deeds limits before after e ++ notice_deeds e.who e.answer

  -- ---- an entry

  module _ (limits : Limits) where
    -- what is noted behind an entry that leads from one scene to the other
    abbrev pub noted_between : Scene → Scene → Noted → Entry → Noted
    noted_between s t noted e = fold behind (noted_at noted (s.places e.who) (t.places e.who) e) (deeds limits (s.places e.who) (t.places e.who) e)

    -- the faults that it brings, as far as they are looked for: those of its answer, then of its marks, then of what is left
    abbrev pub faults_between : Scene → Scene → Noted → Entry → List Fault
    faults_between s t noted e = filter k.wants (
        answer_faults noted t.world e.who (s.places e.who) e.answer
        ++ deed_faults t.world (noted_at noted (s.places e.who) (t.places e.who) e) (deeds limits (s.places e.who) (t.places e.who) e)
        ++ left_faults t.world (noted_between s t noted e).lines)

    -- ---- a history

    abbrev pub faults_from : Scene → Noted → List Entry → List Fault
    faults_from s noted [] = []
    faults_from s noted (e ∷ rest) =
        let t = scene_after k.given s e in
        faults_between (shown s) (shown t) noted e ++ faults_from t (noted_between (shown s) (shown t) noted e) rest

    abbrev pub faults_of : List Entry → List Fault
    faults_of history = faults_from (first_scene limits) nothing_noted history

    -- what is noted behind a history
    abbrev pub noted_from : Scene → Noted → List Entry → Noted
    noted_from s noted [] = noted
    noted_from s noted (e ∷ rest) =
        let t = scene_after k.given s e in
        noted_from t (noted_between (shown s) (shown t) noted e) rest
