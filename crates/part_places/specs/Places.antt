-- Where an actor is in its work. Its own entries tell, one after another.
use Rattle.std.specs.Prelude.{Bool, true, false, List, Option, None, Some, if◌then◌else◌, is_some, ◌&&◌, ◌||◌}
use Rattle.std.specs.List.{fold}
use Rattle.tp_base.specs.declared.answers.Answer.{Answer}
use Rattle.tp_base.specs.declared.answers.Answer.TheVariants.{Taken}
use Rattle.tp_base.specs.declared.answers.Entry.{Entry}
use Rattle.tp_base.specs.declared.calls.Call.{Call}
use Rattle.tp_base.specs.declared.calls.Call.TheVariants.{End, Finish, Return}
use Rattle.tp_base.specs.declared.ids.Who.{Who}
use Rattle.tp_base.specs.declared.ids.Who.TheVariants.{Client, Worker}
use Rattle.tp_base.specs.declared.plans.Stage.{Stage}
use Rattle.tp_base.specs.declared.plans.Stage.TheVariants as stage
use Rattle.tp_model.specs.Stages.{first_stage, stage_after, waits_after}
use Rattle.tp_script.specs.declared.routines.Part.{Part}
use Rattle.tp_script.specs.declared.routines.Part.TheVariants as part
use Rattle.tp_script.specs.declared.routines.Progress.{Progress}
use Rattle.tp_script.specs.Nexts.{first_progress}
use Rattle.part_places.specs.declared.place.Place.{Place}

-- the calls of routines, part by part: which one follows, and how far the part is behind its answer
pub record Given : Type 0 where
  pub next : Part → Progress → Option Call
  pub after : Part → Progress → Answer → Progress

abbrev pub given : {R : Type 0} → (R → Part → Progress → Option Call) → (R → Part → Progress → Answer → Progress) → R → Given
given next_of after_of routines = record { next = next_of routines; after = after_of routines }

-- whose calls an actor makes at a stage: a client its own, a worker those of its callback's routine
abbrev pub client_part : Who → Option Part
client_part (Client number) = Some (part.Client number)
client_part (Worker number) = None

abbrev pub part_in : Stage → Who → Option Part
part_in stage.Playing who = client_part who
part_in (stage.Busy routine) who = Some (part.Routine routine)
part_in _ who = None

abbrev pub next_in : Given → Option Part → Progress → Option Call
next_in g None at = None
next_in g (Some of) at = g.next of at

abbrev pub told_in : Given → Option Part → Progress → Answer → Progress
told_in g None at told = at
told_in g (Some of) at told = g.after of at told

-- the call that follows in the actor's part, if one does: while a wait is begun its end
abbrev pub next_call : Given → Who → Place → Option Call
next_call g who p = if p.waits then Some End else next_in g (part_in p.stage who) p.at

-- the calls that end a part
abbrev pub is_last : Call → Bool
is_last Finish = true
is_last Return = true
is_last _ = false

abbrev pub is_taken : Answer → Bool
is_taken (Taken callback object routine context result) = true
is_taken _ = false

-- a callback begins at its routine's first call
abbrev pub progress_after : Given → Who → Place → Call → Answer → Progress
progress_after g who p made told = if is_taken told then first_progress else (if is_last made then p.at else told_in g (part_in p.stage who) p.at told)

-- where the actor is after a call and its answer. A part that ends before its last call was cut
abbrev pub place_after : Given → Who → Place → Call → Answer → Place
place_after g who p made told = record {
  stage = stage_after p.stage made told;
  waits = waits_after p.waits made told;
  at = progress_after g who p made told;
  cut = p.cut || (is_last made && is_some (next_call g who p));
}

-- after entries
abbrev pub place_from : Given → Who → Place → List Entry → Place
place_from g who p entries = fold (λ (at : Place) (entry : Entry). place_after g who at entry.call entry.answer) p entries

-- before its first call
abbrev pub opening : Who → Place
opening who = record { stage = first_stage who; waits = false; at = first_progress; cut = false }
