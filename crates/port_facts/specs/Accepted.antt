-- Entries that may follow on a history: the calls that they tell of are answered as they say.
use Rattle.std.specs.Prelude.{◌≡◌, ℕ, List, ◌++◌, map, false, true}
use Rattle.tp_base.specs.declared.answers.Entry.{Entry}
use Rattle.tp_base.specs.declared.answers.Outcome.{Outcome}
use Rattle.tp_base.specs.declared.answers.Outcome.TheVariants.{Done}
use Rattle.tp_base.specs.declared.calls.Call.{Call}
use Rattle.tp_base.specs.declared.ids.Who.{Who}
use Rattle.tp_base.specs.declared.ids.Who.TheVariants.{Client}
use Rattle.tp_model.specs.Conditions.{is_actor, is_finished, is_in_wait}
use Rattle.tp_model.specs.History.{IsLegal}
use Rattle.tp_model.specs.World.{World}
use Rattle.recorded.specs.Recordings.{all_made, outcomes_behind, Recording}

-- the client is there, hasn't finished and has no wait begun
pub record MayCall (w : World) (client : ℕ) : Type 0 where
  pub actor : is_actor w (Client client) ≡ true
  pub unfinished : is_finished w (Client client) ≡ false
  pub unwaiting : is_in_wait w (Client client) ≡ false

abbrev pub call_of : Entry → Who × Call
call_of entry = (entry.who, entry.call)

abbrev pub outcome_told : Entry → Outcome
outcome_told entry = Done entry.answer

abbrev pub with_entries : Recording → List Entry → Recording
with_entries r entries = record r { history = r.history ++ entries }

-- the entries may stand behind the history
abbrev pub MayFollow : Recording → List Entry → Type 0
MayFollow r entries = IsLegal r.limits r.capacity (r.history ++ entries)

-- behind the recording the entries' calls come to their answers, and they are what is written down
pub record AreAccepted (r : Recording) (entries : List Entry) : Type 0 where
  pub legal : MayFollow r entries
  pub outcomes : outcomes_behind r (map call_of entries) ≡ map outcome_told entries
  pub made : all_made r (map call_of entries) ≡ with_entries r entries
