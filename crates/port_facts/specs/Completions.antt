-- Completions that devices post, in the order in which they are made.
use Rattle.std.specs.Prelude.{◌≡◌, ℕ, ◌+◌, eqb, List, length, map, is_some, true}
use Rattle.std.specs.List.{AllByRecursion, IsDistinct}
use Rattle.tp_base.specs.declared.answers.Answer.TheVariants.{Queued}
use Rattle.tp_base.specs.declared.answers.Entry.{Entry}
use Rattle.tp_base.specs.declared.calls.Call.TheVariants.{CompleteIo}
use Rattle.tp_base.specs.declared.ids.Who.TheVariants.{Client}
use Rattle.tp_model.specs.Calls.Io.{issued_of}
use Rattle.tp_model.specs.World.{World}
use Rattle.recorded.specs.Recordings.{room_of, world_behind, Recording}
use Rattle.port_facts.specs.Accepted.{with_entries, AreAccepted, MayCall}
use Rattle.port_facts.specs.declared.Posted.{Posted}

-- the entry of a completion: by the client of its device, and its callback is pending then
abbrev pub completion_of : Posted → Entry
completion_of x = record {
  who = Client (x.device + 1);
  call = CompleteIo x.completion.callback x.completion.error x.completion.bytes;
  answer = Queued x.completion.callback 1;
}

abbrev pub completions : List Posted → List Entry
completions posted = map completion_of posted

abbrev pub callbacks : List Posted → List ℕ
callbacks posted = map (λ (x : Posted). x.completion.callback) posted

-- the operation is under way, and the client of the device may call
pub record IsCompletable (w : World) (x : Posted) : Type 0 where
  pub client : MayCall w (x.device + 1)
  pub issued : is_some (issued_of w x.completion.callback) ≡ true

pub record AreCompletable (w : World) (posted : List Posted) : Type 0 where
  pub each : AllByRecursion (IsCompletable w) posted
  pub distinct : IsDistinct eqb (callbacks posted)

-- they are accepted; the clients that might call still may, and the room is less by one for each
pub record HaveCompleted (r : Recording) (posted : List Posted) : Type 0 where
  pub accepted : AreAccepted r (completions posted)
  pub clients : (client : ℕ) → MayCall (world_behind r) client → MayCall (world_behind (with_entries r (completions posted))) client
  pub room : room_of (with_entries r (completions posted)) + length posted ≡ room_of r
