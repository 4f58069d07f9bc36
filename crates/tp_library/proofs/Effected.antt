-- What a call makes of a machine, by what its answer says of what is kept beside it.
use Rattle.std.proofs.Common.{◌≡◌, ℕ, ◌-◌, ◌==◌, Bool, true, false, cond, List, [], ◌∷◌, ◌++◌, Option, None, Some, refl, sym, ap, ◌∙◌, slice_get, slice_set, if◌then◌else◌, zero, suc}
use Rattle.std.specs.Prelude.{map}
use Rattle.std.proofs.lemmas.List.{map-append}
use Rattle.tp_base.specs.declared.answers.Answer.{Answer}
use Rattle.tp_base.specs.declared.answers.Answer.TheVariants as answer
use Rattle.tp_base.specs.declared.calls.Call.{Call}
use Rattle.tp_base.specs.declared.calls.Call.TheVariants.{BeginClose, BeginWait, CancelIo, CloseObject, Create, Finish, Return, SubmitSimple}
use Rattle.tp_base.specs.declared.ids.Who.{Who}
use Rattle.tp_base.specs.declared.rows.CallbackRow.{CallbackRow}
use Rattle.tp_base.specs.declared.rows.ObjectRow.{ObjectRow}
use Rattle.tp_model.specs.Counts.{numbered}
use Rattle.tp_model.specs.Groups.{is_member, released_from}
use Rattle.tp_model.specs.World.{World}
use Rattle.tp_library.specs.Counted.{applied, client_number, finished_in, finished_told, on_objects, released_row, runs_of, runs_told, with_finished, with_run, Closes as Closed, Keeps, Makes as Made, OnObjects, Releases as Left}
use Rattle.tp_library.specs.Effecting.{effect_of, of_begun, of_cancelled, of_closed, of_closing, of_done, of_made, of_queued}
use Rattle.tp_library.specs.Kept.{groups_in}
use Rattle.tp_library.specs.Libraries.{freed_slot, shelf_answered, slot_of, with_slot}
use Rattle.tp_library.specs.Shelves.{Shelf}
use Rattle.tp_library.specs.declared.told.Effect.{Effect}
use Rattle.tp_library.specs.declared.told.Effect.TheVariants.{Makes, Releases, Closes, Cancels, Submits, Takes, Returns, Finishes}
use Rattle.tp_library.proofs.Effects.{IsCut, IsGroupCut, IsKept, IsReturned, IsSame, IsTaken}
use Rattle.tp_library.proofs.Holding.{Held, IsGroupLeft, IsHeldLess, IsHeldMore, IsHeldSame}
use Rattle.tp_library.proofs.Matching.{IsOf}

-- ---- what is said of an effect

abbrev pub HeldBy : World → Shelf → Effect → ℕ → World → Shelf → Type 0
HeldBy w s (Makes group) library after now = IsHeldMore group.0 library w s after now
HeldBy w s (Releases object) library after now = IsHeldLess object w s after now
HeldBy w s (Closes group cancelled) library after now = IsGroupLeft group.0 w s after now
HeldBy w s effect library after now = IsHeldSame w s after now

abbrev pub KeptBy : World → Who → Effect → List CallbackRow → Type 0
KeptBy w who (Takes callback object) kept = IsTaken w who callback object kept
KeptBy w who Returns kept = IsReturned w who kept
KeptBy w who (Cancels object count) kept = IsCut w object count kept
KeptBy w who (Closes group cancelled) kept = IsGroupCut w cancelled kept
KeptBy w who effect kept = IsSame w kept

abbrev pub finished_by : Who → Effect → List Bool → List Bool
finished_by who Finishes clients = with_finished (client_number who) clients
finished_by who effect clients = clients

abbrev pub runs_by : Who → Effect → List (Option ℕ) → List (Option ℕ)
runs_by who (Takes callback object) runs = with_run who (Some callback) runs
runs_by who Returns runs = with_run who None runs
runs_by who effect runs = runs

abbrev pub groups_by : Effect → List ℕ → List ℕ
groups_by (Makes group) groups = groups ++ group.0 ∷ []
groups_by effect groups = groups

abbrev pub shelf_by : Shelf → Who → Effect → ℕ → Shelf
shelf_by s who (Makes group) library = record s { of_object = s.of_object ++ library ∷ [] }
shelf_by s who (Submits callback) library = if library == 0 then s else record s { of_simple = s.of_simple ++ (callback, library) ∷ [] }
shelf_by s who Returns library = with_slot (freed_slot s (slot_of s who)) who 0
shelf_by s who effect library = s

pub record By (w : World) (s : Shelf) (who : Who) (effect : Effect) (library : ℕ) (after : World) (now : Shelf) (kept : List CallbackRow) : Type 0 where
  pub held : HeldBy w s effect library after now
  pub counts : KeptBy w who effect kept
  pub finished : finished_in after ≡ finished_by who effect (finished_in w)
  pub runs : runs_of after ≡ runs_by who effect (runs_of w)
  pub groups : groups_in after ≡ groups_by effect (groups_in w)

-- ---- groups of objects

abbrev group_row : ObjectRow → ℕ
group_row o = o.env.group.0

abbrev with_group : OnObjects → List ℕ → List ℕ
with_group (Made row) groups = groups ++ group_row row ∷ []
with_group on groups = groups

map_set_same : (os : List ObjectRow) (i : ℕ) (old new : ObjectRow) → slice_get os i ≡ Some old → group_row new ≡ group_row old → map group_row (slice_set os i new) ≡ map group_row os
map_set_same [] i old new at same = refl
map_set_same (x ∷ xs) zero old new at same =
    let is : x ≡ old = cc in
    ap (λ g. g ∷ map group_row xs) (same ∙ sym (ap group_row is))
map_set_same (x ∷ xs) (suc i) old new at same = ap (λ gs. group_row x ∷ gs) (map_set_same xs i old new at same)

numbered_at : (os : List ObjectRow) (object : ℕ) (row : ObjectRow) → numbered os object ≡ Some row → slice_get os (object - 1) ≡ Some row
numbered_at os object row =
    elim (object == 0) as (λ b. cond b None (slice_get os (object - 1)) ≡ Some row → slice_get os (object - 1) ≡ Some row) [
      | true ↦ λ e. absurd cc
      | false ↦ λ e. e
    ]

released_same : (os : List ObjectRow) (object : ℕ) (row : Option ObjectRow) → numbered os object ≡ row → map group_row (released_row os object row) ≡ map group_row os
released_same os object None is = refl
released_same os object (Some row) is = map_set_same os (object - 1) row (record row { released = true }) (numbered_at os object row is) refl

left_same : (group : ℕ) (os : List ObjectRow) → map group_row (map (released_from group) os) ≡ map group_row os
left_same group [] = refl
left_same group (o ∷ os) =
    elim (is_member group o) as (λ b. group_row (cond b (record o { released = true }) o) ∷ map group_row (map (released_from group) os) ≡ group_row o ∷ map group_row os) [
      | true ↦ ap (λ gs. group_row o ∷ gs) (left_same group os)
      | false ↦ ap (λ gs. group_row o ∷ gs) (left_same group os)
    ]

pub groups_applied : (on : OnObjects) (os : List ObjectRow) → map group_row (applied on os) ≡ with_group on (map group_row os)
groups_applied Keeps os = refl
groups_applied (Made row) os = map-append group_row os (row ∷ [])
groups_applied (Closed object) os = released_same os object.0 (numbered os object.0) refl
groups_applied (Left group) os = left_same group.0 os

-- ---- each answer

module _ (w : World) (s : Shelf) (who : Who) (library : ℕ) (after : World) (now : Shelf) (kept : List CallbackRow) where
  abbrev Said : Call → Answer → Type 0
  Said call a =
      Held w s call library a after now
      × IsKept w who call a kept
      × (finished_in after ≡ finished_told who call a (finished_in w))
      × (runs_of after ≡ runs_told who a (runs_of w))
      × (groups_in after ≡ with_group (on_objects call a) (groups_in w))

  of_done_call : (call : Call) → Said call answer.Done → By w s who (of_done call) library after now kept
  of_done_call Finish x = record { held = x.0; counts = x.1; finished = x.2; runs = x.3; groups = x.4 }
  of_done_call call x = record { held = x.0; counts = x.1; finished = x.2; runs = x.3; groups = x.4 }

  of_made_call : (call : Call) (number : ℕ) → Said call (answer.Made number) → By w s who (of_made call) library after now kept
  of_made_call (Create kind routine context env) number x = record { held = x.0; counts = x.1; finished = x.2; runs = x.3; groups = x.4 }
  of_made_call call number x = record { held = x.0; counts = x.1; finished = x.2; runs = x.3; groups = x.4 }

  of_queued_call : (call : Call) (first count : ℕ) → Said call (answer.Queued first count) → By w s who (of_queued call first) library after now kept
  of_queued_call (SubmitSimple routine context env) first count x = record { held = x.0; counts = x.1; finished = x.2; runs = x.3; groups = x.4 }
  of_queued_call call first count x = record { held = x.0; counts = x.1; finished = x.2; runs = x.3; groups = x.4 }

  of_closed_call : (call : Call) (later : Bool) → Said call (answer.Closed later) → By w s who (of_closed call) library after now kept
  of_closed_call (CloseObject kind object) later x = record { held = x.0; counts = x.1; finished = x.2; runs = x.3; groups = x.4 }
  of_closed_call call later x = record { held = x.0; counts = x.1; finished = x.2; runs = x.3; groups = x.4 }

  of_closing_call : (call : Call) (covered cancelled notices : ℕ) → IsOf call (answer.Closing covered cancelled notices) → Said call (answer.Closing covered cancelled notices) → By w s who (of_closing call cancelled) library after now kept
  of_closing_call (BeginClose group cancel context) covered cancelled notices of x = record { held = x.0; counts = x.1; finished = x.2; runs = x.3; groups = x.4 }
  of_closing_call call covered cancelled notices of x = absurd cc

  of_begun_call : (call : Call) (covered cancelled : ℕ) → Said call (answer.Begun covered cancelled) → By w s who (of_begun call cancelled) library after now kept
  of_begun_call (BeginWait kind object cancel) covered cancelled x = record { held = x.0; counts = x.1; finished = x.2; runs = x.3; groups = x.4 }
  of_begun_call call covered cancelled x = record { held = x.0; counts = x.1; finished = x.2; runs = x.3; groups = x.4 }

  of_cancelled_call : (call : Call) (callback : ℕ) → Said call (answer.Cancelled callback) → By w s who (of_cancelled call) library after now kept
  of_cancelled_call (CancelIo object) callback x = record { held = x.0; counts = x.1; finished = x.2; runs = x.3; groups = x.4 }
  of_cancelled_call call callback x = record { held = x.0; counts = x.1; finished = x.2; runs = x.3; groups = x.4 }

  pub said_by : (call : Call) (a : Answer) → IsOf call a → Said call a → By w s who (effect_of call a) library after now kept
  said_by call answer.Done of x = of_done_call call x
  said_by call (answer.Made number) of x = of_made_call call number x
  said_by call (answer.Queued first count) of x = of_queued_call call first count x
  said_by call (answer.Closed later) of x = of_closed_call call later x
  said_by call (answer.Closing covered cancelled notices) of x = of_closing_call call covered cancelled notices of x
  said_by call (answer.Begun covered cancelled) of x = of_begun_call call covered cancelled x
  said_by call (answer.Cancelled callback) of x = of_cancelled_call call callback x
  said_by call a of x = record { held = x.0; counts = x.1; finished = x.2; runs = x.3; groups = x.4 }

-- ---- the shelf

pub shelf_is : (s : Shelf) (who : Who) (call : Call) (library : ℕ) (a : Answer) → IsOf call a → shelf_answered s who call library a ≡ shelf_by s who (effect_of call a) library
shelf_is s who (Create kind routine context env) library (answer.Made number) of = refl
shelf_is s who (SubmitSimple routine context env) library (answer.Queued first count) of = refl
shelf_is s who Return library (answer.Returned section mutex semaphore event first count) of = refl
shelf_is s who call library (answer.Returned section mutex semaphore event first count) of = absurd cc
shelf_is s who call library a of = refl
