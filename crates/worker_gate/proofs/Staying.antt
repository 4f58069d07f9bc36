-- What is known of an actor whose role has had two turns and hasn't moved.
use Rattle.std.proofs.Common.{◌≡◌, ℕ, Bool, true, false, not, if◌then◌else◌, List, [], ◌∷◌, ◌++◌, length, Option, None, Some, refl, sym, ap, ◌∙◌, arith, length-append}
use Rattle.std.proofs.lemmas.Bool.{or_right}
use Rattle.tp_base.specs.declared.answers.Entry.{Entry}
use Rattle.tp_base.specs.declared.answers.Outcome.{Outcome}
use Rattle.tp_base.specs.declared.answers.Outcome.TheVariants as outcome
use Rattle.tp_base.specs.declared.calls.Call.{Call}
use Rattle.tp_base.specs.declared.calls.Call.TheVariants.{Attach, Detach, End, Finish, Return, Take}
use Rattle.tp_base.specs.declared.ids.PoolId.{PoolId}
use Rattle.tp_base.specs.declared.ids.RoutineId.{RoutineId}
use Rattle.tp_base.specs.declared.ids.Who.{Who}
use Rattle.tp_base.specs.declared.ids.Who.TheVariants.{Client, Worker}
use Rattle.tp_base.specs.declared.limits.Limits.{Limits}
use Rattle.tp_base.specs.declared.plans.Idle.{Idle}
use Rattle.tp_base.specs.declared.plans.Stage.{Stage}
use Rattle.tp_base.specs.declared.plans.Stage.TheVariants.{Away, Busy, Idle as Resting, Over, Playing}
use Rattle.tp_base.specs.declared.rows.WorkerRow.{WorkerRow}
use Rattle.tp_model.specs.Conditions.{idle_in, idle_of, idle_row, is_worker, runs_callback}
use Rattle.tp_model.specs.Counts.{numbered}
use Rattle.tp_model.specs.History.{after}
use Rattle.tp_model.specs.Stages.{is_busy_stage, is_in_part, is_return, is_wait_outcome, stage_of, waits_of, IsActor, MachineFacts}
use Rattle.tp_model.specs.Step.{outcome_of}
use Rattle.tp_model.specs.Support.Sound.{IsSound}
use Rattle.tp_model.specs.Table.{step}
use Rattle.tp_model.specs.World.{World}
use Rattle.tp_model.proofs.Entries.{next_number_in}
use Rattle.tp_script.specs.declared.routines.Progress.{Progress}
use Rattle.recorded.specs.Recordings.{entries_told, room_of}
use Rattle.part_places.specs.declared.place.Place.{Place}
use Rattle.worker_gate.specs.declared.role.Role.{Role}
use Rattle.part_places.specs.Places.{next_call, Given}
use Rattle.worker_gate.specs.Roles.{due_of, due_or, ended_turn, ends, is_idle_take, is_stage_of, played_turn, took, turned, Turned}
use Rattle.worker_gate.specs.Walks.{comes_to, is_full}
use Rattle.worker_gate.proofs.Going.{idle_at, is_done, leaves_unfilled}
use Rattle.worker_gate.proofs.Looking.{looks, never_looks, still_waits, StillWaits}
use Rattle.worker_gate.proofs.Quiet.{is_held}
use Rattle.worker_gate.proofs.Stepping.{at_place}

-- an actor in a part waits for what isn't there yet, and the machine isn't stalled; a worker that runs nothing joins no pool,
-- or neither takes a callback nor leaves
abbrev pub StaysAt : World → ℕ → Who → Stage → Type 0
StaysAt w room who Playing = StillWaits w room who
StaysAt w room who (Busy routine) = StillWaits w room who
StaysAt w room who Over = Unit {0}
StaysAt w room who Away = is_done (outcome_of (step w room who Attach)) ≡ false
StaysAt w room who Resting = (is_done (outcome_of (step w room who Take)) ≡ false) × (is_done (outcome_of (step w room who Detach)) ≡ false)

-- the mark behind a call that wasn't made
abbrev pub mark_after : Stage → Call → Outcome → Bool
mark_after at made (outcome.Look seen) = is_idle_take at made
mark_after at made _ = true

looks_in_wait : (o : Outcome) → is_wait_outcome o ≡ true → is_done o ≡ false → looks o ≡ true
looks_in_wait (outcome.Done told) waits out = absurd (cc)
looks_in_wait (outcome.Look seen) waits out = refl
looks_in_wait (outcome.Full room cost) waits out = absurd (cc)

return_done : (o : Outcome) → is_return o ≡ true → is_done o ≡ true
return_done (outcome.Done told) is = refl
return_done (outcome.Look seen) is = absurd (cc)
return_done (outcome.Full room cost) is = absurd (cc)

not_done : (o : Outcome) → is_done o ≡ true → is_done o ≡ false → ⊥
not_done o is out = let e : true ≡ false = sym is ∙ out in cc

-- the row of a worker that is idle
idle_row_of : (w : World) (number : ℕ) (by : Idle) → idle_of w (Worker number) ≡ Some by → (pool : PoolId) × (mark : Bool) × (numbered w.workers number ≡ Some (idle_at pool mark))
idle_row_of w number by is = of_row (numbered w.workers number) is
  where
    of_parts : (pool : Option PoolId) (callback : Option ℕ) (mark : Bool) → idle_row number pool callback mark ≡ Some by
        → (p : PoolId) × (m : Bool) × (◌≡◌ {A = Option WorkerRow} (Some (record { pool = pool; callback = callback; persistent = mark })) (Some (idle_at p m)))
    of_parts None None mark e = absurd (cc)
    of_parts None (Some n) mark e = absurd (cc)
    of_parts (Some p) (Some n) mark e = absurd (cc)
    of_parts (Some p) None mark e = (p, mark, refl)

    of_row : (o : Option WorkerRow) → idle_in number o ≡ Some by → (p : PoolId) × (m : Bool) × (o ≡ Some (idle_at p m))
    of_row None e = absurd (cc)
    of_row (Some row) e = of_parts row.pool row.callback row.persistent e

module _ (g : Given) (limits : Limits) (capacity : ℕ) (history : List Entry) (facts : MachineFacts limits history) (sound : IsSound (next_number_in (after limits history)) (after limits history)) (who : Who) (actor : IsActor limits who) where
  abbrev pub left : ℕ
  left = room_of (record { limits = limits; capacity = capacity; history = history })

  abbrev w : World
  w = after limits history

  abbrev comes : Call → Outcome
  comes made = comes_to limits capacity history who made

  -- neither its due call is made, nor the one that is due behind that
  pub record Twice (p : Place) (marked : Bool) : Type 0 where
    pub first : is_done (comes (due_of g who p marked)) ≡ false
    pub second : is_done (comes (due_of g who p (mark_after p.stage (due_of g who p marked) (comes (due_of g who p marked))))) ≡ false

  still : waits_of who history ≡ true → is_done (comes End) ≡ false → StillWaits w left who
  still waits out = still_waits w left who (looks_in_wait (comes End) (facts.ends who actor waits left) out)

  -- outside a wait an actor in a part makes its last call, if not the next one
  module _ (last : Call) (always : is_done (comes last) ≡ true) (free : waits_of who history ≡ false) (held : is_held w who ≡ true) where
    of_outcome : (at : Stage) (made : Call) (o : Outcome) → is_done o ≡ false → looks o ≡ false → is_done (comes (due_or last (mark_after at made o) (Some made))) ≡ false → ⊥
    of_outcome at made (outcome.Done told) out unseen second = absurd (cc)
    of_outcome at made (outcome.Look seen) out unseen second = absurd (cc)
    of_outcome at made (outcome.Full room cost) out unseen second = not_done (comes last) always second

    moves : (at : Stage) (marked : Bool) (next : Option Call) → is_done (comes (due_or last marked next)) ≡ false → is_done (comes (due_or last (mark_after at (due_or last marked next) (comes (due_or last marked next))) next)) ≡ false → ⊥
    moves at marked None first second = not_done (comes last) always first
    moves at true (Some made) first second = not_done (comes last) always first
    moves at false (Some made) first second = of_outcome at made (comes made) first (never_looks w left who made ((facts.stands who actor).wait ∙ free) held) second

  -- an idle worker tries both
  takes_then : (o : Outcome) → is_done o ≡ false → is_done (comes (if mark_after Resting Take o then Detach else Take)) ≡ false → is_done (comes Detach) ≡ false
  takes_then (outcome.Done told) out second = absurd (cc)
  takes_then (outcome.Look seen) out second = second
  takes_then (outcome.Full room cost) out second = second

  leaves_then : (o : Outcome) → is_done o ≡ false → is_full o ≡ false → is_done (comes (if mark_after Resting Detach o then Detach else Take)) ≡ false → is_done (comes Take) ≡ false
  leaves_then (outcome.Done told) out unfilled second = absurd (cc)
  leaves_then (outcome.Look seen) out unfilled second = second
  leaves_then (outcome.Full room cost) out unfilled second = absurd (cc)

  unfilled : (at : Who) → who ≡ at → Resting ≡ stage_of who history → is_full (comes Detach) ≡ false
  unfilled (Client number) is rests = let i = (facts.stands who actor).idle (sym rests) in let none : None ≡ Some i.by = sym (ap (idle_of w) is) ∙ i.is in absurd (cc)
  unfilled (Worker number) is rests =
      let i = (facts.stands who actor).idle (sym rests) in
      let row = idle_row_of w number i.by (sym (ap (idle_of w) is) ∙ i.is) in
      ap (λ (x : Who). is_full (comes_to limits capacity history x Detach)) is ∙ leaves_unfilled w left sound number row.0 row.1 row.2

  playing_held : (at : Who) → is_stage_of at Playing ≡ true → is_held w at ≡ true
  playing_held (Client number) sorted = refl
  playing_held (Worker number) sorted = absurd (cc)

  busy_held : (routine : RoutineId) → Busy routine ≡ stage_of who history → is_held w who ≡ true
  busy_held routine busy = or_right (not (is_worker who)) (runs_callback w who) ((facts.stands who actor).runs ∙ ap is_busy_stage (sym busy))

  pub stays : (at : Stage) (waits : Bool) (progress : Progress) (cut marked : Bool) → at ≡ stage_of who history → waits ≡ waits_of who history → (is_in_part at ≡ false → waits ≡ false) → is_stage_of who at ≡ true
      → Twice (at_place at waits progress cut) marked → StaysAt w left who at
  stays Playing true progress cut marked is waits calm sorted t = still (sym waits) t.first
  stays (Busy routine) true progress cut marked is waits calm sorted t = still (sym waits) t.first
  stays Playing false progress cut marked is waits calm sorted t =
      absurd (moves Finish (ap is_done (facts.finishes who actor (sym is) (sym waits) left)) (sym waits) (playing_held who sorted) Playing marked (next_call g who (at_place Playing false progress cut)) t.first t.second)
  stays (Busy routine) false progress cut marked is waits calm sorted t =
      absurd (moves Return (return_done (comes Return) (facts.returns who routine actor (sym is) (sym waits) left)) (sym waits) (busy_held routine is) (Busy routine) marked
      (next_call g who (at_place (Busy routine) false progress cut)) t.first t.second)
  stays Over waits_now progress cut marked is waits calm sorted t = tt
  stays Away true progress cut marked is waits calm sorted t = let e : true ≡ false = calm refl in absurd (cc)
  stays Resting true progress cut marked is waits calm sorted t = let e : true ≡ false = calm refl in absurd (cc)
  stays Away false progress cut marked is waits calm sorted t = t.first
  stays Resting false progress cut false is waits calm sorted t = (t.first, takes_then (comes Take) t.first t.second)
  stays Resting false progress cut true is waits calm sorted t = (leaves_then (comes Detach) t.first (unfilled who refl is) t.second, t.first)

-- ---- a role and its turns

adds_none : (history : List Entry) (who : Who) (made : Call) (o : Outcome) → history ++ entries_told who made o ≡ history → is_done o ≡ false
adds_none history who made (outcome.Look seen) is = refl
adds_none history who made (outcome.Full room cost) is = refl
adds_none history who made (outcome.Done told) is =
    let e : Entry = record { who = who; call = made; answer = told } in
    let longer : length (history ++ e ∷ []) ≡ length history = ap length is in
    absurd (omega (arith, longer, length-append history (e ∷ [])))

module _ (g : Given) (limits : Limits) (capacity : ℕ) (history : List Entry) where
  abbrev turn : Role → Turned
  turn r = turned g limits capacity history r

  abbrev due : Role → Call
  due r = due_of g r.who r.place r.marked

  abbrev told : Role → Outcome
  told r = comes_to limits capacity history r.who (due r)

  -- it adds no entry in two turns behind this history, and doesn't end
  pub record IsIdle (r : Role) : Type 0 where
    pub first : (turn r).history ≡ history
    pub second : (turn (turn r).role).history ≡ history
    pub ended : (turn r).role.ended ≡ true → r.ended ≡ true

  plays : (r : Role) → ends limits capacity history r ≡ false → turn r ≡ played_turn g history r (due r) (told r)
  plays r on = ap (λ (b : Bool). if b then ended_turn history r else played_turn g history r (due r) (told r)) on

  unmade : (r : Role) → ends limits capacity history r ≡ false → (turn r).history ≡ history → is_done (told r) ≡ false
  unmade r on same = adds_none history r.who (due r) (told r) (sym (ap (λ (t : Turned). t.history) (plays r on)) ∙ same)

  pub twice : (facts : MachineFacts limits history) (sound : IsSound (next_number_in (after limits history)) (after limits history)) (r : Role) (actor : IsActor limits r.who) → ends limits capacity history r ≡ false → IsIdle r
      → Twice g limits capacity history facts sound r.who actor r.place r.marked
  twice facts sound r actor on idle = record { first = unmade r on idle.first; second = of_told (told r) refl (unmade r on idle.first) }
    where
      again : (o : Outcome) → told r ≡ o → (turn r).role ≡ took g r (due r) o
      again o is = ap (λ (t : Turned). t.role) (plays r on) ∙ ap (took g r (due r)) is

      of_told : (o : Outcome) → told r ≡ o → is_done o ≡ false → is_done (comes_to limits capacity history r.who (due_of g r.who r.place (mark_after r.place.stage (due r) o))) ≡ false
      of_told (outcome.Done a) is out = absurd (cc)
      of_told (outcome.Look seen) is out =
          let q : Role = record r { marked = is_idle_take r.place.stage (due r) } in
          unmade q on (ap (λ (x : Role). (turn x).history) (sym (again (outcome.Look seen) is)) ∙ idle.second)
      of_told (outcome.Full room cost) is out =
          let q : Role = record r { marked = true } in
          unmade q on (ap (λ (x : Role). (turn x).history) (sym (again (outcome.Full room cost) is)) ∙ idle.second)
