-- The law Actions: what a worker's entries have asked for since it took its callback is in the callback's slots.
use Rattle.std.proofs.Common.{◌||◌, ◌≡◌, ◌≢◌, ℕ, ◌+◌, ◌-◌, ◌≤◌, Bool, true, false, cond, ◌&&◌, ◌==◌, List, [], ◌∷◌, ◌++◌, length, Option, Some, None, is_some, is_none, not, option_map, refl, sym, ap, ap₂, ◌∙◌, subst, arith, filter, find, ne_eqb, eqb-true, eq-eqb, length-append}
use Rattle.std.specs.List.{list_any}
use Rattle.std.specs.Option.{option_map_or}
use Rattle.std.proofs.lemmas.List.Elements.{filter-append}
use Rattle.tp_base.specs.Actors.{is_same_actor}
use Rattle.tp_base.specs.Actions.{slot, filled, word, is_unasked, is_same_action}
use Rattle.tp_base.specs.declared.ids.Who.{Who}
use Rattle.tp_base.specs.declared.ids.Who.TheVariants.{Worker}
use Rattle.tp_base.specs.declared.answers.ActionKind.{ActionKind}
use Rattle.tp_base.specs.declared.answers.ActionKind.TheVariants.{Section, Mutex, Semaphore, Event}
use Rattle.tp_base.specs.declared.answers.Entry.{Entry}
use Rattle.tp_base.specs.declared.plans.ActionWords.{ActionWords}
use Rattle.tp_base.specs.declared.rows.Action.{Action}
use Rattle.tp_base.specs.declared.rows.Slots.{Slots}
use Rattle.tp_base.specs.declared.rows.Status.TheVariants.{Running}
use Rattle.tp_base.specs.declared.rows.CallbackRow.{CallbackRow}
use Rattle.tp_base.specs.declared.rows.WorkerRow.{WorkerRow}
use Rattle.tp_model.specs.World.{World}
use Rattle.tp_model.specs.Counts.{numbered, has_number, is_running}
use Rattle.tp_model.specs.Actions.{no_actions}
use Rattle.tp_model.specs.Changes.{replaced, taken as taken_row, operated, returned}
use Rattle.tp_model.specs.Laws.Entries.{asked_by, words_by, is_returned, is_taken, taken_by}
use Rattle.tp_model.specs.Laws.Covered.{returns}
use Rattle.tp_model.specs.Laws.Actions.{asks_for, count_asked, says_unasked}
use Rattle.tp_model.specs.Support.Told.{Deed}
use Rattle.tp_model.specs.Support.Moves.{Move, Moves, Stay, Mark, Attach, Detach, Take, Return, Amend, Operate, Cancel, Asking, asked_slots, IsFreeFor, put}
use Rattle.tp_model.proofs.Callbacks.{find_replaced, find_replaced_other, pending_not_running, before_idle}
use Rattle.tp_model.proofs.Cancelling.{running_passed, find_uncancelled}
use Rattle.tp_model.proofs.Lists.{get_set, get_set_other}
use Rattle.tp_model.proofs.Agreeing.{one_if}
use Rattle.tp_model.proofs.Places.{LastPlace, Here, Earlier, last_place, any_last, find_front}
use Rattle.tp_model.proofs.Refusals.{false_true, and_false, is_own_actor, numbered_some, numbered_at}
use Rattle.tp_model.proofs.Running.{same_row, same_worker}

-- the worker runs a callback that has asked for these actions
pub record RunsWith (cs : List CallbackRow) (ws : List WorkerRow) (worker : ℕ) (slots : Slots) : Type 0 where
  pub row : WorkerRow
  pub number : ℕ
  pub callback : CallbackRow
  pub associated : Bool
  pub stands : numbered ws worker ≡ Some row
  pub busy : row.callback ≡ Some number
  pub found : find (has_number number) cs ≡ Some callback
  pub running : callback.status ≡ Running worker associated slots

-- what an entry means for it
pub data SlotsStep (entry : Entry) (kept : List CallbackRow) (staff : List WorkerRow) (worker : ℕ) (slots : Slots) : Type 0 where
  -- the worker asks for nothing, and doesn't return
  Same : ((kind : ActionKind) → asks_for (Worker worker) kind entry ≡ false) → returns (Worker worker) entry ≡ false → RunsWith kept staff worker slots → SlotsStep entry kept staff worker slots
  -- it asks for one more
  Fills : entry.who ≡ Worker worker → (asking : Asking) → asked_by entry ≡ Some asking.kind → slot asking.kind slots ≡ None → is_returned entry ≡ false → RunsWith kept staff worker (filled asking.kind asking.action slots)
      → SlotsStep entry kept staff worker slots
  -- it returns, and tells what was asked for
  Ends : returns (Worker worker) entry ≡ true → (words : ActionWords) → words_by entry.answer ≡ Some words → ((kind : ActionKind) → is_unasked (word kind words) ≡ is_none (slot kind slots)) → SlotsStep entry kept staff worker slots

module _ (w : World) (entry : Entry) (kept : List CallbackRow) (staff : List WorkerRow) (worker : ℕ) (slots : Slots) (f : RunsWith w.callbacks w.workers worker slots) where
  silent : asked_by entry ≡ None → (kind : ActionKind) → asks_for (Worker worker) kind entry ≡ false
  silent e kind = ap (λ o. is_same_actor entry.who (Worker worker) && option_map_or (is_same_action kind) o false) e ∙ and_false (is_same_actor entry.who (Worker worker))

  goes_on : is_returned entry ≡ false → returns (Worker worker) entry ≡ false
  goes_on e = ap (λ b. is_same_actor entry.who (Worker worker) && b) e ∙ and_false (is_same_actor entry.who (Worker worker))

  -- an entry of another worker
  not_own : (other : ℕ) → entry.who ≡ Worker other → other ≢ worker → is_same_actor entry.who (Worker worker) ≡ false
  not_own other by apart = ap (λ a. is_same_actor a (Worker worker)) by ∙ ne_eqb other worker apart

  -- the worker's row stands where another's is put
  still_stands : (other : ℕ) (old new : WorkerRow) → numbered w.workers other ≡ Some old → other ≢ worker → numbered (put w other new) worker ≡ Some f.row
  still_stands other old new there apart =
      let here = numbered_some w.workers worker f.row f.stands in
      let at = numbered_some w.workers other old there in
      numbered_at (put w other new) worker f.row here.1
      (get_set_other w.workers (other - 1) (worker - 1) new (λ e. apart (omega (arith, e, here.1, at.1))) ∙ here.0)

  -- a worker that runs nothing is another
  free_other : (other : ℕ) (row : WorkerRow) → numbered w.workers other ≡ Some row → row.callback ≡ None → other ≢ worker
  free_other other row there free same =
      let rows : Some row ≡ Some f.row = sym there ∙ ap (numbered w.workers) same ∙ f.stands in
      let is : row ≡ f.row = cc in
      let none : None ≡ Some f.number = sym free ∙ ap (λ (r : WorkerRow). r.callback) is ∙ f.busy in
      absurd cc

  with_rows : (cs : List CallbackRow) → find (has_number f.number) cs ≡ Some f.callback → numbered staff worker ≡ Some f.row → RunsWith cs staff worker slots
  with_rows cs found stands = record { row = f.row; number = f.number; callback = f.callback; associated = f.associated; stands = stands; busy = f.busy; found = found; running = f.running }

  -- a row in the place of another callback's
  beside : (r c : CallbackRow) → find (has_number r.number) w.callbacks ≡ Some c → (c ≡ f.callback → ⊥) → find (has_number f.number) (replaced r w.callbacks) ≡ Some f.callback
  beside r c found other =
      elim (has_number f.number r) as (λ b. has_number f.number r ≡ b → find (has_number f.number) (replaced r w.callbacks) ≡ Some f.callback) [
        | true ↦ λ e. absurd (other (same_row f.number r.number f.callback c w.callbacks (eqb-true r.number f.number e) f.found found))
        | false ↦ λ e. find_replaced_other r f.number w.callbacks e ∙ f.found
      ] refl

  -- what another worker runs is another callback
  other_runs : (c : CallbackRow) (other : ℕ) (associated : Bool) (of : Slots) → c.status ≡ Running other associated of → other ≢ worker → c ≡ f.callback → ⊥
  other_runs c other associated of running apart same = apart (same_worker other worker associated f.associated of slots (sym running ∙ ap (λ (x : CallbackRow). x.status) same ∙ f.running))

  slots_step : Move w entry kept staff → SlotsStep entry kept staff worker slots
  slots_step (Stay m) =
      Same (silent (ap (λ (d : Deed). d.asked) m.tells)) (goes_on (ap (λ (d : Deed). d.returned) m.tells))
      (with_rows kept (ap (find (has_number f.number)) m.callbacks ∙ f.found) (ap (λ ws. numbered ws worker) m.workers ∙ f.stands))
  slots_step (Mark m) =
      Same (silent (ap (λ (d : Deed). d.asked) m.tells)) (goes_on (ap (λ (d : Deed). d.returned) m.tells))
      (subst (λ cs. RunsWith cs staff worker slots) (sym m.callbacks)
      (elim (has_number f.number m.new) as (λ b. has_number f.number m.new ≡ b → RunsWith (replaced m.new w.callbacks) staff worker slots) [
        | true ↦ λ e.
            let is : m.new.number ≡ f.number = eqb-true m.new.number f.number e in
            let same : m.old ≡ f.callback = same_row f.number m.new.number f.callback m.old w.callbacks is f.found m.found in
            record {
              row = f.row;
              number = f.number;
              callback = m.new;
              associated = f.associated;
              stands = ap (λ ws. numbered ws worker) m.workers ∙ f.stands;
              busy = f.busy;
              found = ap (λ k. find (has_number k) (replaced m.new w.callbacks)) (sym is) ∙ find_replaced m.new m.old w.callbacks m.found;
              running = m.status ∙ ap (λ (x : CallbackRow). x.status) same ∙ f.running;
            }
        | false ↦ λ e. with_rows (replaced m.new w.callbacks) (find_replaced_other m.new f.number w.callbacks e ∙ f.found) (ap (λ ws. numbered ws worker) m.workers ∙ f.stands)
      ] refl))
  slots_step (Attach m) =
      let apart = free_other m.worker m.actor.row m.actor.stands m.actor.free in
      Same (silent (ap (λ (d : Deed). d.asked) m.tells)) (goes_on (ap (λ (d : Deed). d.returned) m.tells))
      (with_rows kept (ap (find (has_number f.number)) m.callbacks ∙ f.found) (ap (λ ws. numbered ws worker) m.workers ∙ still_stands m.worker m.actor.row (record { pool = Some m.pool; callback = None; persistent = false }) m.actor.stands apart))
  slots_step (Detach m) =
      let apart = free_other m.worker m.actor.row m.actor.stands m.actor.free in
      Same (silent (ap (λ (d : Deed). d.asked) m.tells)) (goes_on (ap (λ (d : Deed). d.returned) m.tells))
      (with_rows kept (ap (find (has_number f.number)) m.callbacks ∙ f.found) (ap (λ ws. numbered ws worker) m.workers ∙ still_stands m.worker m.actor.row (record { pool = None; callback = None; persistent = false }) m.actor.stands apart))
  slots_step (Take m) =
      let apart = free_other m.worker m.actor.row m.actor.stands m.actor.free in
      Same (silent (ap (λ (d : Deed). d.asked) m.tells)) (goes_on (ap (λ (d : Deed). d.returned) m.tells))
      (with_rows kept
      (ap (find (has_number f.number)) m.callbacks
      ∙ beside (taken_row m.callback m.worker) m.callback m.found (λ same. false_true (sym (pending_not_running m.callback.status m.waits) ∙ ap (λ (x : CallbackRow). is_running x.status) same ∙ ap is_running f.running)))
      (ap (λ ws. numbered ws worker) m.workers ∙ still_stands m.worker m.actor.row (record { pool = Some m.pool; callback = Some m.callback.number; persistent = m.actor.row.persistent || m.callback.persistent }) m.actor.stands apart))
  slots_step (Operate m) =
      Same (silent (ap (λ (d : Deed). d.asked) m.tells)) (goes_on (ap (λ (d : Deed). d.returned) m.tells))
      (with_rows kept
      (ap (find (has_number f.number)) m.callbacks
      ∙ beside (operated m.how m.callback) m.callback m.found (λ same. false_true (sym (before_idle m.how m.callback.status m.status) ∙ ap (λ (x : CallbackRow). is_running x.status) same ∙ ap is_running f.running)))
      (ap (λ ws. numbered ws worker) m.workers ∙ f.stands))
  slots_step (Cancel m) =
      Same (silent (ap (λ (d : Deed). d.asked) m.tells)) (goes_on (ap (λ (d : Deed). d.returned) m.tells))
      (with_rows kept (ap (find (has_number f.number)) m.callbacks ∙ find_uncancelled m.test w.callbacks f.number f.callback f.found (running_passed m.test m.waits f.callback (ap is_running f.running)))
      (ap (λ ws. numbered ws worker) m.workers ∙ f.stands))
  slots_step (Return m) = of_worker (m.worker == worker) refl
    where
      of_worker : (b : Bool) → (m.worker == worker) ≡ b → SlotsStep entry kept staff worker slots
      of_worker true e =
          let is : m.worker ≡ worker = eqb-true m.worker worker e in
          let rows : Some m.row ≡ Some f.row = sym m.stands ∙ ap (numbered w.workers) is ∙ f.stands in
          let same_rows : m.row ≡ f.row = cc in
          let numbers : Some m.callback.number ≡ Some f.number = sym m.busy ∙ ap (λ (r : WorkerRow). r.callback) same_rows ∙ f.busy in
          let same_number : m.callback.number ≡ f.number = cc in
          let same : m.callback ≡ f.callback = same_row f.number m.callback.number f.callback m.callback w.callbacks same_number f.found m.found in
          let both_run : Running m.worker m.associated m.slots ≡ Running worker f.associated slots = sym m.running ∙ ap (λ (x : CallbackRow). x.status) same ∙ f.running in
          let same_slots : m.slots ≡ slots = cc in
          Ends (ap₂ (λ a b. is_same_actor a (Worker worker) && b) (m.by ∙ ap (λ k. Worker k) is) (ap (λ (d : Deed). d.returned) m.tells) ∙ ap (λ b. b && true) (is_own_actor (Worker worker))) m.words (ap (λ (d : Deed). d.words) m.tells)
          (λ kind. m.unasked kind ∙ ap (λ s. is_none (slot kind s)) same_slots)
      of_worker false e =
          let apart : m.worker ≢ worker = λ is. false_true (sym e ∙ eq-eqb m.worker worker is) in
          let others : is_same_actor entry.who (Worker worker) ≡ false = not_own m.worker m.by apart in
          Same (λ kind. ap (λ b. b && option_map_or (is_same_action kind) (asked_by entry) false) others) (ap (λ b. b && is_returned entry) others)
          (with_rows kept (ap (find (has_number f.number)) m.callbacks ∙ beside (returned m.callback) m.callback m.found (other_runs m.callback m.worker m.associated m.slots m.running apart))
          (ap (λ ws. numbered ws worker) m.workers ∙ still_stands m.worker m.row (record m.row { callback = None }) m.stands apart))
  slots_step (Amend m) = of_worker (m.worker == worker) refl
    where
      amended : CallbackRow
      amended = record m.callback { status = Running m.worker (m.associated && not m.loose) (asked_slots m.asks m.slots) }

      of_worker : (b : Bool) → (m.worker == worker) ≡ b → SlotsStep entry kept staff worker slots
      of_worker true e = of_asks m.asks refl m.free
        where
          is : m.worker ≡ worker
          is = eqb-true m.worker worker e

          same_number : m.callback.number ≡ f.number
          same_number =
              let rows : Some m.row ≡ Some f.row = sym m.stands ∙ ap (numbered w.workers) is ∙ f.stands in
              let same_rows : m.row ≡ f.row = cc in
              let numbers : Some m.callback.number ≡ Some f.number = sym m.busy ∙ ap (λ (r : WorkerRow). r.callback) same_rows ∙ f.busy in
              cc

          same : m.callback ≡ f.callback
          same = same_row f.number m.callback.number f.callback m.callback w.callbacks same_number f.found m.found

          same_slots : m.slots ≡ slots
          same_slots = let both_run : Running m.worker m.associated m.slots ≡ Running worker f.associated slots = sym m.running ∙ ap (λ (x : CallbackRow). x.status) same ∙ f.running in cc

          here : (asks : Option Asking) → m.asks ≡ asks → RunsWith kept staff worker (asked_slots asks slots)
          here asks asked =
              record {
                row = f.row;
                number = f.number;
                callback = amended;
                associated = m.associated && not m.loose;
                stands = ap (λ ws. numbered ws worker) m.workers ∙ f.stands;
                busy = f.busy;
                found = ap (find (has_number f.number)) m.callbacks ∙ ap (λ k. find (has_number k) (replaced amended w.callbacks)) (sym same_number) ∙ find_replaced amended m.callback w.callbacks m.found;
                running = ap (λ k. Running k (m.associated && not m.loose) (asked_slots m.asks m.slots)) is ∙ ap₂ (λ a s. Running worker (m.associated && not m.loose) (asked_slots a s)) asked same_slots;
              }

          of_asks : (asks : Option Asking) → m.asks ≡ asks → IsFreeFor m.asks m.slots → SlotsStep entry kept staff worker slots
          of_asks None asked free =
              Same (silent (ap (λ (d : Deed). d.asked) m.tells ∙ ap (option_map (λ (a : Asking). a.kind)) asked)) (goes_on (ap (λ (d : Deed). d.returned) m.tells)) (here None asked)
          of_asks (Some asking) asked free =
              Fills (m.by ∙ ap (λ k. Worker k) is) asking (ap (λ (d : Deed). d.asked) m.tells ∙ ap (option_map (λ (a : Asking). a.kind)) asked)
              (ap (slot asking.kind) (sym same_slots) ∙ subst (λ a. IsFreeFor a m.slots) asked free) (ap (λ (d : Deed). d.returned) m.tells) (here (Some asking) asked)
      of_worker false e =
          let apart : m.worker ≢ worker = λ is. false_true (sym e ∙ eq-eqb m.worker worker is) in
          let others : is_same_actor entry.who (Worker worker) ≡ false = not_own m.worker m.by apart in
          Same (λ kind. ap (λ b. b && option_map_or (is_same_action kind) (asked_by entry) false) others) (ap (λ b. b && is_returned entry) others)
          (with_rows kept (ap (find (has_number f.number)) m.callbacks ∙ beside amended m.callback m.found (other_runs m.callback m.worker m.associated m.slots m.running apart))
          (ap (λ ws. numbered ws worker) m.workers ∙ f.stands))

-- ---- since the callback was taken

pub record IsActing (w : World) (who : Who) (between : List Entry) : Type 0 where
  pub worker : ℕ
  pub by : who ≡ Worker worker
  pub slots : Slots
  pub runs : RunsWith w.callbacks w.workers worker slots
  pub asked : (kind : ActionKind) → count_asked who kind between ≡ one_if (is_some (slot kind slots))

abbrev pub AreActing : List Entry → World → Type 0
AreActing history w =
    (before between : List Entry) (taken : Entry) → before ++ taken ∷ between ≡ history → is_taken taken ≡ true → list_any (returns taken.who) between ≡ false → IsActing w taken.who between

-- one entry more counts if it asks
count_more : (who : Who) (kind : ActionKind) (entries : List Entry) (entry : Entry) → count_asked who kind (entries ++ entry ∷ []) ≡ count_asked who kind entries + one_if (asks_for who kind entry)
count_more who kind entries entry =
    ap length (filter-append (asks_for who kind) entries (entry ∷ [])) ∙ length-append (filter (asks_for who kind) entries) (filter (asks_for who kind) (entry ∷ []))
    ∙ elim (asks_for who kind entry) as (λ b. count_asked who kind entries + length (cond b (entry ∷ []) []) ≡ count_asked who kind entries + one_if b) [ true ↦ refl | false ↦ refl ]

-- a slot that is filled is the one of its kind
filled_slot : (kind other : ActionKind) (action : Action) (slots : Slots) → slot kind slots ≡ None → one_if (is_some (slot other slots)) + one_if (is_same_action other kind) ≡ one_if (is_some (slot other (filled kind action slots)))
filled_slot Section Section action slots free = ap (λ o. one_if (is_some o) + 1) free
filled_slot Section Mutex action slots free = omega arith
filled_slot Section Semaphore action slots free = omega arith
filled_slot Section Event action slots free = omega arith
filled_slot Mutex Section action slots free = omega arith
filled_slot Mutex Mutex action slots free = ap (λ o. one_if (is_some o) + 1) free
filled_slot Mutex Semaphore action slots free = omega arith
filled_slot Mutex Event action slots free = omega arith
filled_slot Semaphore Section action slots free = omega arith
filled_slot Semaphore Mutex action slots free = omega arith
filled_slot Semaphore Semaphore action slots free = ap (λ o. one_if (is_some o) + 1) free
filled_slot Semaphore Event action slots free = omega arith
filled_slot Event Section action slots free = omega arith
filled_slot Event Mutex action slots free = omega arith
filled_slot Event Semaphore action slots free = omega arith
filled_slot Event Event action slots free = ap (λ o. one_if (is_some o) + 1) free

module _ (next_number : ℕ) (history : List Entry) (w : World) (x : Entry) (after : World) (moves : Moves next_number w x after) where
  -- in the world after the entry, among the callbacks that are made by it
  in_after : (worker : ℕ) (slots : Slots) → RunsWith moves.kept after.workers worker slots → RunsWith after.callbacks after.workers worker slots
  in_after worker slots r =
      record {
        row = r.row;
        number = r.number;
        callback = r.callback;
        associated = r.associated;
        stands = r.stands;
        busy = r.busy;
        found = ap (find (has_number r.number)) moves.callbacks ∙ find_front r.number moves.kept moves.new r.callback r.found;
        running = r.running;
      }

  -- a callback that is taken has asked for nothing
  begins_acting : is_taken x ≡ true → IsActing after x.who []
  begins_acting takes = of_move moves.move
    where
      untaken : taken_by x.answer ≡ None → IsActing after x.who []
      untaken e = absurd (false_true (sym (ap (λ (o : Option ℕ). is_some o) e) ∙ takes))

      of_move : Move w x moves.kept after.workers → IsActing after x.who []
      of_move (Stay m) = untaken (ap (λ (d : Deed). d.taken) m.tells)
      of_move (Mark m) = untaken (ap (λ (d : Deed). d.taken) m.tells)
      of_move (Attach m) = untaken (ap (λ (d : Deed). d.taken) m.tells)
      of_move (Detach m) = untaken (ap (λ (d : Deed). d.taken) m.tells)
      of_move (Return m) = untaken (ap (λ (d : Deed). d.taken) m.tells)
      of_move (Amend m) = untaken (ap (λ (d : Deed). d.taken) m.tells)
      of_move (Operate m) = untaken (ap (λ (d : Deed). d.taken) m.tells)
      of_move (Cancel m) = untaken (ap (λ (d : Deed). d.taken) m.tells)
      of_move (Take m) =
          let new : WorkerRow = record { pool = Some m.pool; callback = Some m.callback.number; persistent = m.actor.row.persistent || m.callback.persistent } in
          let at = numbered_some w.workers m.worker m.actor.row m.actor.stands in
          record {
            worker = m.worker;
            by = m.actor.by;
            slots = no_actions;
            runs = in_after m.worker no_actions (record {
              row = new;
              number = m.callback.number;
              callback = taken_row m.callback m.worker;
              associated = true;
              stands = ap (λ ws. numbered ws m.worker) m.workers
                  ∙ numbered_at (put w m.worker new) m.worker new at.1
                  (get_set w.workers (m.worker - 1) m.actor.row new at.0);
              busy = refl;
              found = ap (find (has_number m.callback.number)) m.callbacks ∙ find_replaced (taken_row m.callback m.worker) m.callback w.callbacks m.found;
              running = refl;
            });
            asked = λ kind. of_kind kind;
          }
        where
          of_kind : (kind : ActionKind) → 0 ≡ one_if (is_some (slot kind no_actions))
          of_kind Section = refl
          of_kind Mutex = refl
          of_kind Semaphore = refl
          of_kind Event = refl

  goes_on_acting : (who : Who) (between : List Entry) → IsActing w who between → returns who x ≡ false → IsActing after who (between ++ x ∷ [])
  goes_on_acting who between a quiet = of_step (slots_step w x moves.kept after.workers a.worker a.slots a.runs moves.move)
    where
      quiet_here : returns (Worker a.worker) x ≡ false
      quiet_here = ap (λ z. returns z x) (sym a.by) ∙ quiet

      of_step : SlotsStep x moves.kept after.workers a.worker a.slots → IsActing after who (between ++ x ∷ [])
      of_step (Same unasked stays runs) =
          record {
            worker = a.worker;
            by = a.by;
            slots = a.slots;
            runs = in_after a.worker a.slots runs;
            asked = λ kind.
                let none : one_if (asks_for who kind x) ≡ 0 = ap (λ z. one_if (asks_for z kind x)) a.by ∙ ap one_if (unasked kind) in
                omega (arith, count_more who kind between x, none, a.asked kind);
          }
      of_step (Fills own asking asked free stays runs) =
          record {
            worker = a.worker;
            by = a.by;
            slots = filled asking.kind asking.action a.slots;
            runs = in_after a.worker (filled asking.kind asking.action a.slots) runs;
            asked = λ kind.
                let one : one_if (asks_for who kind x) ≡ one_if (is_same_action kind asking.kind) =
                ap₂ (λ a b. one_if (a && option_map_or (is_same_action kind) b false)) (ap₂ is_same_actor own a.by ∙ is_own_actor (Worker a.worker)) asked in
                omega (arith, count_more who kind between x, one, a.asked kind, filled_slot asking.kind kind asking.action a.slots free);
          }
      of_step (Ends ends words told unasked) = absurd (false_true (sym quiet_here ∙ ends))

  pub are_acting_more : AreActing history w → AreActing (history ++ x ∷ []) after
  are_acting_more acting before between taken split takes quiet = of_place (last_place history x before taken between split)
    where
      of_place : LastPlace history x before taken between → IsActing after taken.who between
      of_place (Here front same none) =
          subst (IsActing after taken.who) (sym none) (subst (λ (e : Entry). IsActing after e.who []) (sym same) (begins_acting (ap is_taken (sym same) ∙ takes)))
      of_place (Earlier rest back front) =
          let still = any_last (returns taken.who) rest x (ap (list_any (returns taken.who)) (sym back) ∙ quiet) in
          subst (IsActing after taken.who) (sym back) (goes_on_acting taken.who rest (acting before rest taken front takes still.0) still.1)

  -- a return tells of what was asked for
  pub return_tells : (who : Who) (between : List Entry) (kind : ActionKind) → IsActing w who between → returns who x ≡ true → says_unasked kind x.answer ≡ (count_asked who kind between == 0)
  return_tells who between kind a ends = of_step (slots_step w x moves.kept after.workers a.worker a.slots a.runs moves.move)
    where
      ends_here : returns (Worker a.worker) x ≡ true
      ends_here = ap (λ z. returns z x) (sym a.by) ∙ ends

      counted : (o : Option Action) → is_none o ≡ (one_if (is_some o) == 0)
      counted None = refl
      counted (Some b) = refl

      of_step : SlotsStep x moves.kept after.workers a.worker a.slots → says_unasked kind x.answer ≡ (count_asked who kind between == 0)
      of_step (Ends _ words told unasked) =
          ap (λ o. option_map_or (λ (ws : ActionWords). is_unasked (word kind ws)) o false) told ∙ unasked kind ∙ counted (slot kind a.slots) ∙ ap (λ n. n == 0) (sym (a.asked kind))
      of_step (Same _ stays _) = absurd (false_true (sym stays ∙ ends_here))
      of_step (Fills own asking asked free stays runs) =
          absurd (false_true (sym (and_false (is_same_actor x.who (Worker a.worker))) ∙ ap (λ b. is_same_actor x.who (Worker a.worker) && b) (sym stays) ∙ ends_here))

pub at_most_one : (w : World) (who : Who) (between : List Entry) (kind : ActionKind) → IsActing w who between → count_asked who kind between ≤ 1
at_most_one w who between kind a = omega (arith, a.asked kind, few (is_some (slot kind a.slots)))
  where
    few : (b : Bool) → one_if b ≤ 1
    few true = omega arith
    few false = omega arith
