-- A set-up, the completions of its operations in any order, and the finishes of the devices' clients make a legal history.
use Rattle.std.proofs.Common.{◌≡◌, ℕ, zero, suc, ◌+◌, Bool, true, false, cond, List, [], ◌∷◌, ◌++◌, length, map, None, refl, sym, ap, ap₂, ◌∙◌, subst, arith, append_assoc, append-nil}
use Rattle.std.proofs.lemmas.List.{length-map}
use Rattle.std.proofs.lemmas.List.Elements.{filter_map-append}
use Rattle.std.proofs.lemmas.List.FromFn.{length-range_with_len}
use Rattle.std.specs.List.{cons_option, range_with_len, AllByRecursion}
use Rattle.tp_base.specs.Actors.{is_same_actor}
use Rattle.tp_base.specs.declared.answers.Entry.{Entry}
use Rattle.tp_base.specs.declared.ids.ObjectId.{ObjectId}
use Rattle.tp_base.specs.declared.ids.Who.TheVariants.{Client}
use Rattle.tp_base.specs.declared.limits.Limits.{Limits}
use Rattle.tp_model.specs.History.{IsLegal}
use Rattle.recorded.specs.ProgramLimits.{program_limits}
use Rattle.recorded.specs.Recordings.{world_behind, Recording}
use Rattle.port_facts.specs.Accepted.{with_entries, AreAccepted}
use Rattle.port_facts.specs.Completions.{completions, HaveCompleted}
use Rattle.port_facts.specs.Interleaved.{completion_by, completion_in, completions_by, listed, of, port_history, AreInOrder, AreListed, IsInterleaving}
use Rattle.port_facts.specs.SetUp.{behind_set_up, device_made, finished, finishes, operations_from, set_up, IsPort, IsSetUp}
use Rattle.port_facts.specs.declared.Completion.{Completion}
use Rattle.port_facts.specs.declared.Posted.{Posted}
use Rattle.port_facts.proofs.Finishing.{are_finished}
use Rattle.port_facts.proofs.Interleaving.{are_interleaved, by_device}
use Rattle.port_facts.proofs.Listing.{are_listed}
use Rattle.port_facts.proofs.SettingUp.{is_set_up}

-- ---- it is legal

-- of the program's machine
pub sets_up : (count : ℕ) (objects : List ObjectId) → IsPort count objects → IsSetUp (program_limits (count + 1) 4) 65536 count objects
sets_up count objects p =
    is_set_up (program_limits (count + 1) 4) (omega arith) 65536 count objects (omega (arith, p.few)) (omega (arith, p.short)) (omega (arith, p.few, p.short)) p.each

pub lists_are_listed : (devices : List (List Completion)) (objects : List ObjectId) → IsPort (length devices) objects → AreInOrder (length objects) devices
    → AreListed (world_behind (behind_set_up (program_limits (length devices + 1) 4) 65536 (length devices) objects)) devices
lists_are_listed devices objects p in_order =
    are_listed (program_limits (length devices + 1) 4) 65536 (length devices) objects (sets_up (length devices) objects p) devices refl in_order

pub is_legal_history : (devices : List (List Completion)) (objects : List ObjectId) (posted : List Posted) → IsPort (length devices) objects → AreInOrder (length objects) devices → IsInterleaving devices posted
    → IsLegal (program_limits (length devices + 1) 4) 65536 (port_history (length devices) objects posted)
is_legal_history devices objects posted p in_order interleaved =
    let count : ℕ = length devices in
    let limits : Limits = program_limits (count + 1) 4 in
    let s : IsSetUp limits 65536 count objects = sets_up count objects p in
    let before : Recording = behind_set_up limits 65536 count objects in
    let all : length (listed devices) ≡ length objects = sym (length-map (listed devices) (λ (c : Completion). c.callback)) ∙ (ap length in_order ∙ length-range_with_len 1 (length objects)) in
    let c : HaveCompleted before posted =
    are_interleaved before devices posted s.accepted.legal (lists_are_listed devices objects p in_order) (omega (arith, all, s.room, p.few, p.short)) interleaved in
    let behind : Recording = with_entries before (completions posted) in
    let f : AreAccepted behind (finishes 2 count) =
    are_finished behind 2 count c.accepted.legal (λ client above below. c.clients client (s.clients client above (omega (arith, below)))) in
    subst (IsLegal limits 65536) (append_assoc (set_up count objects) (completions posted) (finishes 2 count)) f.legal

-- ---- and has of each device what it posted

abbrev IsSilent : Entry → Type 0
IsSilent entry = completion_in entry.call entry.answer ≡ None

silent_by : (device : ℕ) (entry : Entry) → IsSilent entry → completion_by device entry ≡ None
silent_by device entry silent = either (is_same_actor entry.who (Client (device + 1)))
  where
    either : (own : Bool) → cond own (completion_in entry.call entry.answer) None ≡ None
    either true = silent
    either false = refl

none_by : (device : ℕ) (entries : List Entry) → AllByRecursion IsSilent entries → completions_by device entries ≡ []
none_by device [] silent = refl
none_by device (entry ∷ entries) silent =
    ap (λ o. cons_option o (completions_by device entries)) (silent_by device entry silent.0) ∙ none_by device entries silent.1

silent_devices : (from count : ℕ) → AllByRecursion IsSilent (map device_made (range_with_len from count))
silent_devices from zero = tt
silent_devices from (suc count) = (refl, silent_devices (from + 1) count)

silent_operations : (number : ℕ) (objects : List ObjectId) → AllByRecursion IsSilent (operations_from number objects ++ finished 1 ∷ [])
silent_operations number [] = (refl, tt)
silent_operations number (object ∷ objects) = (refl, (refl, silent_operations (number + 1) objects))

silent_finishes : (first count : ℕ) → AllByRecursion IsSilent (finishes first count)
silent_finishes first zero = tt
silent_finishes first (suc count) = (refl, silent_finishes (first + 1) count)

pub by_device_in_all : (devices : ℕ) (objects : List ObjectId) (posted : List Posted) (device : ℕ) → completions_by device (port_history devices objects posted) ≡ of device posted
by_device_in_all devices objects posted device =
    let creation : List Entry = map device_made (range_with_len 1 devices) in
    let operation : List Entry = operations_from 1 objects ++ finished 1 ∷ [] in
    let end : List Entry = finishes 2 devices in
    let set_up_none : completions_by device (creation ++ operation) ≡ [] =
    filter_map-append (completion_by device) creation operation ∙ ap₂ (λ xs ys. xs ++ ys) (none_by device creation (silent_devices 1 devices)) (none_by device operation (silent_operations 1 objects)) in
    let rest : completions_by device (completions posted ++ end) ≡ of device posted =
    filter_map-append (completion_by device) (completions posted) end
    ∙ ap₂ (λ xs ys. xs ++ ys) (by_device device posted) (none_by device end (silent_finishes 2 devices)) ∙ append-nil (of device posted) in
    filter_map-append (completion_by device) (creation ++ operation) (completions posted ++ end) ∙ ap₂ (λ xs ys. xs ++ ys) set_up_none rest
