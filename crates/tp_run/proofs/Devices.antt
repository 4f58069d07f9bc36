-- What the program makes of devices.
use Rattle.std.proofs.Common.{◌∷◌, ◌≡◌, ℕ, ◌+◌, ◌≤◌, List, [], ◌++◌, length, Result, Ok, Err, refl, sym, ap, ◌∙◌, subst, arith, append_assoc, ap₂, ⊎_elim, eqb-true, zero, suc, ◌==◌, true, false}
use Rattle.std.specs.Prelude.{map}
use Rattle.std.proofs.lemmas.Bool.{cases_Bool}
use Rattle.std.proofs.lemmas.Bool.Decides.{nat_tests}
use Rattle.std.specs.Result.{IsErrAnd}
use Rattle.std.specs.Global.{Vec}
use Rattle.port_calls.specs.PortCalls.{numbered, objects_of}
use Rattle.port_facts.specs.Accepted.{call_of, with_entries, AreAccepted}
use Rattle.port_facts.specs.Completions.{completions, HaveCompleted}
use Rattle.port_facts.specs.Interleaved.{listed, port_history, AreInOrder, AreListed, IsInterleaving, list_of, of}
use Rattle.port_facts.specs.SetUp.{behind_set_up, finishes, no_history, set_up, IsPort, IsSetUp}
use Rattle.port_facts.specs.declared.Completion.{Completion}
use Rattle.port_facts.specs.declared.Posted.{Posted}
use Rattle.port_lines.specs.Faults.{IsOrNoMemory, IsPlace}
use Rattle.port_lines.specs.Texts.{lists_of, IsPortFault, IsPortText}
use Rattle.port_lines.specs.declared.faults.PortFault.{PortFault}
use Rattle.port_lines.specs.declared.faults.PortFault.TheVariants.{NoMemory, At}
use Rattle.port_lines.specs.declared.lines.Operation.{Operation}
use Rattle.recorded.specs.ProgramLimits.{program_limits}
use Rattle.recorded.specs.Recordings.{all_made, room_of, world_behind, Recording}
use Rattle.tp_base.specs.declared.answers.Entry.{Entry}
use Rattle.tp_base.specs.declared.calls.Call.{Call}
use Rattle.tp_base.specs.declared.ids.ObjectId.{ObjectId}
use Rattle.tp_base.specs.declared.ids.Who.{Who}
use Rattle.tp_model.specs.History.{IsLegal}
use Rattle.tp_model.specs.Laws.{KeepsLaws}
use Rattle.tp_report.specs.Histories.{history_told}
use Rattle.tp_run.specs.Ends.{status_of_port, IsOutput, IsReply}
use Rattle.tp_run.specs.Played.{printed, totals_text}
use Rattle.tp_run.specs.Ported.{behind_posted, history_of, limits_of, IsPorted}
use Rattle.tp_run.specs.declared.command.Command.TheVariants.{Port}
use Rattle.tp_run.specs.declared.replies.Output.{Output}
use Rattle.tp_run.specs.declared.status.Ending.{Ending}
use Rattle.tp_run.specs.declared.status.Ending.TheVariants.{Fine}
use Rattle.tp_run.specs.declared.status.Status.{Status}

-- the text is none, or memory was refused
pub port_of_fault : (bytes : List ℕ) (fault : PortFault) (reply : Result Output Status) → IsErrAnd reply (λ status. status ≡ status_of_port fault) → IsPlace (IsPortFault bytes) fault
    → ((devices : List (List Operation)) → IsPortText bytes devices → IsOrNoMemory (λ (read : Vec (Vec Operation)). lists_of read.items ≡ devices) (Err fault)) → IsReply Port bytes reply
port_of_fault bytes fault (Ok output) h place only = absurd h
port_of_fault bytes fault (Err status) h place only = subst (λ s. IsReply Port bytes (Err s)) (sym h) (of_fault fault place only)
  where
    of_fault : (f : PortFault) → IsPlace (IsPortFault bytes) f → ((devices : List (List Operation)) → IsPortText bytes devices → IsOrNoMemory (λ (read : Vec (Vec Operation)). lists_of read.items ≡ devices) (Err f))
        → IsReply Port bytes (Err (status_of_port f))
    of_fault NoMemory place only = tt
    of_fault (At line column) place only = record { at = place; none = λ h. only h.0 h.1 }

pub port_output : (bytes : List ℕ) (devices : List (List Operation)) (output : Output) → IsPortText bytes devices → IsPorted devices output.text.items output.ending → IsOutput Port bytes output.text.items output.ending
port_output bytes devices output is ported = record { gives = (devices, is, ported); only = λ determined other other_end g. absurd determined }

-- ---- the set-up

module _ (devices : List (List Operation)) (accepted : IsSetUp (limits_of devices) 65536 (length devices) (objects_of devices)) where
  abbrev pub start : Recording
  start = behind_set_up (limits_of devices) 65536 (length devices) (objects_of devices)

  pub set_up_made : (r new : Recording) (calls : List (Who × Call)) → r.limits ≡ limits_of devices → r.capacity ≡ 65536 → r.history ≡ [] → calls ≡ map call_of (set_up (length devices) (objects_of devices)) → new ≡ all_made r calls
      → new ≡ start
  set_up_made r new calls limits capacity empty calls_are is =
      let fresh : r ≡ no_history (limits_of devices) 65536 = λ i. record { limits = limits i; capacity = capacity i; history = empty i } in
      is ∙ ap (λ q. all_made q calls) fresh ∙ ap (λ cs. all_made (no_history (limits_of devices) 65536) cs) calls_are ∙ accepted.accepted.made

  -- all that the devices list may be completed behind it
  pub room_there : (lists : List (List Completion)) (r : Recording) → r ≡ start → IsPort (length devices) (objects_of devices) → length (listed lists) ≡ length (objects_of devices) → length (listed lists) ≤ room_of r
  room_there lists r is port count = subst (λ q. length (listed lists) ≤ room_of q) (sym is) (omega (arith, accepted.room, port.few, port.short, count))

pub listed_there : (devices : List (List Operation)) (lists : List (List Completion)) (r : Recording) → lists ≡ numbered devices → length (numbered devices) ≡ length devices
    → r ≡ behind_set_up (limits_of devices) 65536 (length devices) (objects_of devices) → IsPort (length devices) (objects_of devices) → AreInOrder (length (objects_of devices)) (numbered devices)
    → ((ls : List (List Completion)) (objects : List ObjectId) → IsPort (length ls) objects → AreInOrder (length objects) ls → AreListed (world_behind (behind_set_up (program_limits (length ls + 1) 4) 65536 (length ls) objects)) ls)
    → AreListed (world_behind r) lists
listed_there devices lists r are count is port in_order fact =
    let there = fact (numbered devices) (objects_of devices) (subst (λ n. IsPort n (objects_of devices)) (sym count) port) in_order in
    let here : AreListed (world_behind (behind_set_up (limits_of devices) 65536 (length devices) (objects_of devices))) (numbered devices)
    = subst (λ n. AreListed (world_behind (behind_set_up (program_limits (n + 1) 4) 65536 n (objects_of devices))) (numbered devices)) count there in
    subst (λ q. AreListed (world_behind q) lists) (sym is) (subst (λ ls. AreListed (world_behind (behind_set_up (limits_of devices) 65536 (length devices) (objects_of devices))) ls) (sym are) here)

-- ---- the end

module _ (devices : List (List Operation)) (posted : List Posted) (each : IsInterleaving (numbered devices) posted) (legal : IsLegal (limits_of devices) 65536 (history_of devices posted)) where
  finished_is : (set_up (length devices) (objects_of devices) ++ completions posted) ++ finishes 2 (length devices) ≡ history_of devices posted
  finished_is = append_assoc (set_up (length devices) (objects_of devices)) (completions posted) (finishes 2 (length devices))

  -- the recording in the end
  pub finish_made : (r new : Recording) (calls : List (Who × Call)) → r ≡ behind_posted devices posted → calls ≡ map call_of (finishes 2 (length devices)) → new ≡ all_made r calls
      → ((q : Recording) (entries : List Entry) → IsLegal q.limits q.capacity (q.history ++ entries) → AreAccepted q entries)
      → new ≡ record { limits = limits_of devices; capacity = 65536; history = history_of devices posted }
  finish_made r new calls is calls_are new_is answered =
      let before = behind_posted devices posted in
      let accepted = answered before (finishes 2 (length devices)) (subst (λ h. IsLegal (limits_of devices) 65536 h) (sym finished_is) legal) in
      new_is ∙ ap (λ q. all_made q calls) is ∙ ap (λ cs. all_made before cs) calls_are ∙ accepted.made
      ∙ ap (λ h. record { limits = limits_of devices; capacity = 65536; history = h }) finished_is

  pub ported : (new counted : Recording) (history text : List ℕ) → new ≡ record { limits = limits_of devices; capacity = 65536; history = history_of devices posted } → counted ≡ new → history ≡ history_told new
      → text ≡ history ++ totals_text false counted.limits counted.history → KeepsLaws (limits_of devices) (history_of devices posted) → IsPorted devices text Fine
  ported new counted history text new_is counted_is history_is text_is laws = record {
    posted = posted;
    each = each;
    legal = legal;
    laws = laws;
    output_is = text_is ∙ ap (λ h. h ++ totals_text false counted.limits counted.history) history_is
        ∙ ap (λ (r : Recording). history_told new ++ totals_text false r.limits r.history) counted_is
        ∙ ap (λ (r : Recording). history_told r ++ totals_text false r.limits r.history) new_is;
    ends = refl;
  }

-- what is legal by as many lists as there are devices
pub legal_there : (devices : List (List Operation)) (posted : List Posted) → length (numbered devices) ≡ length devices → IsPort (length devices) (objects_of devices) → AreInOrder (length (objects_of devices)) (numbered devices)
    → IsInterleaving (numbered devices) posted
    → ((lists : List (List Completion)) (objects : List ObjectId) (ps : List Posted) → IsPort (length lists) objects → AreInOrder (length objects) lists → IsInterleaving lists ps → IsLegal (program_limits (length lists + 1) 4) 65536 (port_history (length lists) objects ps))
    → IsLegal (limits_of devices) 65536 (history_of devices posted)
legal_there devices posted count port in_order each fact =
    subst (λ n. IsLegal (program_limits (n + 1) 4) 65536 (port_history n (objects_of devices) posted)) count
    (fact (numbered devices) (objects_of devices) posted (subst (λ n. IsPort n (objects_of devices)) (sym count) port) in_order each)

-- what is completed in one order is recorded
pub completed : (devices : List (List Operation)) (posted : List Posted) (r new : Recording) (calls : List (Who × Call)) → r ≡ behind_set_up (limits_of devices) 65536 (length devices) (objects_of devices)
    → calls ≡ map call_of (completions posted) → new ≡ all_made r calls → HaveCompleted r posted → new ≡ behind_posted devices posted
completed devices posted r new calls is calls_are new_is have =
    new_is ∙ ap (λ cs. all_made r cs) calls_are ∙ have.accepted.made ∙ ap (λ q. with_entries q (completions posted)) is

-- ---- one device at most

abbrev first_posted : Completion → Posted
first_posted c = record { device = 1; completion = c }

-- what is posted of a device
here : (d : ℕ) (x : Posted) (xs : List Posted) → (x.device == d) ≡ true → of d (x ∷ xs) ≡ x.completion ∷ of d xs
here d x xs is = rw is refl

elsewhere : (d : ℕ) (x : Posted) (xs : List Posted) → (x.device == d) ≡ false → of d (x ∷ xs) ≡ of d xs
elsewhere d x xs is = rw is refl

same_device : (d : ℕ) → (d == d) ≡ true
same_device d = grind (arith, nat_tests)

-- where no other device posts, all is the first one's
all_first : (posted : List Posted) → ((d : ℕ) → (d == 1) ≡ false → of d posted ≡ []) → posted ≡ map first_posted (of 1 posted)
all_first [] none = refl
all_first (x ∷ xs) none =
    ⊎_elim
    (λ (is : (x.device == 1) ≡ true).
    let one : x.device ≡ 1 = eqb-true x.device 1 is in
    let rest : xs ≡ map first_posted (of 1 xs) = all_first xs (λ d apart. sym (elsewhere d x xs (subst (λ n. (n == d) ≡ false) (sym one) (turned d apart))) ∙ none d apart) in
    let head : x ≡ first_posted x.completion = λ i. record { device = one i; completion = x.completion } in
    ap₂ (λ (y : Posted) (ys : List Posted). y ∷ ys) head rest ∙ ap (λ (cs : List Completion). map first_posted cs) (sym (here 1 x xs is)))
    (λ (apart : (x.device == 1) ≡ false). let wrong : x.completion ∷ of x.device xs ≡ [] = sym (here x.device x xs (same_device x.device)) ∙ none x.device apart in absurd cc)
    (cases_Bool (x.device == 1))
  where
    turned : (d : ℕ) → (d == 1) ≡ false → (1 == d) ≡ false
    turned d apart = grind (arith, nat_tests, apart)

-- with one list at most nothing is posted of another device than the first
only_first : (lists : List (List Completion)) → length lists ≤ 1 → (d : ℕ) → (d == 1) ≡ false → list_of lists d ≡ []
only_first [] few zero apart = refl
only_first [] few (suc d) apart = refl
only_first (list ∷ []) few zero apart = refl
only_first (list ∷ []) few (suc zero) apart = absurd cc
only_first (list ∷ []) few (suc (suc d)) apart = refl
only_first (list ∷ other ∷ lists) few d apart = absurd (omega (arith, few))

one_order : (lists : List (List Completion)) (p q : List Posted) → length lists ≤ 1 → IsInterleaving lists p → IsInterleaving lists q → p ≡ q
one_order lists p q few a b =
    all_first p (λ d apart. a d ∙ only_first lists few d apart)
    ∙ ap (λ (cs : List Completion). map first_posted cs) (a 1 ∙ sym (b 1))
    ∙ sym (all_first q (λ d apart. b d ∙ only_first lists few d apart))

pub one_output : (devices : List (List Operation)) (a b : List ℕ) (ends other_ends : Ending) → length (numbered devices) ≡ length devices → length devices ≤ 1 → IsPorted devices a ends → IsPorted devices b other_ends → (a ≡ b) × (ends ≡ other_ends)
one_output devices a b ends other_ends count few p q =
    let same : p.posted ≡ q.posted = one_order (numbered devices) p.posted q.posted (omega (arith, count, few)) p.each q.each in
    (p.output_is ∙ ap (λ posted. printed (record { history = true; json = false; faults = false }) (limits_of devices) 65536 (history_of devices posted)) same ∙ sym q.output_is, p.ends ∙ sym q.ends)
