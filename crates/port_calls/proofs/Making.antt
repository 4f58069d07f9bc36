-- Calls that are made for one item of a list after another.
use Rattle.std.proofs.Common.{◌≡◌, ℕ, zero, suc, ◌+◌, ◌<◌, ◌≤◌, List, [], ◌∷◌, ◌++◌, length, get_or, drop, map, refl, sym, ap, ◌∙◌, arith, append_assoc}
use Rattle.std.specs.Prelude.{All}
use Rattle.std.proofs.lemmas.List.{append-nil, at_drop_more, drop_all, map-append}
use Rattle.std.proofs.lemmas.List.Elements.{All-append, All-cons, All-map, All-nil}
use Rattle.std.proofs.lemmas.List.FromFn.{map-range_with_len_more}
use Rattle.std.specs.List.{range_with_len, AllByRecursion}
use Rattle.tp_base.specs.declared.answers.Entry.{Entry}
use Rattle.tp_base.specs.declared.calls.Call.{Call}
use Rattle.tp_base.specs.declared.calls.Call.TheVariants.{IssueIo, StartIo}
use Rattle.tp_base.specs.declared.ids.ObjectId.{ObjectId}
use Rattle.tp_base.specs.declared.ids.Who.{Who}
use Rattle.tp_base.specs.declared.ids.Who.TheVariants.{Client}
use Rattle.port_lines.specs.declared.lines.Operation.{Operation}
use Rattle.port_facts.specs.declared.Completion.{Completion}
use Rattle.port_facts.specs.Accepted.{call_of}
use Rattle.port_facts.specs.Completions.{completion_of, completions}
use Rattle.port_facts.specs.SetUp.{device_made, finished, finishes, operation_issued, operation_started, operations_from, set_up, IsDevice}
use Rattle.port_calls.specs.PortCalls.{objects_from, objects_of, posted_by, posted_from, IsInRange}

-- ---- one item more

-- what stands for the rest of a list still is to come; the item's part was added
pub more : {X Y : Type 0} (F G : List X → List Y) (xs : List X) (i : ℕ) (d x : X) (items now total part : List Y) → i < length xs → x ≡ get_or xs i d → F (x ∷ drop (i + 1) xs) ≡ part ++ G (drop (i + 1) xs)
    → now ≡ items ++ part → items ++ F (drop i xs) ≡ total → now ++ G (drop (i + 1) xs) ≡ total
more F G xs i d x items now total part below is front added so =
    ap (λ l. l ++ G (drop (i + 1) xs)) added
    ∙ (append_assoc items part (G (drop (i + 1) xs))
    ∙ (ap (λ l. items ++ l) (sym front)
    ∙ (ap (λ y. items ++ F (y ∷ drop (i + 1) xs)) is
    ∙ (ap (λ l. items ++ l) (sym (at_drop_more F xs i d below)) ∙ so))))

pub one_more : {Y : Type 0} (old items now done next : List Y) (y : Y) → now ≡ items ++ y ∷ [] → items ≡ old ++ done → next ≡ done ++ y ∷ [] → now ≡ old ++ next
one_more old items now done next y added so is =
    added ∙ (ap (λ l. l ++ y ∷ []) so ∙ (append_assoc old done (y ∷ []) ∙ ap (λ l. old ++ l) (sym is)))

pub two_more : {Y : Type 0} (items then now : List Y) (a b : Y) → then ≡ items ++ a ∷ [] → now ≡ then ++ b ∷ [] → now ≡ items ++ a ∷ b ∷ []
two_more items then now a b first second = second ∙ (ap (λ l. l ++ b ∷ []) first ∙ append_assoc items (a ∷ []) (b ∷ []))

-- ---- the calls

abbrev pub object_calls : ℕ → List (Who × Call)
object_calls count = map call_of (map device_made (range_with_len 1 count))

abbrev pub operation_calls : List ObjectId → List (Who × Call)
operation_calls objects = map call_of (operations_from 1 objects)

pub object_added : (count : ℕ) → object_calls (count + 1) ≡ object_calls count ++ call_of (device_made (1 + count)) ∷ []
object_added count =
    ap (λ l. map call_of l) (map-range_with_len_more device_made 1 count (1 + count) refl)
    ∙ map-append call_of (map device_made (range_with_len 1 count)) (device_made (1 + count) ∷ [])

pub finish_added : (count : ℕ) → map call_of (finishes 2 (count + 1)) ≡ map call_of (finishes 2 count) ++ call_of (finished (count + 2)) ∷ []
finish_added count =
    ap (λ l. map call_of l) (map-range_with_len_more finished 2 count (count + 2) (omega arith))
    ∙ map-append call_of (map finished (range_with_len 2 count)) (finished (count + 2) ∷ [])

-- the numbers of the callbacks stand in the answers alone
renumbered : (m n : ℕ) (objects : List ObjectId) → map call_of (operations_from m objects) ≡ map call_of (operations_from n objects)
renumbered m n [] = refl
renumbered m n (object ∷ objects) = ap (λ l. (Client 1, StartIo object) ∷ (Client 1, IssueIo object) ∷ l) (renumbered (m + 1) (n + 1) objects)

pub operation_first : (object : ObjectId) (objects : List ObjectId) → operation_calls (object ∷ objects) ≡ (Client 1, StartIo object) ∷ (Client 1, IssueIo object) ∷ operation_calls objects
operation_first object objects = ap (λ l. (Client 1, StartIo object) ∷ (Client 1, IssueIo object) ∷ l) (renumbered 2 1 objects)

pub operations_append : (objects more : List ObjectId) → operation_calls (objects ++ more) ≡ operation_calls objects ++ operation_calls more
operations_append [] more = refl
operations_append (object ∷ objects) more =
    operation_first object (objects ++ more)
    ∙ (ap (λ l. (Client 1, StartIo object) ∷ (Client 1, IssueIo object) ∷ l) (operations_append objects more)
    ∙ ap (λ l. l ++ operation_calls more) (sym (operation_first object objects)))

pub device_first : (object : ℕ) (operations : List Operation) (devices : List (List Operation)) → operation_calls (objects_from object (operations ∷ devices))
    ≡ operation_calls (map (λ (operation : Operation). record { 0 = object }) operations) ++ operation_calls (objects_from (object + 1) devices)
device_first object operations devices = operations_append (map (λ (operation : Operation). record { 0 = object }) operations) (objects_from (object + 1) devices)

pub list_first : (device : ℕ) (list : List Completion) (lists : List (List Completion)) → map call_of (completions (posted_from device (list ∷ lists)))
    ≡ map call_of (completions (posted_by device list)) ++ map call_of (completions (posted_from (device + 1) lists))
list_first device list lists =
    ap (λ l. map call_of l) (map-append completion_of (posted_by device list) (posted_from (device + 1) lists))
    ∙ map-append call_of (completions (posted_by device list)) (completions (posted_from (device + 1) lists))

-- nothing is left to come
pub is_set_up : (count i object : ℕ) (all : List (List Operation)) (items now : List (Who × Call)) → length all ≤ i → items ++ operation_calls (objects_from object (drop i all)) ≡ object_calls count ++ operation_calls (objects_of all)
    → now ≡ items ++ call_of (finished 1) ∷ [] → now ≡ map call_of (set_up count (objects_of all))
is_set_up count i object all items now end so last =
    let objects = objects_of all in
    let all_items : items ≡ object_calls count ++ operation_calls objects = sym (append-nil items) ∙ (ap (λ l. items ++ operation_calls (objects_from object l)) (sym (drop_all i all end)) ∙ so) in
    last
    ∙ (ap (λ l. l ++ call_of (finished 1) ∷ []) all_items
    ∙ (append_assoc (object_calls count) (operation_calls objects) (call_of (finished 1) ∷ [])
    ∙ (ap (λ l. object_calls count ++ l) (sym (map-append call_of (operations_from 1 objects) (finished 1 ∷ [])))
    ∙ sym (map-append call_of (map device_made (range_with_len 1 count)) (operations_from 1 objects ++ finished 1 ∷ [])))))

-- ---- their numbers

abbrev IsEntryInRange : Entry → Type 0
IsEntryInRange entry = IsInRange (call_of entry)

objects_in_range : (first count : ℕ) → All IsEntryInRange (map device_made (range_with_len first count))
objects_in_range first zero = All-nil IsEntryInRange
objects_in_range first (suc count) =
    All-cons IsEntryInRange (device_made first) (map device_made (range_with_len (first + 1) count)) (
      record { least = omega arith; most = omega arith },
      record { pool_most = omega arith; group_most = omega arith; cancel_most = omega arith; cancel_with_group = λ none. refl },
      omega arith,
    ) (objects_in_range (first + 1) count)

operations_in_range : (number count : ℕ) (objects : List ObjectId) → count ≤ 15 → AllByRecursion (IsDevice count) objects → All IsEntryInRange (operations_from number objects)
operations_in_range number count [] few all = All-nil IsEntryInRange
operations_in_range number count (object ∷ objects) few all =
    let most : object.0 ≤ 65535 = omega (arith, few, all.0.1) in
    All-cons IsEntryInRange (operation_started number object) (operation_issued number object ∷ operations_from (number + 1) objects) most
    (All-cons IsEntryInRange (operation_issued number object) (operations_from (number + 1) objects) most (operations_in_range (number + 1) count objects few all.1))

pub set_up_in_range : (count : ℕ) (objects : List ObjectId) → count ≤ 15 → AllByRecursion (IsDevice count) objects → All IsInRange (map call_of (set_up count objects))
set_up_in_range count objects few all =
    All-map IsInRange call_of (set_up count objects)
    (All-append IsEntryInRange (map device_made (range_with_len 1 count)) (operations_from 1 objects ++ finished 1 ∷ []) (objects_in_range 1 count)
    (All-append IsEntryInRange (operations_from 1 objects) (finished 1 ∷ []) (operations_in_range 1 count objects few all) (All-cons IsEntryInRange (finished 1) [] tt (All-nil IsEntryInRange))))
