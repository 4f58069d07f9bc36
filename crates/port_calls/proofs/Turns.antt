-- The operations of devices are those of a port, and one device after another is an order in which they may complete.
use Rattle.std.proofs.Common.{◌≡◌, ℕ, zero, suc, ◌+◌, ◌<◌, ◌≤◌, ◌==◌, Bool, true, false, cond, List, [], ◌∷◌, ◌++◌, length, map, refl, sym, ap, ap₂, ◌∙◌, arith, length-append, eq-eqb, ne_eqb, filter}
use Rattle.std.specs.Prelude.{slice_index_or}
use Rattle.std.proofs.lemmas.List.{append-nil, length-map, map-append}
use Rattle.std.proofs.lemmas.List.Elements.{filter-append}
use Rattle.std.proofs.lemmas.List.FromFn.{length-range_with_len}
use Rattle.std.specs.List.{range_with_len, AllByRecursion}
use Rattle.tp_base.specs.declared.ids.ObjectId.{ObjectId}
use Rattle.tp_model.proofs.Lists.{all_appended}
use Rattle.port_lines.specs.declared.lines.Operation.{Operation}
use Rattle.port_lines.specs.Texts.{operation_count, AreDevices}
use Rattle.port_facts.specs.declared.Completion.{Completion}
use Rattle.port_facts.specs.declared.Posted.{Posted}
use Rattle.port_facts.specs.Interleaved.{list_of, listed, numbers, of, AreInOrder, IsInterleaving}
use Rattle.port_facts.specs.SetUp.{IsDevice, IsPort}
use Rattle.port_calls.specs.PortCalls.{completions_from, in_turn, numbered, numbered_from, objects_from, objects_of, posted_by, posted_from}

-- ---- the objects

objects_count : (object : ℕ) (devices : List (List Operation)) → length (objects_from object devices) ≡ operation_count devices
objects_count object [] = refl
objects_count object (operations ∷ devices) =
    let own : Operation → ObjectId = λ operation. record { 0 = object } in
    omega (arith, length-append (map own operations) (objects_from (object + 1) devices), length-map operations own, objects_count (object + 1) devices)

own_objects : (count object : ℕ) (operations : List Operation) → 1 ≤ object → object ≤ count → AllByRecursion (IsDevice count) (map (λ (operation : Operation). record { 0 = object }) operations)
own_objects count object [] least most = tt
own_objects count object (operation ∷ operations) least most = ((least, most), own_objects count object operations least most)

all_objects : (count object : ℕ) (devices : List (List Operation)) → 1 ≤ object → object + length devices ≤ count + 1 → AllByRecursion (IsDevice count) (objects_from object devices)
all_objects count object [] least most = tt
all_objects count object (operations ∷ devices) least most =
    all_appended (IsDevice count) (map (λ (operation : Operation). record { 0 = object }) operations) (objects_from (object + 1) devices)
    (own_objects count object operations least (omega (arith, most)))
    (all_objects count (object + 1) devices (omega arith) (omega (arith, most)))

pub is_port : (devices : List (List Operation)) → AreDevices devices → IsPort (length devices) (objects_of devices)
is_port devices are =
    record {
      few = are.devices_most;
      short = omega (arith, are.operations_most, objects_count 1 devices);
      each = all_objects (length devices) 1 devices (omega arith) (omega arith);
    }

-- ---- the callbacks

range_append : (first m n : ℕ) → range_with_len first (m + n) ≡ range_with_len first m ++ range_with_len (first + m) n
range_append first zero n =
    let at : first ≡ first + 0 = omega arith in
    let count : 0 + n ≡ n = omega arith in
    ap₂ (λ from k. range_with_len from k) at count
range_append first (suc m) n =
    let at : first + 1 + m ≡ first + suc m = omega arith in
    let count : suc m + n ≡ suc (m + n) = omega arith in
    ap (λ k. range_with_len first k) count ∙ ap (λ l. first ∷ l) (range_append (first + 1) m n ∙ ap (λ from. range_with_len (first + 1) m ++ range_with_len from n) at)

own_numbers : (callback : ℕ) (operations : List Operation) → numbers (completions_from callback operations) ≡ range_with_len callback (length operations)
own_numbers callback [] = refl
own_numbers callback (operation ∷ operations) = ap (λ l. callback ∷ l) (own_numbers (callback + 1) operations)

all_numbers : (callback : ℕ) (devices : List (List Operation)) → numbers (listed (numbered_from callback devices)) ≡ range_with_len callback (operation_count devices)
all_numbers callback [] = refl
all_numbers callback (operations ∷ devices) =
    map-append (λ (c : Completion). c.callback) (completions_from callback operations) (listed (numbered_from (callback + length operations) devices))
    ∙ (ap₂ (λ a b. a ++ b) (own_numbers callback operations) (all_numbers (callback + length operations) devices)
    ∙ sym (range_append callback (length operations) (operation_count devices)))

pub in_order : (devices : List (List Operation)) → AreInOrder (length (objects_of devices)) (numbered devices)
in_order devices = all_numbers 1 devices ∙ ap (λ n. range_with_len 1 n) (sym (objects_count 1 devices))

numbered_lists : (callback : ℕ) (devices : List (List Operation)) → length (numbered_from callback devices) ≡ length devices
numbered_lists callback [] = refl
numbered_lists callback (operations ∷ devices) = ap suc (numbered_lists (callback + length operations) devices)

pub lists_count : (devices : List (List Operation)) → length (numbered devices) ≡ length devices
lists_count devices = numbered_lists 1 devices

pub listed_count : (devices : List (List Operation)) → length (listed (numbered devices)) ≡ length (objects_of devices)
listed_count devices =
    sym (length-map (listed (numbered devices)) (λ (c : Completion). c.callback))
    ∙ (ap (λ l. length l) (in_order devices) ∙ length-range_with_len 1 (length (objects_of devices)))

-- ---- one device after another

of_append : (device : ℕ) (front back : List Posted) → of device (front ++ back) ≡ of device front ++ of device back
of_append device front back =
    ap (λ l. map (λ (x : Posted). x.completion) l) (filter-append (λ (x : Posted). x.device == device) front back)
    ∙ map-append (λ (x : Posted). x.completion) (filter (λ (x : Posted). x.device == device) front) (filter (λ (x : Posted). x.device == device) back)

-- what one test says of each that is posted
with_test : (own device : ℕ) (same : Bool) → (own == device) ≡ same → (list : List Completion) → of device (posted_by own list) ≡ cond same list []
with_test own device true e [] = refl
with_test own device false e [] = refl
with_test own device true e (c ∷ list) =
    ap (λ b. map (λ (x : Posted). x.completion) (cond b (record { device = own; completion = c } ∷ filter (λ (x : Posted). x.device == device) (posted_by own list)) (filter (λ (x : Posted). x.device == device) (posted_by own list)))) e
    ∙ ap (λ l. c ∷ l) (with_test own device true e list)
with_test own device false e (c ∷ list) =
    ap (λ b. map (λ (x : Posted). x.completion) (cond b (record { device = own; completion = c } ∷ filter (λ (x : Posted). x.device == device) (posted_by own list)) (filter (λ (x : Posted). x.device == device) (posted_by own list)))) e
    ∙ with_test own device false e list

none_below : (device first : ℕ) (lists : List (List Completion)) → device < first → of device (posted_from first lists) ≡ []
none_below device first [] below = refl
none_below device first (list ∷ lists) below =
    of_append device (posted_by first list) (posted_from (first + 1) lists)
    ∙ ap₂ (λ a b. a ++ b) (with_test first device false (ne_eqb first device (λ e. omega (arith, e, below))) list) (none_below device (first + 1) lists (omega (arith, below)))

each_from : (device first i : ℕ) (lists : List (List Completion)) → device ≡ first + i → of device (posted_from first lists) ≡ slice_index_or lists i []
each_from device first zero [] at = refl
each_from device first (suc i) [] at = refl
each_from device first zero (list ∷ lists) at =
    of_append device (posted_by first list) (posted_from (first + 1) lists)
    ∙ (ap₂ (λ a b. a ++ b) (with_test first device true (eq-eqb first device (omega (arith, at))) list) (none_below device (first + 1) lists (omega (arith, at)))
    ∙ append-nil list)
each_from device first (suc i) (list ∷ lists) at =
    of_append device (posted_by first list) (posted_from (first + 1) lists)
    ∙ ap₂ (λ a b. a ++ b) (with_test first device false (ne_eqb first device (λ e. omega (arith, e, at))) list) (each_from device (first + 1) i lists (omega (arith, at)))

pub is_in_turn : (lists : List (List Completion)) → IsInterleaving lists (in_turn lists)
is_in_turn lists = each
  where
    each : (device : ℕ) → of device (in_turn lists) ≡ list_of lists device
    each zero = none_below 0 1 lists (omega arith)
    each (suc i) = each_from (suc i) 1 i lists (omega arith)
