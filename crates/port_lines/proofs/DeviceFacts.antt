-- Devices, and their lines.
use Rattle.std.proofs.Common.{◌≡◌, ℕ, zero, suc, ◌+◌, ◌<◌, ◌≤◌, List, [], ◌∷◌, ◌++◌, length, get_or, set, refl, sym, ap, ap₂, ◌∙◌, subst, arith, append_assoc, length-append}
use Rattle.std.specs.Prelude.{All, map}
use Rattle.std.proofs.lemmas.List.{append-nil, length-map, map-append}
use Rattle.std.proofs.lemmas.List.Elements.{All-head, All-push, All-tail}
use Rattle.port_lines.specs.declared.lines.Line.{Line}
use Rattle.port_lines.specs.declared.lines.Line.TheVariants.{Device, Op}
use Rattle.port_lines.specs.declared.lines.Operation.{Operation}
use Rattle.port_lines.specs.Texts.{AreDevices, IsInRange, MayStand, lines_of, operation_count}

abbrev operation_lines : List Operation → List Line
operation_lines operations = map (λ (operation : Operation). Op operation) operations

-- ---- how many there are

abbrev device_lines : List Line → ℕ
device_lines [] = 0
device_lines (Device ∷ lines) = suc (device_lines lines)
device_lines (Op operation ∷ lines) = device_lines lines

device_lines-append : (lines more : List Line) → device_lines (lines ++ more) ≡ device_lines lines + device_lines more
device_lines-append [] more = omega arith
device_lines-append (Device ∷ lines) more = omega (arith, device_lines-append lines more)
device_lines-append (Op operation ∷ lines) more = device_lines-append lines more

device_lines_most : (lines : List Line) → device_lines lines ≤ length lines
device_lines_most [] = omega arith
device_lines_most (Device ∷ lines) = omega (arith, device_lines_most lines)
device_lines_most (Op operation ∷ lines) = omega (arith, device_lines_most lines)

no_devices : (operations : List Operation) (lines : List Line) → device_lines (operation_lines operations ++ lines) ≡ device_lines lines
no_devices [] lines = refl
no_devices (operation ∷ operations) lines = no_devices operations lines

device_count : (devices : List (List Operation)) → device_lines (lines_of devices) ≡ length devices
device_count [] = refl
device_count (operations ∷ devices) = omega (arith, no_devices operations (lines_of devices), device_count devices)

pub line_count : (devices : List (List Operation)) → length (lines_of devices) ≡ length devices + operation_count devices
line_count [] = refl
line_count (operations ∷ devices) =
    omega (
      arith,
      line_count devices,
      length-append (operation_lines operations) (lines_of devices),
      length-map operations (λ (operation : Operation). Op operation),
    )

-- ---- one line more

all_back : {X : Type 0} (P : X → Type 0) (front rest : List X) → All P (front ++ rest) → All P rest
all_back P [] rest h = h
all_back P (x ∷ front) rest h = all_back P front rest (All-tail P x (front ++ rest) h)

pub no_operation : (devices : List (List Operation)) (operation : Operation) (more : List Line) → lines_of devices ≡ Op operation ∷ more → ⊥
no_operation [] operation more e = let none : ⊥ = cc in none
no_operation (operations ∷ devices) operation more e = let none : ⊥ = cc in none

some_device : (devices all : List (List Operation)) (operation : Operation) (more : List Line) → lines_of all ≡ lines_of devices ++ Op operation ∷ more → 0 < length devices
some_device [] all operation more e = absurd (no_operation all operation more e)
some_device (operations ∷ devices) all operation more e = omega arith

-- what stands behind the lines of devices may stand there
pub may_stand : (devices all : List (List Operation)) (line : Line) (more : List Line) → AreDevices all → lines_of all ≡ lines_of devices ++ line ∷ more → MayStand (length devices) (operation_count devices) line
may_stand devices all Device more are e =
    omega (arith, are.devices_most, device_count devices, device_count all, ap device_lines e, device_lines-append (lines_of devices) (Device ∷ more))
may_stand devices all (Op operation) more are e = (
  some_device devices all operation more e,
  omega (
    arith,
    are.operations_most,
    device_count devices,
    device_count all,
    line_count devices,
    line_count all,
    ap device_lines e,
    device_lines-append (lines_of devices) (Op operation ∷ more),
    ap length e,
    length-append (lines_of devices) (Op operation ∷ more),
    device_lines_most more,
  ),
  All-head IsInRange (Op operation) more (all_back IsInRange (lines_of devices) (Op operation ∷ more) (subst (λ l. All IsInRange l) e are.in_range)),
)

pub in_range_of : (devices operations : ℕ) (line : Line) → MayStand devices operations line → IsInRange line
in_range_of devices operations Device may = tt
in_range_of devices operations (Op operation) may = may.2

-- what may stand there makes devices again
pub are_more : (devices new : List (List Operation)) (line : Line) → AreDevices devices → MayStand (length devices) (operation_count devices) line → lines_of new ≡ lines_of devices ++ line ∷ [] → AreDevices new
are_more devices new line are may e =
    let most = counts line may e in
    record {
      devices_most = most.0;
      operations_most = most.1;
      in_range = subst (λ l. All IsInRange l) (sym e) (All-push IsInRange (lines_of devices) line are.in_range (in_range_of (length devices) (operation_count devices) line may));
    }
  where
    counts : (line : Line) → MayStand (length devices) (operation_count devices) line → lines_of new ≡ lines_of devices ++ line ∷ [] → (length new ≤ 15) × (operation_count new ≤ 8192)
    counts Device may e =
        let devices_is : length new ≡ length devices + 1 = omega (arith, device_count new, device_count devices, ap device_lines e, device_lines-append (lines_of devices) (Device ∷ [])) in
        let lines_is : length (lines_of new) ≡ length (lines_of devices) + 1 = omega (arith, ap length e, length-append (lines_of devices) (Device ∷ [])) in
        (omega (arith, may), omega (arith, are.operations_most, line_count new, line_count devices))
    counts (Op operation) may e =
        let devices_is : length new ≡ length devices = omega (arith, device_count new, device_count devices, ap device_lines e, device_lines-append (lines_of devices) (Op operation ∷ [])) in
        let lines_is : length (lines_of new) ≡ length (lines_of devices) + 1 = omega (arith, ap length e, length-append (lines_of devices) (Op operation ∷ [])) in
        (omega (arith, are.devices_most), omega (arith, may.1, line_count new, line_count devices))

pub device_added : (devices : List (List Operation)) → lines_of (devices ++ [] ∷ []) ≡ lines_of devices ++ Device ∷ []
device_added [] = refl
device_added (operations ∷ devices) =
    ap (λ l. Device ∷ (operation_lines operations ++ l)) (device_added devices)
    ∙ ap (λ l. Device ∷ l) (sym (append_assoc (operation_lines operations) (lines_of devices) (Device ∷ [])))

pub operation_added : (devices : List (List Operation)) (i : ℕ) (longer : List Operation) (operation : Operation) → i + 1 ≡ length devices → longer ≡ get_or devices i [] ++ operation ∷ []
    → lines_of (set devices i longer) ≡ lines_of devices ++ Op operation ∷ []
operation_added [] i longer operation last e = absurd (omega (arith, last))
operation_added (operations ∷ []) zero longer operation last e =
    ap (λ l. Device ∷ l)
    (append-nil (operation_lines longer) ∙ ap operation_lines e ∙ map-append (λ (o : Operation). Op o) operations (operation ∷ [])
    ∙ ap (λ l. l ++ Op operation ∷ []) (sym (append-nil (operation_lines operations))))
operation_added (operations ∷ []) (suc i) longer operation last e = absurd (omega (arith, last))
operation_added (operations ∷ (next ∷ devices)) zero longer operation last e = absurd (omega (arith, last))
operation_added (operations ∷ (next ∷ devices)) (suc i) longer operation last e =
    ap (λ l. Device ∷ (operation_lines operations ++ l)) (operation_added (next ∷ devices) i longer operation (omega (arith, last)) e)
    ∙ ap (λ l. Device ∷ l) (sym (append_assoc (operation_lines operations) (lines_of (next ∷ devices)) (Op operation ∷ [])))

-- ---- devices are told by their lines

same_operations : (p q : List Operation) (a b : List (List Operation)) → operation_lines p ++ lines_of a ≡ operation_lines q ++ lines_of b → (p ≡ q) × (lines_of a ≡ lines_of b)
same_operations [] [] a b e = (refl, e)
same_operations [] (o ∷ q) a b e = absurd (no_operation a o (operation_lines q ++ lines_of b) e)
same_operations (o ∷ p) [] a b e = absurd (no_operation b o (operation_lines p ++ lines_of a) (sym e))
same_operations (o ∷ p) (r ∷ q) a b e =
    let heads : o ≡ r = cc in
    let tails : operation_lines p ++ lines_of a ≡ operation_lines q ++ lines_of b = cc in
    let s = same_operations p q a b tails in
    (ap₂ (λ x xs. x ∷ xs) heads s.0, s.1)

pub same_devices : (a b : List (List Operation)) → lines_of a ≡ lines_of b → a ≡ b
same_devices [] [] e = refl
same_devices [] (q ∷ b) e = let none : ⊥ = cc in absurd none
same_devices (p ∷ a) [] e = let none : ⊥ = cc in absurd none
same_devices (p ∷ a) (q ∷ b) e =
    let tails : operation_lines p ++ lines_of a ≡ operation_lines q ++ lines_of b = cc in
    let s = same_operations p q a b tails in
    ap₂ (λ x xs. x ∷ xs) s.0 (same_devices a b s.1)
