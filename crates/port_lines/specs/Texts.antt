-- Texts of devices and their operations, and the place of the first fault in a text that is none.
use Rattle.std.specs.Prelude.{◌≡◌, ◌≢◌, ℕ, ◌+◌, ◌<◌, ◌≤◌, List, [], ◌∷◌, ◌++◌, length, map, All, codes, decimal, ◌⊎◌}
use Rattle.std.specs.Global.{Vec}
use Rattle.line_grammar.specs.Language.{AnyOf, Begins, Stops}
use Rattle.line_grammar.specs.Traces.{EndedLine, trace_text}
use Rattle.port_lines.specs.declared.lines.Line.{Line}
use Rattle.port_lines.specs.declared.lines.Line.TheVariants.{Device, Op}
use Rattle.port_lines.specs.declared.lines.Operation.{Operation}
use Rattle.port_lines.specs.declared.lines.TheConstants.{DEVICE_LIMIT, OPERATION_LIMIT}

-- a line, without its line feed
abbrev pub line_text : Line → List ℕ
line_text Device = codes "device"
line_text (Op operation) = codes "op " ++ (decimal operation.error ++ 32 ∷ decimal operation.bytes)

-- the numbers of an operation are of 32 and of 64 bits
abbrev pub IsInRange : Line → Type 0
IsInRange Device = Unit {0}
IsInRange (Op operation) = (operation.error ≤ 4294967295) × (operation.bytes ≤ 18446744073709551615)

-- the lines of devices: that of each, and behind it those of its operations
abbrev pub lines_of : List (List Operation) → List Line
lines_of [] = []
lines_of (operations ∷ devices) = Device ∷ (map (λ (operation : Operation). Op operation) operations ++ lines_of devices)

-- how many operations they have in all
abbrev pub operation_count : List (List Operation) → ℕ
operation_count [] = 0
operation_count (operations ∷ devices) = length operations + operation_count devices

-- there are no more devices and operations than a text may tell, and their numbers are in range
pub record AreDevices (devices : List (List Operation)) : Type 0 where
  pub devices_most : length devices ≤ DEVICE_LIMIT
  pub operations_most : operation_count devices ≤ OPERATION_LIMIT
  pub in_range : All IsInRange (lines_of devices)

-- the text of lines, each with its line feed
abbrev pub text_of : List Line → List ℕ
text_of lines = trace_text (map line_text lines)

-- the bytes are the lines of these devices, and nothing else
pub record IsPortText (bytes : List ℕ) (devices : List (List Operation)) : Type 0 where
  pub are : AreDevices devices
  pub split : bytes ≡ text_of (lines_of devices)

-- what may stand behind so many devices and operations: one more of either, and no operation where there is no device
abbrev pub MayStand : ℕ → ℕ → Line → Type 0
MayStand devices operations Device = devices < DEVICE_LIMIT
MayStand devices operations (Op operation) = (0 < devices) × (operations < OPERATION_LIMIT) × IsInRange (Op operation)

abbrev pub NextLines : ℕ → ℕ → Line → List ℕ → Type 0
NextLines devices operations line text = MayStand devices operations line × (text ≡ line_text line)

-- the lines that may stand behind those of these devices
abbrev pub LinesBelow : List (List Operation) → List ℕ → Type 0
LinesBelow devices = AnyOf (NextLines (length devices) (operation_count devices))

-- the front is the longest that it and what follows it share with a text of the language: the empty one where the
-- language has no text
pub record IsLongest (L : List ℕ → Type 0) (front rest : List ℕ) : Type 0 where
  pub begins : (front ≡ []) ⊎ Begins L front
  pub stops : Stops L front rest

-- the first fault of bytes that are no lines of devices: behind the lines of some devices something is left, which goes
-- along with a line that may stand there and its line feed for as long as `front` and is none
pub record IsPortFault (bytes : List ℕ) (line column : ℕ) : Type 0 where
  pub above : List (List Operation)
  pub front : List ℕ
  pub back : List ℕ
  pub are_above : AreDevices above
  pub split : bytes ≡ text_of (lines_of above) ++ (front ++ back)
  pub left : front ++ back ≢ []
  pub open_line : EndedLine (LinesBelow above) front → ⊥
  pub longest : IsLongest (EndedLine (LinesBelow above)) front back
  pub line_of : line ≡ length (lines_of above) + 1
  pub column_of : column ≡ length front + 1

-- the lists that vectors have
abbrev pub lists_of : List (Vec Operation) → List (List Operation)
lists_of devices = map (λ v. v.items) devices
