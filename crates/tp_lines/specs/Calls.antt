-- The rows of calls, and the lines of calls.
use Rattle.std.specs.Prelude.{◌≡◌, ℕ, ◌+◌, ◌≤◌, List, [], ◌∷◌, ◌++◌, Option, Some, None}
use Rattle.line_grammar.specs.Language.{AnyOf}
use Rattle.tp_base.specs.declared.calls.Call.{Call}
use Rattle.tp_base.specs.declared.calls.Call.TheVariants as call
use Rattle.tp_base.specs.declared.calls.Environ.{Environ}
use Rattle.tp_base.specs.declared.ids.Who.{Who}
use Rattle.tp_base.specs.declared.ids.Who.TheVariants.{Client, Worker}
use Rattle.tp_lines.specs.declared.parts.Part.{Part}
use Rattle.tp_lines.specs.declared.parts.Part.TheVariants as part
use Rattle.tp_lines.specs.declared.words.Field.TheVariants as field
use Rattle.tp_lines.specs.declared.words.Word.{Word}
use Rattle.tp_lines.specs.declared.words.Word.TheVariants as word
use Rattle.tp_lines.specs.Parts.{AreFit, parts_of, row_text}
use Rattle.tp_lines.specs.Rows.{RowTexts}
use Rattle.tp_lines.specs.Values.{part_at, small_of, large_of, due_of, named_of, kind_of, priority_of, length_of, persistent_of, how_of, reset_of, signal_of, lock_of, owner_of, action_of}
use Rattle.tp_lines.specs.Words.{text_of_who}

abbrev pub environ_parts : Environ → List Part
environ_parts env = part.Pool env.pool.0 ∷ part.Word (word.Priority env.priority) ∷ part.Word (word.Length env.long env.persistent) ∷ part.Group env.group.0 ∷ part.Cancel env.cancel.0 ∷ []

-- the word and the parts of a call
abbrev pub row_of : Call → Word × List Part
row_of call.CreatePool = (word.CreatePool, [])
row_of (call.ClosePool pool) = (word.ClosePool, part.Short pool.0 ∷ [])
row_of (call.SetMaximum pool value) = (word.SetMaximum, part.Short pool.0 ∷ part.Small value ∷ [])
row_of (call.SetMinimum pool value) = (word.SetMinimum, part.Short pool.0 ∷ part.Small value ∷ [])
row_of call.CreateGroup = (word.CreateGroup, [])
row_of (call.CloseGroup group) = (word.CloseGroup, part.Short group.0 ∷ [])
row_of (call.BeginClose group cancel context) = (word.CloseMembers, part.Short group.0 ∷ part.Word (word.How cancel) ∷ part.Cleanup context ∷ [])
row_of (call.Create kind routine context env) = (word.Create, part.Word (word.Kind kind) ∷ part.Routine routine.0 ∷ part.Context context ∷ environ_parts env)
row_of (call.CloseObject kind object) = (word.CloseObject, part.Word (word.Kind kind) ∷ part.Short object.0 ∷ [])
row_of (call.SubmitSimple routine context env) = (word.SubmitSimple, part.Routine routine.0 ∷ part.Context context ∷ environ_parts env)
row_of (call.SubmitWork object) = (word.Submit, part.Short object.0 ∷ [])
row_of (call.SetTimer object due period window) = (word.SetTimer, part.Short object.0 ∷ part.Due due ∷ part.Small period ∷ part.Small window ∷ [])
row_of (call.SetTimerEx object due period window) = (word.SetTimerEx, part.Short object.0 ∷ part.Due due ∷ part.Small period ∷ part.Small window ∷ [])
row_of (call.IsTimerSet object) = (word.IsTimerSet, part.Short object.0 ∷ [])
row_of (call.Advance ticks) = (word.Advance, part.Time ticks ∷ [])
row_of (call.SetWait object kernel timeout) = (word.SetWait, part.Short object.0 ∷ part.Named kernel ∷ part.Due timeout ∷ [])
row_of (call.StartIo object) = (word.StartIo, part.Short object.0 ∷ [])
row_of (call.IssueIo object) = (word.IssueIo, part.Short object.0 ∷ [])
row_of (call.CancelIo object) = (word.CancelIo, part.Short object.0 ∷ [])
row_of (call.CompleteIo callback error bytes) = (word.CompleteIo, part.Large callback ∷ part.Small error ∷ part.Large bytes ∷ [])
row_of (call.CompleteNext object error bytes) = (word.CompleteNext, part.Short object.0 ∷ part.Small error ∷ part.Large bytes ∷ [])
row_of (call.BeginWait kind object cancel) = (word.BeginWait, part.Word (word.Kind kind) ∷ part.Short object.0 ∷ part.Word (word.How cancel) ∷ [])
row_of (call.BeginAcquire kernel) = (word.BeginAcquire, part.Short kernel.0 ∷ [])
row_of (call.TryAcquire kernel) = (word.TryAcquire, part.Short kernel.0 ∷ [])
row_of call.End = (word.End, [])
row_of (call.CreateEvent manual signalled) = (word.CreateEvent, part.Word (word.Reset manual) ∷ part.Word (word.Signal signalled) ∷ [])
row_of (call.CreateSemaphore initial maximum) = (word.CreateSemaphore, part.Level initial ∷ part.Level maximum ∷ [])
row_of (call.CreateLock lock owned) = (word.CreateLock, part.Word (word.Lock lock) ∷ part.Word (word.Owner owned) ∷ [])
row_of (call.SetEvent kernel) = (word.SetEvent, part.Short kernel.0 ∷ [])
row_of (call.ResetEvent kernel) = (word.ResetEvent, part.Short kernel.0 ∷ [])
row_of (call.ReleaseSemaphore kernel count) = (word.ReleaseSemaphore, part.Short kernel.0 ∷ part.Units count ∷ [])
row_of (call.ReleaseLock lock kernel) = (word.ReleaseLock, part.Word (word.Lock lock) ∷ part.Short kernel.0 ∷ [])
row_of call.Attach = (word.Attach, [])
row_of call.Detach = (word.Detach, [])
row_of call.Take = (word.Take, [])
row_of call.Return = (word.Return, [])
row_of call.MayRunLong = (word.MayRunLong, [])
row_of call.Disassociate = (word.Disassociate, [])
row_of (call.OnReturn kind kernel count) = (word.OnReturn, part.Word (word.Action kind) ∷ part.Short kernel.0 ∷ part.Units count ∷ [])
row_of call.Finish = (word.Finish, [])

-- the line of a call, without its line feed
abbrev pub line_of_call : Who → Call → List ℕ
line_of_call who made = text_of_who who ++ 32 ∷ row_text (row_of made)

abbrev pub IsWhoInRange : Who → Type 0
IsWhoInRange (Client number) = (1 ≤ number) × (number ≤ 16)
IsWhoInRange (Worker number) = (1 ≤ number) × (number ≤ 64)

-- the number of the client, and 0 for a worker
abbrev pub client_number : Who → ℕ
client_number (Client number) = number
client_number (Worker number) = 0

-- a line can have the numbers and words of the call
abbrev pub FitsCall : Call → Type 0
FitsCall made = AreFit (field.Call ∷ []) (parts_of (row_of made))

-- the text is the line of this call by this actor, and a line can have their numbers
pub record IsCallLine (who : Who) (made : Call) (text : List ℕ) : Type 0 where
  pub who_in_range : IsWhoInRange who
  pub call_in_range : FitsCall made
  pub split : text ≡ line_of_call who made

abbrev pub CallLines : (Who × Call) → List ℕ → Type 0
CallLines (who, made) text = IsCallLine who made text

abbrev pub IsLine : List ℕ → Type 0
IsLine = AnyOf CallLines

-- the texts of calls behind their actor
abbrev pub CallTexts : Call → List ℕ → Type 0
CallTexts = RowTexts field.Call row_of

pub record IsWhoText (who : Who) (text : List ℕ) : Type 0 where
  pub in_range : IsWhoInRange who
  pub split : text ≡ text_of_who who

abbrev pub WhoTexts : Who → List ℕ → Type 0
WhoTexts who text = IsWhoText who text

-- the environment that stands from an index on
abbrev pub environ_at : List Part → ℕ → Environ
environ_at parts index = record {
  pool = record { 0 = small_of (part_at parts index) };
  group = record { 0 = small_of (part_at parts (index + 3)) };
  cancel = record { 0 = small_of (part_at parts (index + 4)) };
  priority = priority_of (part_at parts (index + 1));
  long = length_of (part_at parts (index + 2));
  persistent = persistent_of (part_at parts (index + 2));
}

-- the call of a row, whose word stands at index 0
abbrev pub call_at : Word → List Part → Option Call
call_at word.CreatePool parts = Some call.CreatePool
call_at word.ClosePool parts = Some (call.ClosePool (record { 0 = small_of (part_at parts 1) }))
call_at word.SetMaximum parts = Some (call.SetMaximum (record { 0 = small_of (part_at parts 1) }) (small_of (part_at parts 2)))
call_at word.SetMinimum parts = Some (call.SetMinimum (record { 0 = small_of (part_at parts 1) }) (small_of (part_at parts 2)))
call_at word.CreateGroup parts = Some call.CreateGroup
call_at word.CloseGroup parts = Some (call.CloseGroup (record { 0 = small_of (part_at parts 1) }))
call_at word.CloseMembers parts = Some (call.BeginClose (record { 0 = small_of (part_at parts 1) }) (how_of (part_at parts 2)) (large_of (part_at parts 3)))
call_at word.Create parts = Some (call.Create (kind_of (part_at parts 1)) (record { 0 = small_of (part_at parts 2) }) (large_of (part_at parts 3)) (environ_at parts 4))
call_at word.CloseObject parts = Some (call.CloseObject (kind_of (part_at parts 1)) (record { 0 = small_of (part_at parts 2) }))
call_at word.SubmitSimple parts = Some (call.SubmitSimple (record { 0 = small_of (part_at parts 1) }) (large_of (part_at parts 2)) (environ_at parts 3))
call_at word.Submit parts = Some (call.SubmitWork (record { 0 = small_of (part_at parts 1) }))
call_at word.SetTimer parts = Some (call.SetTimer (record { 0 = small_of (part_at parts 1) }) (due_of (part_at parts 2)) (small_of (part_at parts 3)) (small_of (part_at parts 4)))
call_at word.SetTimerEx parts = Some (call.SetTimerEx (record { 0 = small_of (part_at parts 1) }) (due_of (part_at parts 2)) (small_of (part_at parts 3)) (small_of (part_at parts 4)))
call_at word.IsTimerSet parts = Some (call.IsTimerSet (record { 0 = small_of (part_at parts 1) }))
call_at word.Advance parts = Some (call.Advance (large_of (part_at parts 1)))
call_at word.SetWait parts = Some (call.SetWait (record { 0 = small_of (part_at parts 1) }) (named_of (part_at parts 2)) (due_of (part_at parts 3)))
call_at word.StartIo parts = Some (call.StartIo (record { 0 = small_of (part_at parts 1) }))
call_at word.IssueIo parts = Some (call.IssueIo (record { 0 = small_of (part_at parts 1) }))
call_at word.CancelIo parts = Some (call.CancelIo (record { 0 = small_of (part_at parts 1) }))
call_at word.CompleteIo parts = Some (call.CompleteIo (large_of (part_at parts 1)) (small_of (part_at parts 2)) (large_of (part_at parts 3)))
call_at word.CompleteNext parts = Some (call.CompleteNext (record { 0 = small_of (part_at parts 1) }) (small_of (part_at parts 2)) (large_of (part_at parts 3)))
call_at word.BeginWait parts = Some (call.BeginWait (kind_of (part_at parts 1)) (record { 0 = small_of (part_at parts 2) }) (how_of (part_at parts 3)))
call_at word.BeginAcquire parts = Some (call.BeginAcquire (record { 0 = small_of (part_at parts 1) }))
call_at word.TryAcquire parts = Some (call.TryAcquire (record { 0 = small_of (part_at parts 1) }))
call_at word.End parts = Some call.End
call_at word.CreateEvent parts = Some (call.CreateEvent (reset_of (part_at parts 1)) (signal_of (part_at parts 2)))
call_at word.CreateSemaphore parts = Some (call.CreateSemaphore (small_of (part_at parts 1)) (small_of (part_at parts 2)))
call_at word.CreateLock parts = Some (call.CreateLock (lock_of (part_at parts 1)) (owner_of (part_at parts 2)))
call_at word.SetEvent parts = Some (call.SetEvent (record { 0 = small_of (part_at parts 1) }))
call_at word.ResetEvent parts = Some (call.ResetEvent (record { 0 = small_of (part_at parts 1) }))
call_at word.ReleaseSemaphore parts = Some (call.ReleaseSemaphore (record { 0 = small_of (part_at parts 1) }) (small_of (part_at parts 2)))
call_at word.ReleaseLock parts = Some (call.ReleaseLock (lock_of (part_at parts 1)) (record { 0 = small_of (part_at parts 2) }))
call_at word.Attach parts = Some call.Attach
call_at word.Detach parts = Some call.Detach
call_at word.Take parts = Some call.Take
call_at word.Return parts = Some call.Return
call_at word.MayRunLong parts = Some call.MayRunLong
call_at word.Disassociate parts = Some call.Disassociate
call_at word.OnReturn parts = Some (call.OnReturn (action_of (part_at parts 1)) (record { 0 = small_of (part_at parts 2) }) (small_of (part_at parts 3)))
call_at word.Finish parts = Some call.Finish
call_at _ parts = None
