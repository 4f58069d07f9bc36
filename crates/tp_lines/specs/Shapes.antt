-- The words of lines: the field in which each stands, its text, and the fields behind it.
use Rattle.std.specs.Prelude.{ℕ, List, [], ◌∷◌, codes}
use Rattle.tp_lines.specs.declared.words.Field.{Field}
use Rattle.tp_lines.specs.declared.words.Field.TheVariants as field
use Rattle.tp_lines.specs.declared.words.Word.{Word}
use Rattle.tp_lines.specs.declared.words.Word.TheVariants as word
use Rattle.tp_lines.specs.Words.{text_of_kind, text_of_priority, text_of_length, text_of_how, text_of_reset, text_of_signal, text_of_lock, text_of_owner, text_of_flag, text_of_slot, text_of_action, text_of_span, text_of_times}

pub record Shape : Type 0 where
  pub table : Field
  pub text : List ℕ
  pub fields : List Field

abbrev pub shape_of : Word → Shape
shape_of word.CreatePool = record { table = field.Call; text = codes "create-pool"; fields = [] }
shape_of word.ClosePool = record { table = field.Call; text = codes "close-pool"; fields = field.Short ∷ [] }
shape_of word.SetMaximum = record { table = field.Call; text = codes "set-maximum"; fields = field.Short ∷ field.Small ∷ [] }
shape_of word.SetMinimum = record { table = field.Call; text = codes "set-minimum"; fields = field.Short ∷ field.Small ∷ [] }
shape_of word.CreateGroup = record { table = field.Call; text = codes "create-group"; fields = [] }
shape_of word.CloseGroup = record { table = field.Call; text = codes "close-group"; fields = field.Short ∷ [] }
shape_of word.CloseMembers = record { table = field.Call; text = codes "close-members"; fields = field.Short ∷ field.How ∷ field.Cleanup ∷ [] }
shape_of word.Create = record { table = field.Call; text = codes "create"; fields = field.Kind ∷ field.Routine ∷ field.Context ∷ field.Pool ∷ field.Priority ∷ field.Length ∷ field.Group ∷ field.Cancel ∷ [] }
shape_of word.CloseObject = record { table = field.Call; text = codes "close"; fields = field.Kind ∷ field.Short ∷ [] }
shape_of word.SubmitSimple = record { table = field.Call; text = codes "submit-simple"; fields = field.Routine ∷ field.Context ∷ field.Pool ∷ field.Priority ∷ field.Length ∷ field.Group ∷ field.Cancel ∷ [] }
shape_of word.Submit = record { table = field.Call; text = codes "submit"; fields = field.Short ∷ [] }
shape_of word.SetTimer = record { table = field.Call; text = codes "set-timer"; fields = field.Short ∷ field.Due ∷ field.Small ∷ field.Small ∷ [] }
shape_of word.SetTimerEx = record { table = field.Call; text = codes "set-timer-ex"; fields = field.Short ∷ field.Due ∷ field.Small ∷ field.Small ∷ [] }
shape_of word.IsTimerSet = record { table = field.Call; text = codes "is-timer-set"; fields = field.Short ∷ [] }
shape_of word.Advance = record { table = field.Call; text = codes "advance"; fields = field.Time ∷ [] }
shape_of word.SetWait = record { table = field.Call; text = codes "set-wait"; fields = field.Short ∷ field.Named ∷ field.Due ∷ [] }
shape_of word.StartIo = record { table = field.Call; text = codes "start-io"; fields = field.Short ∷ [] }
shape_of word.IssueIo = record { table = field.Call; text = codes "issue-io"; fields = field.Short ∷ [] }
shape_of word.CancelIo = record { table = field.Call; text = codes "cancel-io"; fields = field.Short ∷ [] }
shape_of word.CompleteIo = record { table = field.Call; text = codes "complete-io"; fields = field.Large ∷ field.Small ∷ field.Large ∷ [] }
shape_of word.CompleteNext = record { table = field.Call; text = codes "complete-next"; fields = field.Short ∷ field.Small ∷ field.Large ∷ [] }
shape_of word.BeginWait = record { table = field.Call; text = codes "wait"; fields = field.Kind ∷ field.Short ∷ field.How ∷ [] }
shape_of word.BeginAcquire = record { table = field.Call; text = codes "acquire"; fields = field.Short ∷ [] }
shape_of word.TryAcquire = record { table = field.Call; text = codes "try-acquire"; fields = field.Short ∷ [] }
shape_of word.End = record { table = field.Call; text = codes "end"; fields = [] }
shape_of word.CreateEvent = record { table = field.Call; text = codes "create-event"; fields = field.Reset ∷ field.Signal ∷ [] }
shape_of word.CreateSemaphore = record { table = field.Call; text = codes "create-semaphore"; fields = field.Level ∷ field.Level ∷ [] }
shape_of word.CreateLock = record { table = field.Call; text = codes "create-lock"; fields = field.Lock ∷ field.Owner ∷ [] }
shape_of word.SetEvent = record { table = field.Call; text = codes "set-event"; fields = field.Short ∷ [] }
shape_of word.ResetEvent = record { table = field.Call; text = codes "reset-event"; fields = field.Short ∷ [] }
shape_of word.ReleaseSemaphore = record { table = field.Call; text = codes "release-semaphore"; fields = field.Short ∷ field.Units ∷ [] }
shape_of word.ReleaseLock = record { table = field.Call; text = codes "release-lock"; fields = field.Lock ∷ field.Short ∷ [] }
shape_of word.Attach = record { table = field.Call; text = codes "attach"; fields = [] }
shape_of word.Detach = record { table = field.Call; text = codes "detach"; fields = [] }
shape_of word.Take = record { table = field.Call; text = codes "take"; fields = [] }
shape_of word.Return = record { table = field.Call; text = codes "return"; fields = [] }
shape_of word.MayRunLong = record { table = field.Call; text = codes "may-run-long"; fields = [] }
shape_of word.Disassociate = record { table = field.Call; text = codes "disassociate"; fields = [] }
shape_of word.OnReturn = record { table = field.Call; text = codes "on-return"; fields = field.Action ∷ field.Short ∷ field.Units ∷ [] }
shape_of word.Finish = record { table = field.Call; text = codes "finish"; fields = [] }
shape_of word.Done = record { table = field.Answer; text = codes "ok"; fields = [] }
shape_of word.Made = record { table = field.Answer; text = codes "made"; fields = field.Made ∷ [] }
shape_of word.Queued = record { table = field.Answer; text = codes "queued"; fields = field.Large ∷ field.Short ∷ [] }
shape_of word.Was = record { table = field.Answer; text = codes "was"; fields = field.Flag ∷ field.Large ∷ field.Short ∷ [] }
shape_of word.Flag = record { table = field.Answer; text = codes "flag"; fields = field.Flag ∷ [] }
shape_of word.Freed = record { table = field.Answer; text = codes "freed"; fields = [] }
shape_of word.Later = record { table = field.Answer; text = codes "later"; fields = [] }
shape_of word.Closing = record { table = field.Answer; text = codes "closing"; fields = field.Short ∷ field.Short ∷ field.Short ∷ [] }
shape_of word.Begun = record { table = field.Answer; text = codes "begun"; fields = field.Short ∷ field.Short ∷ [] }
shape_of word.Ended = record { table = field.Answer; text = codes "ended"; fields = [] }
shape_of word.Exhausted = record { table = field.Answer; text = codes "exhausted"; fields = [] }
shape_of word.Stalled = record { table = field.Answer; text = codes "stalled"; fields = [] }
shape_of word.Notice = record { table = field.Answer; text = codes "notice"; fields = field.Origin ∷ field.Routine ∷ field.Context ∷ field.Cleanup ∷ [] }
shape_of word.Started = record { table = field.Answer; text = codes "started"; fields = field.Large ∷ [] }
shape_of word.Operation = record { table = field.Answer; text = codes "operation"; fields = field.Large ∷ [] }
shape_of word.Cancelled = record { table = field.Answer; text = codes "cancelled"; fields = field.Large ∷ [] }
shape_of word.Count = record { table = field.Answer; text = codes "count"; fields = field.Level ∷ field.Large ∷ field.Short ∷ [] }
shape_of word.Advanced = record { table = field.Answer; text = codes "advanced"; fields = field.Time ∷ field.Large ∷ field.Short ∷ [] }
shape_of word.Attached = record { table = field.Answer; text = codes "attached"; fields = field.Short ∷ [] }
shape_of word.Taken = record { table = field.Answer; text = codes "taken"; fields = field.Large ∷ field.Origin ∷ field.Routine ∷ field.Context ∷ field.Result ∷ [] }
shape_of word.Returned = record { table = field.Answer; text = codes "returned"; fields = field.Slot ∷ field.Slot ∷ field.Slot ∷ field.Slot ∷ field.Large ∷ field.Short ∷ [] }
shape_of word.Refused = record { table = field.Answer; text = codes "refused"; fields = field.Refusal ∷ [] }
shape_of word.Plain = record { table = field.Result; text = codes "plain"; fields = [] }
shape_of word.Object = record { table = field.Result; text = codes "object"; fields = [] }
shape_of word.Timeout = record { table = field.Result; text = codes "timeout"; fields = [] }
shape_of word.Io = record { table = field.Result; text = codes "io"; fields = field.Small ∷ field.Large ∷ [] }
shape_of word.NoSuch = record { table = field.Refusal; text = codes "no-such"; fields = [] }
shape_of word.WrongKind = record { table = field.Refusal; text = codes "wrong-kind"; fields = [] }
shape_of word.Released = record { table = field.Refusal; text = codes "released"; fields = [] }
shape_of word.PoolClosed = record { table = field.Refusal; text = codes "pool-closed"; fields = [] }
shape_of word.GroupClosed = record { table = field.Refusal; text = codes "group-closed"; fields = [] }
shape_of word.DefaultPool = record { table = field.Refusal; text = codes "default-pool"; fields = [] }
shape_of word.NotWorker = record { table = field.Refusal; text = codes "not-worker"; fields = [] }
shape_of word.NotRunning = record { table = field.Refusal; text = codes "not-running"; fields = [] }
shape_of word.StillRunning = record { table = field.Refusal; text = codes "still-running"; fields = [] }
shape_of word.InWait = record { table = field.Refusal; text = codes "in-wait"; fields = [] }
shape_of word.NoWaitBegun = record { table = field.Refusal; text = codes "no-wait-begun"; fields = [] }
shape_of word.OwnCallback = record { table = field.Refusal; text = codes "own-callback"; fields = [] }
shape_of word.HasMembers = record { table = field.Refusal; text = codes "has-members"; fields = field.Short ∷ [] }
shape_of word.NotStarted = record { table = field.Refusal; text = codes "not-started"; fields = [] }
shape_of word.NoOperation = record { table = field.Refusal; text = codes "no-operation"; fields = [] }
shape_of word.OperationsOutstanding = record { table = field.Refusal; text = codes "operations-outstanding"; fields = field.Short ∷ [] }
shape_of word.SlotTaken = record { table = field.Refusal; text = codes "slot-taken"; fields = field.Action ∷ [] }
shape_of word.NotOwner = record { table = field.Refusal; text = codes "not-owner"; fields = [] }
shape_of word.OverMaximum = record { table = field.Refusal; text = codes "over-maximum"; fields = field.Level ∷ [] }
shape_of word.NotWaitable = record { table = field.Refusal; text = codes "not-waitable"; fields = [] }
shape_of word.ClockEnd = record { table = field.Refusal; text = codes "clock-end"; fields = [] }
shape_of word.ObjectLimit = record { table = field.Refusal; text = codes "object-limit"; fields = [] }
shape_of word.CallbackLimit = record { table = field.Refusal; text = codes "callback-limit"; fields = [] }
shape_of word.NotAttached = record { table = field.Refusal; text = codes "not-attached"; fields = [] }
shape_of word.AlreadyAttached = record { table = field.Refusal; text = codes "already-attached"; fields = [] }
shape_of word.Look = record { table = field.Look; text = codes "look"; fields = field.State ∷ [] }
shape_of word.Full = record { table = field.Look; text = codes "full"; fields = field.Large ∷ field.Large ∷ [] }
shape_of word.NotYet = record { table = field.State; text = codes "not-yet"; fields = field.Target ∷ [] }
shape_of word.Empty = record { table = field.State; text = codes "empty"; fields = [] }
shape_of word.AtMaximum = record { table = field.State; text = codes "at-maximum"; fields = field.Short ∷ [] }
shape_of word.NoNeed = record { table = field.State; text = codes "no-need"; fields = [] }
shape_of word.Stay = record { table = field.State; text = codes "stay"; fields = [] }
shape_of word.Callback = record { table = field.Target; text = codes "callback"; fields = field.Large ∷ [] }
shape_of word.Kernel = record { table = field.Target; text = codes "kernel"; fields = field.Short ∷ [] }
shape_of (word.Kind kind) = record { table = field.Kind; text = text_of_kind kind; fields = [] }
shape_of (word.Priority priority) = record { table = field.Priority; text = text_of_priority priority; fields = [] }
shape_of (word.Length long persistent) = record { table = field.Length; text = text_of_length long persistent; fields = [] }
shape_of (word.How cancel) = record { table = field.How; text = text_of_how cancel; fields = [] }
shape_of (word.Reset manual) = record { table = field.Reset; text = text_of_reset manual; fields = [] }
shape_of (word.Signal signalled) = record { table = field.Signal; text = text_of_signal signalled; fields = [] }
shape_of (word.Lock lock) = record { table = field.Lock; text = text_of_lock lock; fields = [] }
shape_of (word.Owner owned) = record { table = field.Owner; text = text_of_owner owned; fields = [] }
shape_of (word.YesNo flag) = record { table = field.Flag; text = text_of_flag flag; fields = [] }
shape_of (word.Slot slot) = record { table = field.Slot; text = text_of_slot slot; fields = [] }
shape_of (word.Action action) = record { table = field.Action; text = text_of_action action; fields = [] }
shape_of word.QueueItem = record { table = field.OldCall; text = codes "queue-item"; fields = field.Routine ∷ field.Context ∷ field.Span ∷ [] }
shape_of word.Register = record { table = field.OldCall; text = codes "register"; fields = field.Short ∷ field.Routine ∷ field.Context ∷ field.Millis ∷ field.Times ∷ [] }
shape_of word.Unregister = record { table = field.OldCall; text = codes "unregister"; fields = field.Short ∷ [] }
shape_of word.CreateQueue = record { table = field.OldCall; text = codes "create-queue"; fields = [] }
shape_of word.CreateTimer = record { table = field.OldCall; text = codes "create-timer"; fields = field.Short ∷ field.Routine ∷ field.Context ∷ field.Small ∷ field.Small ∷ [] }
shape_of word.ChangeTimer = record { table = field.OldCall; text = codes "change-timer"; fields = field.Short ∷ field.Short ∷ field.Small ∷ field.Small ∷ [] }
shape_of word.DeleteTimer = record { table = field.OldCall; text = codes "delete-timer"; fields = field.Short ∷ field.Short ∷ [] }
shape_of word.DeleteQueue = record { table = field.OldCall; text = codes "delete-queue"; fields = field.Short ∷ [] }
shape_of (word.Span long) = record { table = field.Span; text = text_of_span long; fields = [] }
shape_of (word.Times once) = record { table = field.Times; text = text_of_times once; fields = [] }
shape_of word.Sleep = record { table = field.SleepCall; text = codes "sleep"; fields = field.Time ∷ [] }

abbrev pub table_of : Word → Field
table_of word = (shape_of word).table

abbrev pub text_of_word : Word → List ℕ
text_of_word word = (shape_of word).text

abbrev pub fields_of : Word → List Field
fields_of word = (shape_of word).fields
