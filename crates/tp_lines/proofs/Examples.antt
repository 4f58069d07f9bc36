-- The definitions give the lines of small examples, by computation alone.
use Rattle.std.proofs.Common.{◌≡◌, ℕ, List, [], ◌∷◌, refl, true, false, None, Some}
use Rattle.std.specs.Fmt.{digits}
use Rattle.std.specs.Prelude.{pos, negsuc, codes, map}
use Rattle.tp_base.specs.declared.answers.ActionKind.TheVariants as action
use Rattle.tp_base.specs.declared.answers.Answer.TheVariants as answer
use Rattle.tp_base.specs.declared.answers.Look.TheVariants as look
use Rattle.tp_base.specs.declared.answers.Outcome.TheVariants as outcome
use Rattle.tp_base.specs.declared.answers.Refusal.TheVariants as refusal
use Rattle.tp_base.specs.declared.answers.SlotWord.TheVariants.{Unasked, Performed, NotOwner, OverMaximum}
use Rattle.tp_base.specs.declared.answers.TakeResult.TheVariants as taken
use Rattle.tp_base.specs.declared.calls.Call.TheVariants as call
use Rattle.tp_base.specs.declared.calls.Environ.{Environ}
use Rattle.tp_base.specs.declared.calls.Kind.TheVariants as kind
use Rattle.tp_base.specs.declared.calls.Lock.TheVariants as lock
use Rattle.tp_base.specs.declared.calls.Priority.TheVariants.{High, Normal, Low}
use Rattle.tp_base.specs.declared.ids.Who.TheVariants.{Client, Worker}
use Rattle.tp_lines.specs.Answers.{line_of_entry, text_of_answer, text_of_outcome}
use Rattle.tp_lines.specs.Calls.{line_of_call}

-- each value has the text beside it
abbrev AreTexts : {V : Type 0} → (V → List ℕ) → List (V × List ℕ) → Type 0
AreTexts text_of rows = map (λ row. text_of (row.0)) rows ≡ map (λ row. row.1) rows

calls_of_pools : AreTexts (line_of_call (Client 16))
    ((call.CreatePool, codes "c16 create-pool")
    ∷ (call.ClosePool (record { 0 = 65535 }), codes "c16 close-pool 65535")
    ∷ (call.SetMaximum (record { 0 = 1 }) 4294967295, codes "c16 set-maximum 1 4294967295")
    ∷ (call.SetMinimum (record { 0 = 12 }) 0, codes "c16 set-minimum 12 0") ∷ [])
unfolding digits
calls_of_pools = refl

calls_of_groups : AreTexts (line_of_call (Client 1))
    ((call.CreateGroup, codes "c1 create-group")
    ∷ (call.CloseGroup (record { 0 = 7 }), codes "c1 close-group 7")
    ∷ (call.BeginClose (record { 0 = 1 }) true 7, codes "c1 close-members 1 cancel y7")
    ∷ (call.BeginClose (record { 0 = 12 }) false 18446744073709551615, codes "c1 close-members 12 keep y18446744073709551615") ∷ [])
unfolding digits
calls_of_groups = refl

in_group : Environ
in_group = record { pool = record { 0 = 3 }; group = record { 0 = 65535 }; cancel = record { 0 = 9 }; priority = High; long = true; persistent = false }

plain : Environ
plain = record { pool = record { 0 = 0 }; group = record { 0 = 0 }; cancel = record { 0 = 0 }; priority = Normal; long = false; persistent = false }

slow : Environ
slow = record { pool = record { 0 = 2 }; group = record { 0 = 0 }; cancel = record { 0 = 0 }; priority = Low; long = false; persistent = false }

lasting : Environ
lasting = record { pool = record { 0 = 2 }; group = record { 0 = 0 }; cancel = record { 0 = 0 }; priority = Normal; long = false; persistent = true }

lasting_long : Environ
lasting_long = record { pool = record { 0 = 2 }; group = record { 0 = 0 }; cancel = record { 0 = 0 }; priority = Normal; long = true; persistent = true }

calls_of_objects : AreTexts (line_of_call (Client 1))
    ((call.Create kind.Work (record { 0 = 1 }) 18446744073709551615 in_group, codes "c1 create work r1 x18446744073709551615 p3 high long g65535 q9")
    ∷ (call.Create kind.Timer (record { 0 = 2 }) 7 plain, codes "c1 create timer r2 x7 p0 normal short g0 q0")
    ∷ (call.Create kind.Wait (record { 0 = 2 }) 7 slow, codes "c1 create wait r2 x7 p2 low short g0 q0")
    ∷ (call.Create kind.Io (record { 0 = 2 }) 7 plain, codes "c1 create io r2 x7 p0 normal short g0 q0")
    ∷ (call.Create kind.Work (record { 0 = 2 }) 7 lasting, codes "c1 create work r2 x7 p2 normal persistent g0 q0")
    ∷ (call.SubmitSimple (record { 0 = 2 }) 7 lasting_long, codes "c1 submit-simple r2 x7 p2 normal persistent-long g0 q0")
    ∷ (call.SubmitSimple (record { 0 = 65535 }) 0 in_group, codes "c1 submit-simple r65535 x0 p3 high long g65535 q9")
    ∷ (call.SubmitWork (record { 0 = 12 }), codes "c1 submit 12")
    ∷ (call.CloseObject kind.Wait (record { 0 = 3 }), codes "c1 close wait 3")
    ∷ (call.BeginWait kind.Io (record { 0 = 3 }) true, codes "c1 wait io 3 cancel")
    ∷ (call.BeginWait kind.Timer (record { 0 = 3 }) false, codes "c1 wait timer 3 keep")
    ∷ (call.End, codes "c1 end") ∷ [])
unfolding digits in_group plain slow lasting lasting_long
calls_of_objects = refl

-- a due time may be none, a moment, or an interval behind a sign
calls_of_timers : AreTexts (line_of_call (Client 1))
    ((call.SetTimer (record { 0 = 1 }) None 0 0, codes "c1 set-timer 1 none 0 0")
    ∷ (call.SetTimer (record { 0 = 2 }) (Some (pos 9223372036854775807)) 1000 50, codes "c1 set-timer 2 9223372036854775807 1000 50")
    ∷ (call.SetTimerEx (record { 0 = 7 }) (Some (negsuc 9999)) 0 4294967295, codes "c1 set-timer-ex 7 -10000 0 4294967295")
    ∷ (call.IsTimerSet (record { 0 = 7 }), codes "c1 is-timer-set 7")
    ∷ (call.Advance 10000, codes "c1 advance 10000") ∷ [])
unfolding digits
calls_of_timers = refl

calls_of_waits : AreTexts (line_of_call (Client 1))
    ((call.SetWait (record { 0 = 7 }) (Some (record { 0 = 2 })) (Some (negsuc 9223372036854775807)), codes "c1 set-wait 7 2 -9223372036854775808")
    ∷ (call.SetWait (record { 0 = 7 }) (Some (record { 0 = 0 })) None, codes "c1 set-wait 7 0 none")
    ∷ (call.SetWait (record { 0 = 7 }) None (Some (pos 0)), codes "c1 set-wait 7 none 0") ∷ [])
unfolding digits
calls_of_waits = refl

calls_of_operations : AreTexts (line_of_call (Client 1))
    ((call.StartIo (record { 0 = 3 }), codes "c1 start-io 3")
    ∷ (call.IssueIo (record { 0 = 3 }), codes "c1 issue-io 3")
    ∷ (call.CancelIo (record { 0 = 3 }), codes "c1 cancel-io 3")
    ∷ (call.CompleteIo 4 38 512, codes "c1 complete-io 4 38 512")
    ∷ (call.CompleteNext (record { 0 = 3 }) 995 0, codes "c1 complete-next 3 995 0") ∷ [])
unfolding digits
calls_of_operations = refl

calls_of_kernel_objects : AreTexts (line_of_call (Worker 64))
    ((call.CreateEvent true false, codes "w64 create-event manual clear")
    ∷ (call.CreateEvent false true, codes "w64 create-event auto set")
    ∷ (call.CreateSemaphore 1 2147483647, codes "w64 create-semaphore 1 2147483647")
    ∷ (call.CreateLock lock.Mutex true, codes "w64 create-lock mutex owned")
    ∷ (call.CreateLock lock.Section false, codes "w64 create-lock section free")
    ∷ (call.SetEvent (record { 0 = 2 }), codes "w64 set-event 2")
    ∷ (call.ResetEvent (record { 0 = 2 }), codes "w64 reset-event 2")
    ∷ (call.ReleaseSemaphore (record { 0 = 7 }) 12, codes "w64 release-semaphore 7 12")
    ∷ (call.ReleaseLock lock.Section (record { 0 = 9 }), codes "w64 release-lock section 9")
    ∷ (call.BeginAcquire (record { 0 = 9 }), codes "w64 acquire 9")
    ∷ (call.TryAcquire (record { 0 = 9 }), codes "w64 try-acquire 9") ∷ [])
unfolding digits
calls_of_kernel_objects = refl

calls_of_workers : AreTexts (line_of_call (Worker 1))
    ((call.Attach, codes "w1 attach")
    ∷ (call.Detach, codes "w1 detach")
    ∷ (call.Take, codes "w1 take")
    ∷ (call.Return, codes "w1 return")
    ∷ (call.MayRunLong, codes "w1 may-run-long")
    ∷ (call.Disassociate, codes "w1 disassociate")
    ∷ (call.OnReturn action.Section (record { 0 = 6 }) 1, codes "w1 on-return section 6 1")
    ∷ (call.OnReturn action.Semaphore (record { 0 = 7 }) 12, codes "w1 on-return semaphore 7 12")
    ∷ (call.Finish, codes "w1 finish") ∷ [])
unfolding digits
calls_of_workers = refl

answers : AreTexts text_of_answer
    ((answer.Done, codes "ok")
    ∷ (answer.Made 5, codes "made 5")
    ∷ (answer.Queued 4 2, codes "queued 4 2")
    ∷ (answer.WasSet true 4 2, codes "was yes 4 2")
    ∷ (answer.WasSet false 0 0, codes "was no 0 0")
    ∷ (answer.Flag false, codes "flag no")
    ∷ (answer.Closed true, codes "later")
    ∷ (answer.Closed false, codes "freed")
    ∷ (answer.Closing 1 2 3, codes "closing 1 2 3")
    ∷ (answer.Begun 5 4, codes "begun 5 4")
    ∷ (answer.Ended, codes "ended")
    ∷ (answer.Exhausted, codes "exhausted")
    ∷ (answer.Stalled, codes "stalled")
    ∷ (answer.Notice (record { 0 = 1 }) (record { 0 = 2 }) 3 4, codes "notice o1 r2 x3 y4")
    ∷ (answer.Started 4, codes "started 4")
    ∷ (answer.Operation 4, codes "operation 4")
    ∷ (answer.Cancelled 4, codes "cancelled 4")
    ∷ (answer.Count 3 4 2, codes "count 3 4 2")
    ∷ (answer.Advanced 9 8 7, codes "advanced 9 8 7")
    ∷ (answer.Attached (record { 0 = 3 }), codes "attached 3")
    ∷ (answer.Taken 5 (record { 0 = 0 }) (record { 0 = 2 }) 7 taken.Plain, codes "taken 5 o0 r2 x7 plain")
    ∷ (answer.Taken 5 (record { 0 = 1 }) (record { 0 = 2 }) 7 taken.WaitObject0, codes "taken 5 o1 r2 x7 object")
    ∷ (answer.Taken 5 (record { 0 = 1 }) (record { 0 = 2 }) 7 taken.WaitTimeout, codes "taken 5 o1 r2 x7 timeout")
    ∷ (answer.Taken 5 (record { 0 = 1 }) (record { 0 = 2 }) 7 (taken.Io 38 512), codes "taken 5 o1 r2 x7 io 38 512")
    ∷ (answer.Returned Unasked Performed NotOwner OverMaximum 3 1, codes "returned - done not-owner over-maximum 3 1") ∷ [])
unfolding digits
answers = refl

refusals : AreTexts (λ why. text_of_answer (answer.Refused why))
    ((refusal.NoSuch, codes "refused no-such")
    ∷ (refusal.WrongKind, codes "refused wrong-kind")
    ∷ (refusal.Released, codes "refused released")
    ∷ (refusal.PoolClosed, codes "refused pool-closed")
    ∷ (refusal.GroupClosed, codes "refused group-closed")
    ∷ (refusal.DefaultPool, codes "refused default-pool")
    ∷ (refusal.NotWorker, codes "refused not-worker")
    ∷ (refusal.NotRunning, codes "refused not-running")
    ∷ (refusal.StillRunning, codes "refused still-running")
    ∷ (refusal.InWait, codes "refused in-wait")
    ∷ (refusal.NoWaitBegun, codes "refused no-wait-begun")
    ∷ (refusal.OwnCallback, codes "refused own-callback")
    ∷ (refusal.HasMembers (record { 0 = 12 }), codes "refused has-members 12")
    ∷ (refusal.NotStarted, codes "refused not-started")
    ∷ (refusal.NoOperation, codes "refused no-operation")
    ∷ (refusal.OperationsOutstanding (record { 0 = 3 }), codes "refused operations-outstanding 3")
    ∷ (refusal.SlotTaken action.Event, codes "refused slot-taken event")
    ∷ (refusal.SlotTaken action.Mutex, codes "refused slot-taken mutex")
    ∷ (refusal.NotOwner, codes "refused not-owner")
    ∷ (refusal.OverMaximum 7, codes "refused over-maximum 7")
    ∷ (refusal.NotWaitable, codes "refused not-waitable")
    ∷ (refusal.ClockEnd, codes "refused clock-end")
    ∷ (refusal.ObjectLimit, codes "refused object-limit")
    ∷ (refusal.CallbackLimit, codes "refused callback-limit")
    ∷ (refusal.NotAttached, codes "refused not-attached")
    ∷ (refusal.AlreadyAttached, codes "refused already-attached") ∷ [])
unfolding digits
refusals = refl

-- what isn't recorded has a text too
outcomes : AreTexts text_of_outcome
    ((outcome.Done answer.Ended, codes "ended")
    ∷ (outcome.Look (look.NotYet 8), codes "look not-yet callback 8")
    ∷ (outcome.Look (look.NotYetKernel (record { 0 = 2 })), codes "look not-yet kernel 2")
    ∷ (outcome.Look look.Empty, codes "look empty")
    ∷ (outcome.Look (look.AtMaximum 4), codes "look at-maximum 4")
    ∷ (outcome.Look look.NoNeed, codes "look no-need")
    ∷ (outcome.Look look.Stay, codes "look stay")
    ∷ (outcome.Full 1 3, codes "full 1 3") ∷ [])
unfolding digits
outcomes = refl

entry : line_of_entry (record { who = Client 2; call = call.SubmitWork (record { 0 = 12 }); answer = answer.Queued 4 1 }) ≡ codes "c2 submit 12 -> queued 4 1"
unfolding digits
entry = refl
