-- I/O objects in small plays, by computation alone; and histories that the laws Io, Once and Covered refuse.
use Rattle.std.proofs.Common.{◌≡◌, ℕ, Bool, not, ◌&&◌, ◌==◌, List, [], ◌∷◌, refl, sym, ap, ap₂, ◌∙◌, true, false, Some, eq-eqb}
use Rattle.tp_base.specs.declared.ids.Who.TheVariants.{Client, Worker}
use Rattle.tp_base.specs.declared.calls.Priority.TheVariants.{Normal}
use Rattle.tp_base.specs.declared.calls.Kind.TheVariants.{Work, Io}
use Rattle.tp_base.specs.declared.calls.Call.TheVariants as call
use Rattle.tp_base.specs.declared.calls.Environ.{Environ}
use Rattle.tp_base.specs.declared.answers.Entry.{Entry}
use Rattle.tp_base.specs.declared.answers.Outcome.TheVariants as outcome
use Rattle.tp_base.specs.declared.answers.Look.TheVariants as look
use Rattle.tp_base.specs.declared.answers.Answer.TheVariants as answer
use Rattle.tp_base.specs.declared.answers.TakeResult.TheVariants as result
use Rattle.tp_base.specs.declared.answers.SlotWord.TheVariants.{Unasked}
use Rattle.tp_base.specs.declared.answers.Refusal.TheVariants as refusal
use Rattle.tp_base.specs.declared.limits.Limits.{Limits}
use Rattle.tp_model.specs.Calls.Objects.{create_plan, close_object_plan}
use Rattle.tp_model.specs.Calls.Work.{submit_work_plan}
use Rattle.tp_model.specs.Calls.Io.{start_io_plan, issue_io_plan, cancel_io_plan, complete_io_plan, complete_next_plan}
use Rattle.tp_model.specs.Calls.Workers.{attach_plan, take_plan, return_plan}
use Rattle.tp_model.specs.Calls.Waits.{begin_wait_plan}
use Rattle.tp_model.specs.Calls.End.{end_plan}
use Rattle.tp_model.specs.History.{play}
use Rattle.tp_model.specs.Laws.Entries.{Happening, is_completion, Starts, Issues, GivesUp, Completes, Runs, numbers_made, ready}
use Rattle.tp_model.proofs.Refusals.{false_true}
use Rattle.tp_model.specs.Laws.Once.{AreOnce}
use Rattle.tp_model.specs.Laws.Covered.{AreCovered}
use Rattle.tp_base.specs.declared.rows.WaitTarget.TheVariants.{Object}
use Rattle.tp_model.specs.Laws.Io.{AreOperated, IsWay, Untaken, Plain, Started, GivenUp, Issued, Completed, Taken}

limits : Limits
limits = record { clients = 2; workers = 4; pools = 64; groups = 255; objects = 4095; kernels = 1024; slots = 8192 }

plain : Environ
plain = record { pool = record { 0 = 0 }; group = record { 0 = 0 }; cancel = record { 0 = 0 }; priority = Normal; long = false; persistent = false }

one : Limits
unfolding limits
one = record limits { slots = 1 }

-- an operation that is not issued, and one that completes: until then the object is not closed, and no wait with cancel is for it
an_operation : play limits 65536
    (((Client 1), (call.Create Io (record { 0 = 1 }) 0 plain))
    ∷ ((Client 1), (call.StartIo (record { 0 = 1 })))
    ∷ ((Client 1), (call.CancelIo (record { 0 = 1 })))
    ∷ ((Client 1), (call.IssueIo (record { 0 = 1 })))
    ∷ ((Client 1), (call.StartIo (record { 0 = 1 })))
    ∷ ((Client 1), (call.IssueIo (record { 0 = 1 })))
    ∷ ((Client 1), (call.CloseObject Io (record { 0 = 1 })))
    ∷ ((Client 1), (call.BeginWait Io (record { 0 = 1 }) true))
    ∷ ((Client 1), call.End)
    ∷ ((Client 1), (call.CompleteIo 2 0 512))
    ∷ ((Client 1), (call.CompleteIo 2 0 512))
    ∷ ((Client 1), (call.CloseObject Io (record { 0 = 1 })))
    ∷ ((Worker 1), call.Attach)
    ∷ ((Worker 1), call.Take) ∷ [])
    ≡ outcome.Done (answer.Made 1)
    ∷ outcome.Done (answer.Started 1)
    ∷ outcome.Done (answer.Cancelled 1)
    ∷ outcome.Done (answer.Refused refusal.NotStarted)
    ∷ outcome.Done (answer.Started 2)
    ∷ outcome.Done (answer.Operation 2)
    ∷ outcome.Done (answer.Refused (refusal.OperationsOutstanding (record { 0 = 1 })))
    ∷ outcome.Done (answer.Begun 0 0)
    ∷ outcome.Done answer.Ended
    ∷ outcome.Done (answer.Queued 2 1)
    ∷ outcome.Done (answer.Refused refusal.NoOperation)
    ∷ outcome.Done (answer.Closed true)
    ∷ outcome.Done (answer.Attached (record { 0 = 0 }))
    ∷ outcome.Done (answer.Taken 2 (record { 0 = 1 }) (record { 0 = 1 }) 0 (result.Io 0 512)) ∷ []
unfolding limits plain create_plan start_io_plan cancel_io_plan issue_io_plan close_object_plan begin_wait_plan end_plan complete_io_plan attach_plan take_plan
an_operation = refl

-- operations complete in any order, and their callbacks are taken by number as they are pending; a completion has no object, so that any actor may tell of it
out_of_order : play limits 65536
    (((Client 1), (call.Create Io (record { 0 = 1 }) 0 plain))
    ∷ ((Client 1), (call.StartIo (record { 0 = 1 })))
    ∷ ((Client 1), (call.StartIo (record { 0 = 1 })))
    ∷ ((Client 1), (call.IssueIo (record { 0 = 1 })))
    ∷ ((Client 1), (call.IssueIo (record { 0 = 1 })))
    ∷ ((Client 2), (call.CompleteIo 2 5 0))
    ∷ ((Worker 1), call.Attach)
    ∷ ((Worker 1), call.Take)
    ∷ ((Worker 1), (call.CompleteIo 1 0 7))
    ∷ ((Worker 1), call.Take)
    ∷ ((Worker 1), call.Return)
    ∷ ((Worker 1), call.Take) ∷ [])
    ≡ outcome.Done (answer.Made 1)
    ∷ outcome.Done (answer.Started 1)
    ∷ outcome.Done (answer.Started 2)
    ∷ outcome.Done (answer.Operation 1)
    ∷ outcome.Done (answer.Operation 2)
    ∷ outcome.Done (answer.Queued 2 1)
    ∷ outcome.Done (answer.Attached (record { 0 = 0 }))
    ∷ outcome.Done (answer.Taken 2 (record { 0 = 1 }) (record { 0 = 1 }) 0 (result.Io 5 0))
    ∷ outcome.Done (answer.Queued 1 1)
    ∷ outcome.Done (answer.Refused refusal.StillRunning)
    ∷ outcome.Done (answer.Returned Unasked Unasked Unasked Unasked 0 0)
    ∷ outcome.Done (answer.Taken 1 (record { 0 = 1 }) (record { 0 = 1 }) 0 (result.Io 0 7)) ∷ []
unfolding limits plain create_plan start_io_plan issue_io_plan complete_io_plan attach_plan take_plan return_plan
out_of_order = refl

-- the least of the callbacks that expect an operation gets it, or is cancelled
the_first : play limits 65536
    (((Client 1), (call.Create Io (record { 0 = 1 }) 0 plain))
    ∷ ((Client 1), (call.StartIo (record { 0 = 1 })))
    ∷ ((Client 1), (call.StartIo (record { 0 = 1 })))
    ∷ ((Client 1), (call.StartIo (record { 0 = 1 })))
    ∷ ((Client 1), (call.CancelIo (record { 0 = 1 })))
    ∷ ((Client 1), (call.IssueIo (record { 0 = 1 })))
    ∷ ((Client 1), (call.CancelIo (record { 0 = 1 })))
    ∷ ((Client 1), (call.CancelIo (record { 0 = 1 })))
    ∷ ((Client 1), (call.CompleteIo 3 0 0))
    ∷ ((Client 1), (call.CompleteIo 4 0 0))
    ∷ ((Client 1), (call.CompleteIo 2 0 0)) ∷ [])
    ≡ outcome.Done (answer.Made 1)
    ∷ outcome.Done (answer.Started 1)
    ∷ outcome.Done (answer.Started 2)
    ∷ outcome.Done (answer.Started 3)
    ∷ outcome.Done (answer.Cancelled 1)
    ∷ outcome.Done (answer.Operation 2)
    ∷ outcome.Done (answer.Cancelled 3)
    ∷ outcome.Done (answer.Refused refusal.NotStarted)
    ∷ outcome.Done (answer.Refused refusal.NoOperation)
    ∷ outcome.Done (answer.Refused refusal.NoOperation)
    ∷ outcome.Done (answer.Queued 2 1) ∷ []
unfolding limits plain create_plan start_io_plan cancel_io_plan issue_io_plan complete_io_plan
the_first = refl

-- a wait without cancel is for operations that are not issued yet, and for those under way
waits_for_all : play limits 65536
    (((Client 1), (call.Create Io (record { 0 = 1 }) 0 plain))
    ∷ ((Client 1), (call.StartIo (record { 0 = 1 })))
    ∷ ((Client 1), (call.IssueIo (record { 0 = 1 })))
    ∷ ((Client 1), (call.StartIo (record { 0 = 1 })))
    ∷ ((Client 1), (call.BeginWait Io (record { 0 = 1 }) false))
    ∷ ((Client 1), call.End)
    ∷ ((Client 2), (call.CompleteIo 1 0 8))
    ∷ ((Worker 1), call.Attach)
    ∷ ((Worker 1), call.Take)
    ∷ ((Worker 1), call.Return)
    ∷ ((Client 1), call.End)
    ∷ ((Client 2), (call.CancelIo (record { 0 = 1 })))
    ∷ ((Client 1), call.End) ∷ [])
    ≡ outcome.Done (answer.Made 1)
    ∷ outcome.Done (answer.Started 1)
    ∷ outcome.Done (answer.Operation 1)
    ∷ outcome.Done (answer.Started 2)
    ∷ outcome.Done (answer.Begun 2 0)
    ∷ outcome.Look (look.NotYet 1)
    ∷ outcome.Done (answer.Queued 1 1)
    ∷ outcome.Done (answer.Attached (record { 0 = 0 }))
    ∷ outcome.Done (answer.Taken 1 (record { 0 = 1 }) (record { 0 = 1 }) 0 (result.Io 0 8))
    ∷ outcome.Done (answer.Returned Unasked Unasked Unasked Unasked 0 0)
    ∷ outcome.Look (look.NotYet 2)
    ∷ outcome.Done (answer.Cancelled 2)
    ∷ outcome.Done answer.Ended ∷ []
unfolding limits plain create_plan start_io_plan issue_io_plan begin_wait_plan end_plan complete_io_plan attach_plan take_plan return_plan cancel_io_plan
waits_for_all = refl

-- one with cancel cancels what is pending, and leaves what is not: that still completes and runs
waits_for_ready : play limits 65536
    (((Client 1), (call.Create Io (record { 0 = 1 }) 0 plain))
    ∷ ((Client 1), (call.StartIo (record { 0 = 1 })))
    ∷ ((Client 1), (call.StartIo (record { 0 = 1 })))
    ∷ ((Client 1), (call.StartIo (record { 0 = 1 })))
    ∷ ((Client 1), (call.IssueIo (record { 0 = 1 })))
    ∷ ((Client 1), (call.IssueIo (record { 0 = 1 })))
    ∷ ((Client 1), (call.CompleteIo 1 0 8))
    ∷ ((Client 1), (call.BeginWait Io (record { 0 = 1 }) true))
    ∷ ((Client 1), call.End)
    ∷ ((Client 1), (call.CompleteIo 1 0 8))
    ∷ ((Client 1), (call.CompleteIo 2 0 9))
    ∷ ((Worker 1), call.Attach)
    ∷ ((Worker 1), call.Take)
    ∷ ((Client 1), (call.IssueIo (record { 0 = 1 }))) ∷ [])
    ≡ outcome.Done (answer.Made 1)
    ∷ outcome.Done (answer.Started 1)
    ∷ outcome.Done (answer.Started 2)
    ∷ outcome.Done (answer.Started 3)
    ∷ outcome.Done (answer.Operation 1)
    ∷ outcome.Done (answer.Operation 2)
    ∷ outcome.Done (answer.Queued 1 1)
    ∷ outcome.Done (answer.Begun 0 1)
    ∷ outcome.Done answer.Ended
    ∷ outcome.Done (answer.Refused refusal.NoOperation)
    ∷ outcome.Done (answer.Queued 2 1)
    ∷ outcome.Done (answer.Attached (record { 0 = 0 }))
    ∷ outcome.Done (answer.Taken 2 (record { 0 = 1 }) (record { 0 = 1 }) 0 (result.Io 0 9))
    ∷ outcome.Done (answer.Operation 3) ∷ []
unfolding limits plain create_plan start_io_plan issue_io_plan complete_io_plan begin_wait_plan end_plan attach_plan take_plan
waits_for_ready = refl

-- an object is closed once none of its operations is announced or under way
closing : play limits 65536
    (((Client 1), (call.Create Io (record { 0 = 1 }) 0 plain))
    ∷ ((Client 1), (call.StartIo (record { 0 = 1 })))
    ∷ ((Client 1), (call.CloseObject Io (record { 0 = 1 })))
    ∷ ((Client 1), (call.CloseObject Work (record { 0 = 1 })))
    ∷ ((Client 1), (call.CancelIo (record { 0 = 1 })))
    ∷ ((Client 1), (call.CloseObject Io (record { 0 = 1 })))
    ∷ ((Client 1), (call.StartIo (record { 0 = 1 })))
    ∷ ((Client 1), (call.Create Work (record { 0 = 1 }) 0 plain))
    ∷ ((Client 1), (call.StartIo (record { 0 = 2 })))
    ∷ ((Client 1), (call.StartIo (record { 0 = 3 })))
    ∷ ((Client 1), (call.SubmitWork (record { 0 = 1 }))) ∷ [])
    ≡ outcome.Done (answer.Made 1)
    ∷ outcome.Done (answer.Started 1)
    ∷ outcome.Done (answer.Refused (refusal.OperationsOutstanding (record { 0 = 1 })))
    ∷ outcome.Done (answer.Refused refusal.WrongKind)
    ∷ outcome.Done (answer.Cancelled 1)
    ∷ outcome.Done (answer.Closed false)
    ∷ outcome.Done (answer.Refused refusal.Released)
    ∷ outcome.Done (answer.Made 2)
    ∷ outcome.Done (answer.Refused refusal.WrongKind)
    ∷ outcome.Done (answer.Refused refusal.NoSuch)
    ∷ outcome.Done (answer.Refused refusal.WrongKind) ∷ []
unfolding limits plain create_plan start_io_plan close_object_plan cancel_io_plan submit_work_plan
closing = refl

-- an operation holds a slot until its callback is over
in_one_slot : play one 65536
    (((Client 1), (call.Create Io (record { 0 = 1 }) 0 plain))
    ∷ ((Client 1), (call.StartIo (record { 0 = 1 })))
    ∷ ((Client 1), (call.StartIo (record { 0 = 1 })))
    ∷ ((Client 1), (call.IssueIo (record { 0 = 1 })))
    ∷ ((Client 1), (call.StartIo (record { 0 = 1 })))
    ∷ ((Client 1), (call.CompleteIo 1 0 0))
    ∷ ((Client 1), (call.StartIo (record { 0 = 1 })))
    ∷ ((Worker 1), call.Attach)
    ∷ ((Worker 1), call.Take)
    ∷ ((Worker 1), call.Return)
    ∷ ((Client 1), (call.StartIo (record { 0 = 1 })))
    ∷ ((Client 1), (call.CancelIo (record { 0 = 1 })))
    ∷ ((Client 1), (call.StartIo (record { 0 = 1 }))) ∷ [])
    ≡ outcome.Done (answer.Made 1)
    ∷ outcome.Done (answer.Started 1)
    ∷ outcome.Done (answer.Refused refusal.CallbackLimit)
    ∷ outcome.Done (answer.Operation 1)
    ∷ outcome.Done (answer.Refused refusal.CallbackLimit)
    ∷ outcome.Done (answer.Queued 1 1)
    ∷ outcome.Done (answer.Refused refusal.CallbackLimit)
    ∷ outcome.Done (answer.Attached (record { 0 = 0 }))
    ∷ outcome.Done (answer.Taken 1 (record { 0 = 1 }) (record { 0 = 1 }) 0 (result.Io 0 0))
    ∷ outcome.Done (answer.Returned Unasked Unasked Unasked Unasked 0 0)
    ∷ outcome.Done (answer.Started 2)
    ∷ outcome.Done (answer.Cancelled 2)
    ∷ outcome.Done (answer.Started 3) ∷ []
unfolding one limits plain create_plan start_io_plan issue_io_plan complete_io_plan attach_plan take_plan return_plan cancel_io_plan
in_one_slot = refl

-- ---- the law Io refuses

started : ℕ → Entry
started n = record { who = Client 1; call = call.StartIo (record { 0 = 1 }); answer = answer.Started n }

issued : ℕ → Entry
issued n = record { who = Client 1; call = call.IssueIo (record { 0 = 1 }); answer = answer.Operation n }

cancelled : ℕ → Entry
cancelled n = record { who = Client 1; call = call.CancelIo (record { 0 = 1 }); answer = answer.Cancelled n }

completed : ℕ → ℕ → Entry
completed n bytes = record { who = Client 1; call = call.CompleteIo n 0 bytes; answer = answer.Queued n 1 }

takes : ℕ → ℕ → Entry
takes n bytes = record { who = Worker 1; call = call.Take; answer = answer.Taken n (record { 0 = 1 }) (record { 0 = 1 }) 0 (result.Io 0 bytes) }

-- a completion makes nothing, and makes a callback ready
completes_what_was_made : numbers_made (started 1 ∷ issued 1 ∷ completed 1 8 ∷ []) ≡ 1 ∷ []
unfolding started issued completed
completes_what_was_made = refl

makes_ready : ready (started 1 ∷ issued 1 ∷ completed 1 8 ∷ []) 1 ≡ Some 2
unfolding started issued completed
makes_ready = refl

-- what happens to a callback is one of its ways
abbrev is_way : List Happening → Bool
is_way [] = true
is_way (Runs r ∷ []) = not (is_completion r)
is_way (Starts ∷ []) = true
is_way (Starts ∷ GivesUp ∷ []) = true
is_way (Starts ∷ Issues ∷ []) = true
is_way (Starts ∷ Issues ∷ Completes error bytes ∷ []) = true
is_way (Starts ∷ Issues ∷ Completes error bytes ∷ Runs (result.Io e b) ∷ []) = (error == e) && (bytes == b)
is_way _ = false

ways_are : (h : List Happening) → IsWay h → is_way h ≡ true
ways_are h (Untaken e) = ap is_way e
ways_are h (Plain r p e) = ap is_way e ∙ ap not p
ways_are h (Started e) = ap is_way e
ways_are h (GivenUp e) = ap is_way e
ways_are h (Issued e) = ap is_way e
ways_are h (Completed error bytes e) = ap is_way e
ways_are h (Taken error bytes e) = ap is_way e ∙ ap₂ (λ x y. x && y) (eq-eqb error error refl) (eq-eqb bytes bytes refl)

no_way : {h : List Happening} → is_way h ≡ false → IsWay h → ⊥
no_way {h} out way = false_true (sym out ∙ ways_are h way)

-- a callback without an operation that is taken with the result of one
completed_simply : AreOperated (takes 1 8 ∷ []) → ⊥
unfolding takes
completed_simply law = no_way refl (law.ways 1)

-- an operation that completes twice
completed_twice : AreOperated (started 1 ∷ issued 1 ∷ completed 1 8 ∷ completed 1 8 ∷ []) → ⊥
unfolding started issued completed
completed_twice law = no_way refl (law.ways 1)

-- a callback that is taken while its operation is under way
taken_under_way : AreOperated (started 1 ∷ issued 1 ∷ takes 1 8 ∷ []) → ⊥
unfolding started issued takes
taken_under_way law = no_way refl (law.ways 1)

-- an operation that completes without being issued
completed_unissued : AreOperated (started 1 ∷ completed 1 8 ∷ []) → ⊥
unfolding started completed
completed_unissued law = no_way refl (law.ways 1)

-- one that is given up while it is under way
cancelled_late : AreOperated (started 1 ∷ issued 1 ∷ cancelled 1 ∷ []) → ⊥
unfolding started issued cancelled
cancelled_late law = no_way refl (law.ways 1)

-- one that is issued after it was given up
issued_after_all : AreOperated (started 1 ∷ cancelled 1 ∷ issued 1 ∷ []) → ⊥
unfolding started cancelled issued
issued_after_all law = no_way refl (law.ways 1)

-- one that was never announced
unstarted : AreOperated (issued 1 ∷ []) → ⊥
unfolding issued
unstarted law = no_way refl (law.ways 1)

-- a callback that is taken with other bytes than those of its completion
other_bytes : AreOperated (started 1 ∷ issued 1 ∷ completed 1 8 ∷ takes 1 9 ∷ []) → ⊥
unfolding started issued completed takes
other_bytes law = no_way refl (law.ways 1)

-- ---- a completion is of the operation that the call names, and not of another one that the answer tells: the laws Once and Covered refuse

made : Entry
made = record { who = Client 1; call = call.Create Io (record { 0 = 1 }) 0 plain; answer = answer.Made 1 }

-- a completion of one operation that tells of another
crossed : ℕ → ℕ → Entry
crossed n told = record { who = Client 1; call = call.CompleteIo n 0 8; answer = answer.Queued told 1 }

attached : Entry
attached = record { who = Worker 1; call = call.Attach; answer = answer.Attached (record { 0 = 0 }) }

-- a callback that is taken after a completion of another operation told its number, and before it is made
taken_unmade : AreOnce limits (made ∷ started 1 ∷ issued 1 ∷ crossed 1 2 ∷ attached ∷ takes 2 8 ∷ started 2 ∷ []) → false ≡ true
unfolding plain made started issued crossed attached takes
taken_unmade law = law.only_ready (made ∷ started 1 ∷ issued 1 ∷ crossed 1 2 ∷ attached ∷ []) (started 2 ∷ []) (takes 2 8) refl 2 refl

-- one that is taken after it is made, while its own operation goes on
taken_uncompleted : AreOnce limits (made ∷ started 1 ∷ started 2 ∷ issued 1 ∷ issued 2 ∷ crossed 1 2 ∷ attached ∷ takes 2 8 ∷ []) → false ≡ true
unfolding plain made started issued crossed attached takes
taken_uncompleted law = law.only_ready (made ∷ started 1 ∷ started 2 ∷ issued 1 ∷ issued 2 ∷ crossed 1 2 ∷ attached ∷ []) [] (takes 2 8) refl 2 refl

waits : Entry
waits = record { who = Client 1; call = call.BeginWait Io (record { 0 = 1 }) true; answer = answer.Begun 0 1 }

ended : Entry
ended = record { who = Client 1; call = call.End; answer = answer.Ended }

-- and one whose operation had completed before a wait with cancel, and which is taken after that, where each of two completions tells of the other one
taken_after_wait : AreCovered (made ∷ started 1 ∷ started 2 ∷ issued 1 ∷ issued 2 ∷ crossed 1 2 ∷ waits ∷ ended ∷ crossed 2 1 ∷ attached ∷ takes 1 8 ∷ []) → true ≡ false
unfolding plain made started issued crossed waits ended attached takes
taken_after_wait law =
    (law.at_each (made ∷ started 1 ∷ started 2 ∷ issued 1 ∷ issued 2 ∷ crossed 1 2 ∷ []) [] (crossed 2 1 ∷ attached ∷ takes 1 8 ∷ []) waits ended (record { target = Object (record { 0 = 1 }); cancel = true; cleanup = 0 }) refl refl refl refl refl refl).none_later
    (crossed 2 1 ∷ attached ∷ []) [] (takes 1 8) (record { number = 1; object = record { 0 = 1 } }) refl refl

-- ---- what a device completes next: the first operation that is issued, whoever says so

a_device : play limits 65536
    (((Client 1), (call.Create Io (record { 0 = 1 }) 0 plain))
    ∷ ((Client 1), (call.CompleteNext (record { 0 = 1 }) 0 512))
    ∷ ((Client 1), (call.StartIo (record { 0 = 1 })))
    ∷ ((Client 1), (call.CompleteNext (record { 0 = 1 }) 0 512))
    ∷ ((Client 1), (call.IssueIo (record { 0 = 1 })))
    ∷ ((Client 1), (call.StartIo (record { 0 = 1 })))
    ∷ ((Client 1), (call.IssueIo (record { 0 = 1 })))
    ∷ ((Client 2), (call.CompleteNext (record { 0 = 1 }) 995 0))
    ∷ ((Client 2), (call.CompleteNext (record { 0 = 1 }) 0 7))
    ∷ ((Client 2), (call.CompleteNext (record { 0 = 1 }) 0 7))
    ∷ ((Client 1), (call.CloseObject Io (record { 0 = 1 })))
    ∷ ((Client 2), (call.CompleteNext (record { 0 = 1 }) 0 7))
    ∷ ((Client 2), (call.CompleteNext (record { 0 = 2 }) 0 7))
    ∷ ((Client 1), (call.Create Work (record { 0 = 1 }) 0 plain))
    ∷ ((Client 2), (call.CompleteNext (record { 0 = 2 }) 0 7))
    ∷ ((Worker 1), call.Attach)
    ∷ ((Worker 1), call.Take) ∷ [])
    ≡ outcome.Done (answer.Made 1)
    ∷ outcome.Done (answer.Refused refusal.NoOperation)
    ∷ outcome.Done (answer.Started 1)
    ∷ outcome.Done (answer.Refused refusal.NoOperation)
    ∷ outcome.Done (answer.Operation 1)
    ∷ outcome.Done (answer.Started 2)
    ∷ outcome.Done (answer.Operation 2)
    ∷ outcome.Done (answer.Queued 1 1)
    ∷ outcome.Done (answer.Queued 2 1)
    ∷ outcome.Done (answer.Refused refusal.NoOperation)
    ∷ outcome.Done (answer.Closed true)
    ∷ outcome.Done (answer.Refused refusal.NoOperation)
    ∷ outcome.Done (answer.Refused refusal.NoSuch)
    ∷ outcome.Done (answer.Made 2)
    ∷ outcome.Done (answer.Refused refusal.WrongKind)
    ∷ outcome.Done (answer.Attached (record { 0 = 0 }))
    ∷ outcome.Done (answer.Taken 1 (record { 0 = 1 }) (record { 0 = 1 }) 0 (result.Io 995 0)) ∷ []
unfolding limits plain create_plan start_io_plan issue_io_plan complete_next_plan close_object_plan attach_plan take_plan
a_device = refl

-- which operation such a completion is of, its answer tells
completed_next : ℕ → ℕ → Entry
completed_next n bytes = record { who = Client 2; call = call.CompleteNext (record { 0 = 1 }) 0 bytes; answer = answer.Queued n 1 }

-- a callback that is taken with other bytes than those of its completion
next_with_other_bytes : AreOperated (started 1 ∷ issued 1 ∷ completed_next 1 8 ∷ takes 1 9 ∷ []) → ⊥
unfolding started issued completed_next takes
next_with_other_bytes law = no_way refl (law.ways 1)

-- an operation that completes before it is issued, and one that completes twice
next_unissued : AreOperated (started 1 ∷ completed_next 1 8 ∷ []) → ⊥
unfolding started completed_next
next_unissued law = no_way refl (law.ways 1)

next_twice : AreOperated (started 1 ∷ issued 1 ∷ completed 1 8 ∷ completed_next 1 8 ∷ []) → ⊥
unfolding started issued completed completed_next
next_twice law = no_way refl (law.ways 1)
