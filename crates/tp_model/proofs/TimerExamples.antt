-- Timers and the clock in small plays, by computation alone.
use Rattle.std.proofs.Common.{◌≡◌, [], ◌∷◌, refl, true, false, None, Some}
use Rattle.std.specs.Prelude.{pos, negsuc}
use Rattle.tp_base.specs.declared.ids.Who.TheVariants.{Client, Worker}
use Rattle.tp_base.specs.declared.calls.Priority.TheVariants.{Normal}
use Rattle.tp_base.specs.declared.calls.Kind.TheVariants.{Work, Timer}
use Rattle.tp_base.specs.declared.calls.Call.TheVariants as call
use Rattle.tp_base.specs.declared.calls.Environ.{Environ}
use Rattle.tp_base.specs.declared.answers.Outcome.TheVariants as outcome
use Rattle.tp_base.specs.declared.answers.Answer.TheVariants as answer
use Rattle.tp_base.specs.declared.answers.TakeResult.TheVariants.{Plain}
use Rattle.tp_base.specs.declared.answers.SlotWord.TheVariants.{Unasked}
use Rattle.tp_base.specs.declared.answers.Refusal.TheVariants as refusal
use Rattle.tp_base.specs.declared.limits.Limits.{Limits}
use Rattle.tp_model.specs.Calls.Objects.{create_plan, close_object_plan}
use Rattle.tp_model.specs.Calls.Timers.{set_timer_plan, set_timer_ex_plan, is_timer_set_plan, advance_plan}
use Rattle.tp_model.specs.Calls.Workers.{attach_plan, take_plan, return_plan}
use Rattle.tp_model.specs.Calls.Waits.{begin_wait_plan}
use Rattle.tp_model.specs.Calls.End.{end_plan}
use Rattle.tp_model.specs.History.{play}

limits : Limits
limits = record { clients = 2; workers = 4; pools = 64; groups = 255; objects = 4095; kernels = 1024; slots = 8192 }

plain : Environ
plain = record { pool = record { 0 = 0 }; group = record { 0 = 0 }; cancel = record { 0 = 0 }; priority = Normal; long = false; persistent = false }

-- a due time of 0 makes a callback now, and a timer without a period is then not set
set_at_once : play limits 65536
    (((Client 1), (call.Create Timer (record { 0 = 1 }) 7 plain))
    ∷ ((Client 1), (call.SetTimer (record { 0 = 1 }) (Some (pos 0)) 0 0))
    ∷ ((Client 1), (call.IsTimerSet (record { 0 = 1 })))
    ∷ ((Worker 1), call.Attach)
    ∷ ((Worker 1), call.Take) ∷ [])
    ≡ outcome.Done (answer.Made 1)
    ∷ outcome.Done (answer.Queued 1 1)
    ∷ outcome.Done (answer.Flag false)
    ∷ outcome.Done (answer.Attached (record { 0 = 0 }))
    ∷ outcome.Done (answer.Taken 1 (record { 0 = 1 }) (record { 0 = 1 }) 7 Plain) ∷ []
unfolding limits plain create_plan set_timer_plan is_timer_set_plan attach_plan take_plan
set_at_once = refl

-- so does a moment that has passed, and with a period the next expiration counts from it
set_before_now : play limits 65536
    (((Client 1), (call.Create Timer (record { 0 = 1 }) 0 plain))
    ∷ ((Client 1), (call.Advance 25000))
    ∷ ((Client 1), (call.SetTimer (record { 0 = 1 }) (Some (pos 10000)) 2 0))
    ∷ ((Client 1), (call.Advance 4999))
    ∷ ((Client 1), (call.Advance 1)) ∷ [])
    ≡ outcome.Done (answer.Made 1)
    ∷ outcome.Done (answer.Advanced 25000 0 0)
    ∷ outcome.Done (answer.Queued 1 1)
    ∷ outcome.Done (answer.Advanced 29999 0 0)
    ∷ outcome.Done (answer.Advanced 30000 2 1) ∷ []
unfolding limits plain create_plan advance_plan set_timer_plan
set_before_now = refl

-- a due time below 0 counts from now, and one above 0 is a moment of the clock
relative_and_absolute : play limits 65536
    (((Client 1), (call.Create Timer (record { 0 = 1 }) 0 plain))
    ∷ ((Client 1), (call.Create Timer (record { 0 = 2 }) 0 plain))
    ∷ ((Client 1), (call.Advance 300))
    ∷ ((Client 1), (call.SetTimer (record { 0 = 1 }) (Some (negsuc 399)) 0 0))
    ∷ ((Client 1), (call.SetTimer (record { 0 = 2 }) (Some (pos 500)) 0 0))
    ∷ ((Client 1), (call.Advance 199))
    ∷ ((Client 1), (call.Advance 1))
    ∷ ((Client 1), (call.Advance 199))
    ∷ ((Client 1), (call.Advance 1)) ∷ [])
    ≡ outcome.Done (answer.Made 1)
    ∷ outcome.Done (answer.Made 2)
    ∷ outcome.Done (answer.Advanced 300 0 0)
    ∷ outcome.Done (answer.Queued 0 0)
    ∷ outcome.Done (answer.Queued 0 0)
    ∷ outcome.Done (answer.Advanced 499 0 0)
    ∷ outcome.Done (answer.Advanced 500 1 1)
    ∷ outcome.Done (answer.Advanced 699 0 0)
    ∷ outcome.Done (answer.Advanced 700 2 1) ∷ []
unfolding limits plain create_plan advance_plan set_timer_plan
relative_and_absolute = refl

-- a periodic timer keeps to its times: it expires late by 20,000, and next as if it had expired in time; it expires once in each step of the clock
periodic : play limits 65536
    (((Client 1), (call.Create Timer (record { 0 = 1 }) 0 plain))
    ∷ ((Client 1), (call.SetTimer (record { 0 = 1 }) (Some (negsuc 9999)) 3 0))
    ∷ ((Client 1), (call.Advance 30000))
    ∷ ((Client 1), (call.Advance 9999))
    ∷ ((Client 1), (call.Advance 1))
    ∷ ((Client 1), (call.Advance 300000))
    ∷ ((Client 1), (call.IsTimerSet (record { 0 = 1 }))) ∷ [])
    ≡ outcome.Done (answer.Made 1)
    ∷ outcome.Done (answer.Queued 0 0)
    ∷ outcome.Done (answer.Advanced 30000 1 1)
    ∷ outcome.Done (answer.Advanced 39999 0 0)
    ∷ outcome.Done (answer.Advanced 40000 2 1)
    ∷ outcome.Done (answer.Advanced 340000 3 1)
    ∷ outcome.Done (answer.Flag true) ∷ []
unfolding limits plain create_plan set_timer_plan advance_plan is_timer_set_plan
periodic = refl

-- what is due expires by due time, and then by object number
in_order : play limits 65536
    (((Client 1), (call.Create Timer (record { 0 = 1 }) 0 plain))
    ∷ ((Client 1), (call.Create Timer (record { 0 = 2 }) 0 plain))
    ∷ ((Client 1), (call.Create Timer (record { 0 = 3 }) 0 plain))
    ∷ ((Client 1), (call.SetTimer (record { 0 = 3 }) (Some (negsuc 9)) 0 0))
    ∷ ((Client 1), (call.SetTimer (record { 0 = 2 }) (Some (negsuc 19)) 0 0))
    ∷ ((Client 1), (call.SetTimer (record { 0 = 1 }) (Some (negsuc 19)) 0 0))
    ∷ ((Client 1), (call.Advance 20))
    ∷ ((Worker 1), call.Attach)
    ∷ ((Worker 1), call.Take)
    ∷ ((Worker 1), call.Return)
    ∷ ((Worker 1), call.Take)
    ∷ ((Worker 1), call.Return)
    ∷ ((Worker 1), call.Take) ∷ [])
    ≡ outcome.Done (answer.Made 1)
    ∷ outcome.Done (answer.Made 2)
    ∷ outcome.Done (answer.Made 3)
    ∷ outcome.Done (answer.Queued 0 0)
    ∷ outcome.Done (answer.Queued 0 0)
    ∷ outcome.Done (answer.Queued 0 0)
    ∷ outcome.Done (answer.Advanced 20 1 3)
    ∷ outcome.Done (answer.Attached (record { 0 = 0 }))
    ∷ outcome.Done (answer.Taken 1 (record { 0 = 3 }) (record { 0 = 3 }) 0 Plain)
    ∷ outcome.Done (answer.Returned Unasked Unasked Unasked Unasked 0 0)
    ∷ outcome.Done (answer.Taken 2 (record { 0 = 1 }) (record { 0 = 1 }) 0 Plain)
    ∷ outcome.Done (answer.Returned Unasked Unasked Unasked Unasked 0 0)
    ∷ outcome.Done (answer.Taken 3 (record { 0 = 2 }) (record { 0 = 2 }) 0 Plain) ∷ []
unfolding limits plain create_plan set_timer_plan advance_plan attach_plan take_plan return_plan
in_order = refl

-- a new setting ends the one before it; what was queued stays, and a wait with cancel cancels it
set_anew : play limits 65536
    (((Client 1), (call.Create Timer (record { 0 = 1 }) 0 plain))
    ∷ ((Client 1), (call.SetTimer (record { 0 = 1 }) (Some (negsuc 9)) 0 0))
    ∷ ((Client 1), (call.SetTimerEx (record { 0 = 1 }) (Some (negsuc 29)) 0 0))
    ∷ ((Client 1), (call.Advance 10))
    ∷ ((Client 1), (call.SetTimerEx (record { 0 = 1 }) (Some (pos 0)) 0 0))
    ∷ ((Client 1), (call.SetTimerEx (record { 0 = 1 }) None 0 0))
    ∷ ((Client 1), (call.BeginWait Timer (record { 0 = 1 }) true))
    ∷ ((Client 1), call.End)
    ∷ ((Client 1), (call.CloseObject Timer (record { 0 = 1 })))
    ∷ ((Client 1), (call.Advance 100)) ∷ [])
    ≡ outcome.Done (answer.Made 1)
    ∷ outcome.Done (answer.Queued 0 0)
    ∷ outcome.Done (answer.WasSet true 0 0)
    ∷ outcome.Done (answer.Advanced 10 0 0)
    ∷ outcome.Done (answer.WasSet true 1 1)
    ∷ outcome.Done (answer.WasSet false 0 0)
    ∷ outcome.Done (answer.Begun 0 1)
    ∷ outcome.Done answer.Ended
    ∷ outcome.Done (answer.Closed false)
    ∷ outcome.Done (answer.Advanced 110 0 0) ∷ []
unfolding limits plain create_plan set_timer_plan set_timer_ex_plan advance_plan begin_wait_plan end_plan close_object_plan
set_anew = refl

-- closing a timer unsets it
closed_timer : play limits 65536
    (((Client 1), (call.Create Timer (record { 0 = 1 }) 0 plain))
    ∷ ((Client 1), (call.SetTimer (record { 0 = 1 }) (Some (negsuc 9)) 1 0))
    ∷ ((Client 1), (call.CloseObject Timer (record { 0 = 1 })))
    ∷ ((Client 1), (call.Advance 10))
    ∷ ((Client 1), (call.IsTimerSet (record { 0 = 1 })))
    ∷ ((Client 1), (call.SetTimer (record { 0 = 1 }) (Some (pos 0)) 0 0)) ∷ [])
    ≡ outcome.Done (answer.Made 1)
    ∷ outcome.Done (answer.Queued 0 0)
    ∷ outcome.Done (answer.Closed false)
    ∷ outcome.Done (answer.Advanced 10 0 0)
    ∷ outcome.Done (answer.Refused refusal.Released)
    ∷ outcome.Done (answer.Refused refusal.Released) ∷ []
unfolding limits plain create_plan set_timer_plan close_object_plan advance_plan is_timer_set_plan
closed_timer = refl

-- the clock has an end
end_of_clock : play limits 65536
    (((Client 1), (call.Create Timer (record { 0 = 1 }) 0 plain))
    ∷ ((Client 1), (call.Advance 9223372036854775807))
    ∷ ((Client 1), (call.Advance 1))
    ∷ ((Client 1), (call.SetTimer (record { 0 = 1 }) (Some (negsuc 9223372036854775807)) 0 0))
    ∷ ((Client 1), (call.SetTimerEx (record { 0 = 1 }) (Some (pos 9223372036854775807)) 4294967295 0))
    ∷ ((Client 1), (call.IsTimerSet (record { 0 = 1 })))
    ∷ ((Client 1), (call.Advance 0)) ∷ [])
    ≡ outcome.Done (answer.Made 1)
    ∷ outcome.Done (answer.Advanced 9223372036854775807 0 0)
    ∷ outcome.Done (answer.Refused refusal.ClockEnd)
    ∷ outcome.Done (answer.Queued 0 0)
    ∷ outcome.Done (answer.WasSet true 1 1)
    ∷ outcome.Done (answer.Flag true)
    ∷ outcome.Done (answer.Advanced 9223372036854775807 0 0) ∷ []
unfolding limits plain create_plan advance_plan set_timer_plan set_timer_ex_plan is_timer_set_plan
end_of_clock = refl

-- what is refused, in this order
refused : play limits 65536
    (((Client 1), (call.Create Work (record { 0 = 1 }) 0 plain))
    ∷ ((Client 1), (call.SetTimer (record { 0 = 2 }) (Some (pos 0)) 0 0))
    ∷ ((Client 1), (call.SetTimer (record { 0 = 1 }) (Some (pos 0)) 0 0))
    ∷ ((Client 1), (call.IsTimerSet (record { 0 = 1 })))
    ∷ ((Worker 1), (call.SetTimer (record { 0 = 1 }) (Some (pos 0)) 0 0))
    ∷ ((Worker 5), (call.Advance 1))
    ∷ ((Worker 1), (call.Advance 1)) ∷ [])
    ≡ outcome.Done (answer.Made 1)
    ∷ outcome.Done (answer.Refused refusal.NoSuch)
    ∷ outcome.Done (answer.Refused refusal.WrongKind)
    ∷ outcome.Done (answer.Refused refusal.WrongKind)
    ∷ outcome.Done (answer.Refused refusal.WrongKind)
    ∷ outcome.Done (answer.Refused refusal.NoSuch)
    ∷ outcome.Done (answer.Refused refusal.NotRunning) ∷ []
unfolding limits plain create_plan set_timer_plan is_timer_set_plan advance_plan
refused = refl
