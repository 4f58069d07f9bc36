-- A device with two operations, of which the second one fails.
use Rattle.std.proofs.Common.{◌≡◌, false, [], ◌∷◌, refl}
use Rattle.tp_base.specs.declared.answers.Answer.TheVariants as answer
use Rattle.tp_base.specs.declared.calls.Call.TheVariants.{CompleteIo, Create, Finish, IssueIo, StartIo}
use Rattle.tp_base.specs.declared.calls.Kind.TheVariants.{Io}
use Rattle.tp_base.specs.declared.calls.Priority.TheVariants.{Normal}
use Rattle.tp_base.specs.declared.ids.ObjectId.{ObjectId}
use Rattle.tp_base.specs.declared.ids.Who.TheVariants.{Client}
use Rattle.port_facts.specs.Interleaved.{completions_by, port_history}
use Rattle.port_facts.specs.declared.Completion.{Completion}

object : ObjectId
object = record { 0 = 1 }

first : Completion
first = record { callback = 1; error = 0; bytes = 512 }

second : Completion
second = record { callback = 2; error = 5; bytes = 0 }

one_device : port_history 1 (object ∷ object ∷ []) (record { device = 1; completion = first } ∷ record { device = 1; completion = second } ∷ [])
    ≡ record { who = Client 1; call = Create Io (record { 0 = 1 }) 0 (record { pool = record { 0 = 0 }; group = record { 0 = 0 }; cancel = record { 0 = 0 }; priority = Normal; long = false; persistent = false }); answer = answer.Made 1 }
    ∷ record { who = Client 1; call = StartIo object; answer = answer.Started 1 }
    ∷ record { who = Client 1; call = IssueIo object; answer = answer.Operation 1 }
    ∷ record { who = Client 1; call = StartIo object; answer = answer.Started 2 }
    ∷ record { who = Client 1; call = IssueIo object; answer = answer.Operation 2 }
    ∷ record { who = Client 1; call = Finish; answer = answer.Done }
    ∷ record { who = Client 2; call = CompleteIo 1 0 512; answer = answer.Queued 1 1 }
    ∷ record { who = Client 2; call = CompleteIo 2 5 0; answer = answer.Queued 2 1 }
    ∷ record { who = Client 2; call = Finish; answer = answer.Done }
    ∷ []
unfolding object first second
one_device = refl

of_the_device : completions_by 1 (port_history 1 (object ∷ object ∷ []) (record { device = 1; completion = first } ∷ record { device = 1; completion = second } ∷ [])) ≡ first ∷ second ∷ []
unfolding object first second
of_the_device = refl
