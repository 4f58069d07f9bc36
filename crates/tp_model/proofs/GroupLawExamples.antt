-- Histories with cleanup groups that the laws Closed and Notices refuse, by computation alone.
use Rattle.std.proofs.Common.{◌≡◌, ℕ, List, [], ◌∷◌, refl, true, false, Bool, ap}
use Rattle.tp_base.specs.declared.ids.Who.TheVariants.{Client, Worker}
use Rattle.tp_base.specs.declared.calls.Priority.TheVariants.{Normal}
use Rattle.tp_base.specs.declared.calls.Kind.TheVariants.{Work}
use Rattle.tp_base.specs.declared.calls.Call.TheVariants as call
use Rattle.tp_base.specs.declared.calls.Environ.{Environ}
use Rattle.tp_base.specs.declared.answers.Answer.TheVariants as answer
use Rattle.tp_base.specs.declared.answers.TakeResult.TheVariants.{Plain}
use Rattle.tp_base.specs.declared.answers.Entry.{Entry}
use Rattle.tp_base.specs.declared.calls.Call.{Call}
use Rattle.tp_base.specs.declared.answers.Answer.{Answer}
use Rattle.tp_model.specs.Laws.Entries.{Notice, Begins, Run}
use Rattle.tp_model.specs.Laws.Covered.{AreClosed}
use Rattle.tp_model.specs.Laws.Notices.{AreNoticed, IsFront, notices_due}
use Rattle.tp_model.proofs.Places.{no_place}
use Rattle.tp_base.specs.declared.rows.WaitTarget.TheVariants.{Group}

-- ---- the law Closed refuses

in_group : Environ
in_group = record { pool = record { 0 = 0 }; group = record { 0 = 1 }; cancel = record { 0 = 9 }; priority = Normal; long = false; persistent = false }

client : ℕ → Call → Answer → Entry
client n made told = record { who = Client n; call = made; answer = told }

worker : ℕ → Call → Answer → Entry
worker n made told = record { who = Worker n; call = made; answer = told }

group_made : Entry
unfolding client
group_made = client 1 call.CreateGroup (answer.Made 1)

made : ℕ → Entry
unfolding client in_group
made n = client 1 (call.Create Work (record { 0 = 1 }) 7 in_group) (answer.Made n)

submitted : ℕ → Entry
unfolding client
submitted n = client 1 (call.SubmitWork (record { 0 = 1 })) (answer.Queued n 1)

submitted_simple : ℕ → Entry
unfolding client in_group
submitted_simple n = client 1 (call.SubmitSimple (record { 0 = 1 }) 7 in_group) (answer.Queued n 1)

closed : ℕ → Entry
unfolding client
closed n = client 1 (call.CloseObject Work (record { 0 = n })) (answer.Closed false)

attached : Entry
unfolding worker
attached = worker 1 call.Attach (answer.Attached (record { 0 = 0 }))

takes : ℕ → ℕ → Entry
unfolding worker
takes n object = worker 1 call.Take (answer.Taken n (record { 0 = object }) (record { 0 = 1 }) 7 Plain)

loosened : Entry
unfolding worker
loosened = worker 1 call.Disassociate answer.Done

closing : ℕ → Bool → Entry
unfolding client
closing n cancel = client n (call.BeginClose (record { 0 = 1 }) cancel 5) (answer.Closing 0 0 0)

notice : ℕ → ℕ → ℕ → Entry
unfolding client
notice n object context = client n call.End (answer.Notice (record { 0 = object }) (record { 0 = 9 }) context 5)

ended : ℕ → Entry
unfolding client
ended n = client n call.End answer.Ended

begun : Bool → Begins
begun cancel = record { target = Group (record { 0 = 1 }); cancel = cancel; cleanup = 5 }

run : ℕ → ℕ → Run
run n object = record { number = n; object = record { 0 = object } }

-- a close that ended while a callback of a member was pending, which is taken later
taken_later : AreClosed (group_made ∷ made 1 ∷ submitted 1 ∷ closing 1 false ∷ ended 1 ∷ attached ∷ takes 1 1 ∷ []) → true ≡ false
unfolding group_made made submitted closing ended attached takes begun run client worker in_group
taken_later law =
    (law.at_each (group_made ∷ made 1 ∷ submitted 1 ∷ []) [] (attached ∷ takes 1 1 ∷ []) (closing 1 false) (ended 1) (begun false) refl refl refl refl refl refl).none_later
    (attached ∷ []) [] (takes 1 1) (run 1 1) refl refl

-- one that was made after the close, of a member that it released
made_later : AreClosed (group_made ∷ made 1 ∷ closing 1 false ∷ ended 1 ∷ submitted 1 ∷ attached ∷ takes 1 1 ∷ []) → true ≡ false
unfolding group_made made submitted closing ended attached takes begun run client worker in_group
made_later law =
    (law.at_each (group_made ∷ made 1 ∷ []) [] (submitted 1 ∷ attached ∷ takes 1 1 ∷ []) (closing 1 false) (ended 1) (begun false) refl refl refl refl refl refl).none_later
    (submitted 1 ∷ attached ∷ []) [] (takes 1 1) (run 1 1) refl refl

-- one of a member that was closed by itself, and that still runs, though it was disassociated
still_running : AreClosed (group_made ∷ made 1 ∷ submitted 1 ∷ attached ∷ takes 1 1 ∷ loosened ∷ closed 1 ∷ closing 1 true ∷ ended 1 ∷ []) → false ≡ true
unfolding group_made made submitted closed closing ended attached takes loosened begun run client worker in_group
still_running law =
    (law.at_each (group_made ∷ made 1 ∷ submitted 1 ∷ attached ∷ takes 1 1 ∷ loosened ∷ closed 1 ∷ []) [] [] (closing 1 true) (ended 1) (begun true) refl refl refl refl refl refl).let_go
    (group_made ∷ made 1 ∷ submitted 1 ∷ attached ∷ []) (loosened ∷ closed 1 ∷ closing 1 true ∷ []) (takes 1 1) (run 1 1) refl refl refl

-- a simple one that still runs
simple_running : AreClosed (group_made ∷ submitted_simple 1 ∷ attached ∷ takes 1 0 ∷ closing 1 false ∷ ended 1 ∷ []) → false ≡ true
unfolding group_made submitted_simple closing ended attached takes begun run client worker in_group
simple_running law =
    (law.at_each (group_made ∷ submitted_simple 1 ∷ attached ∷ takes 1 0 ∷ []) [] [] (closing 1 false) (ended 1) (begun false) refl refl refl refl refl refl).let_go
    (group_made ∷ submitted_simple 1 ∷ attached ∷ []) (closing 1 false ∷ []) (takes 1 0) (run 1 0) refl refl refl

-- and with cancel one that is taken while the close goes on
taken_between : AreClosed (group_made ∷ made 1 ∷ submitted 1 ∷ attached ∷ closing 1 true ∷ takes 1 1 ∷ ended 1 ∷ []) → true ≡ false
unfolding group_made made submitted closing ended attached takes begun run client worker in_group
taken_between law =
    (law.at_each (group_made ∷ made 1 ∷ submitted 1 ∷ attached ∷ []) (takes 1 1 ∷ []) [] (closing 1 true) (ended 1) (begun true) refl refl refl refl refl refl).none_between refl
    [] [] (takes 1 1) (run 1 1) refl refl

-- ---- the law Notices refuses

told : ℕ → ℕ → Notice
told object context = record { object = record { 0 = object }; routine = record { 0 = 9 }; context = context; cleanup = 5 }

-- what is due: of three objects of the group one was closed
three_made : notices_due (begun true) (group_made ∷ made 1 ∷ made 2 ∷ made 3 ∷ closed 2 ∷ []) ≡ told 1 7 ∷ told 3 7 ∷ []
unfolding group_made made closed begun told client in_group
three_made = refl

-- a close that ends without the notice of a member
not_given : AreNoticed (group_made ∷ made 1 ∷ closing 1 true ∷ ended 1 ∷ []) → ⊥
unfolding group_made made closing ended begun client in_group
not_given law = absurd (let none = law.all (group_made ∷ made 1 ∷ []) [] [] (closing 1 true) (ended 1) (begun true) refl refl refl refl refl in cc)

abbrev nothing_front : (n : Notice) → IsFront (n ∷ []) [] → ⊥
nothing_front n front = let e = front.split in cc

-- one of an object that was closed
of_closed : AreNoticed (group_made ∷ made 1 ∷ closed 1 ∷ closing 1 true ∷ notice 1 1 7 ∷ []) → ⊥
unfolding group_made made closed closing notice begun told client in_group
of_closed law = nothing_front (told 1 7) (law.first (group_made ∷ made 1 ∷ closed 1 ∷ []) (notice 1 1 7 ∷ []) [] (closing 1 true) (begun true) refl refl refl)

-- one of a member that another close has released
of_released : AreNoticed (group_made ∷ made 1 ∷ closing 1 true ∷ closing 2 true ∷ notice 2 1 7 ∷ []) → ⊥
unfolding group_made made closing notice begun told client in_group
of_released law = nothing_front (told 1 7) (law.first (group_made ∷ made 1 ∷ closing 1 true ∷ []) (notice 2 1 7 ∷ []) [] (closing 2 true) (begun true) refl refl refl)

-- one of a member that was made after the close began
of_later : AreNoticed (group_made ∷ closing 1 true ∷ made 1 ∷ notice 1 1 7 ∷ []) → ⊥
unfolding group_made made closing notice begun told client in_group
of_later law = nothing_front (told 1 7) (law.first (group_made ∷ []) (made 1 ∷ notice 1 1 7 ∷ []) [] (closing 1 true) (begun true) refl refl refl)

-- one of a close without cancel
without_cancel : AreNoticed (group_made ∷ made 1 ∷ closing 1 false ∷ notice 1 1 7 ∷ []) → ⊥
unfolding group_made made closing notice begun told client in_group
without_cancel law = nothing_front (told 1 7) (law.first (group_made ∷ made 1 ∷ []) (notice 1 1 7 ∷ []) [] (closing 1 false) (begun false) refl refl refl)

-- one that is given twice
given_twice : AreNoticed (group_made ∷ made 1 ∷ closing 1 true ∷ notice 1 1 7 ∷ notice 1 1 7 ∷ []) → ⊥
unfolding group_made made closing notice begun told client in_group
given_twice law = absurd (let e = (law.first (group_made ∷ made 1 ∷ []) (notice 1 1 7 ∷ notice 1 1 7 ∷ []) [] (closing 1 true) (begun true) refl refl refl).split in cc)

abbrev first_of : List Notice → ℕ × ℕ
first_of [] = (0, 0)
first_of (n ∷ ns) = (n.object.0, n.context)

-- with a context that the object was not made with
other_context : AreNoticed (group_made ∷ made 1 ∷ closing 1 true ∷ notice 1 1 8 ∷ []) → ◌≡◌ {A = ℕ} 8 7
unfolding group_made made closing notice begun told client in_group
other_context law = ap (λ ns. (first_of ns).1) (law.first (group_made ∷ made 1 ∷ []) (notice 1 1 8 ∷ []) [] (closing 1 true) (begun true) refl refl refl).split

-- not in order of creation
out_of_order : AreNoticed (group_made ∷ made 1 ∷ made 2 ∷ closing 1 true ∷ notice 1 2 7 ∷ []) → ◌≡◌ {A = ℕ} 2 1
unfolding group_made made closing notice begun told client in_group
out_of_order law = ap (λ ns. (first_of ns).0) (law.first (group_made ∷ made 1 ∷ made 2 ∷ []) (notice 1 2 7 ∷ []) [] (closing 1 true) (begun true) refl refl refl).split

-- while a callback of a member runs
too_early : AreNoticed (group_made ∷ made 1 ∷ submitted 1 ∷ attached ∷ takes 1 1 ∷ closing 1 true ∷ notice 1 1 7 ∷ []) → false ≡ true
unfolding group_made made submitted attached takes closing notice begun told run client worker in_group
too_early law =
    (law.settled (group_made ∷ made 1 ∷ submitted 1 ∷ attached ∷ takes 1 1 ∷ []) [] [] (closing 1 true) (notice 1 1 7) (begun true) (told 1 7) refl refl refl refl).let_go
    (group_made ∷ made 1 ∷ submitted 1 ∷ attached ∷ []) (closing 1 true ∷ []) (takes 1 1) (run 1 1) refl refl refl

-- and by who has begun no close
by_no_closer : AreNoticed (notice 1 1 7 ∷ []) → ⊥
unfolding notice told client
by_no_closer law = let c = law.no_other [] [] (notice 1 1 7) (told 1 7) refl refl in no_place c.before c.begin c.between c.place
