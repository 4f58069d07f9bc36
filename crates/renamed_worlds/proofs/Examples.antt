-- A closed world, and workers that change places, by computation alone.
use Rattle.std.proofs.Common.{◌≡◌, ℕ, List, [], ◌∷◌, Some, refl, true, false}
use Rattle.tp_base.specs.declared.answers.TakeResult.TheVariants.{Plain}
use Rattle.tp_base.specs.declared.calls.Priority.TheVariants.{Normal}
use Rattle.tp_base.specs.declared.ids.Who.TheVariants.{Client}
use Rattle.tp_base.specs.declared.limits.Limits.{Limits}
use Rattle.tp_base.specs.declared.rows.CallbackRow.{CallbackRow}
use Rattle.tp_base.specs.declared.rows.Status.{Status}
use Rattle.tp_base.specs.declared.rows.Status.TheVariants.{Pending, Returned, Running}
use Rattle.tp_base.specs.declared.rows.WaitTarget.TheVariants.{Object}
use Rattle.tp_base.specs.declared.rows.WorkerRow.{WorkerRow}
use Rattle.tp_model.specs.Actions.{no_actions}
use Rattle.tp_model.specs.World.{World, BegunWait, opening, unattached}
use Rattle.renamed_worlds.specs.Closed.{closed, number_in}
use Rattle.renamed_worlds.specs.Exchanged.{exchanged}

limits : Limits
limits = record { clients = 1; workers = 1; pools = 1; groups = 0; objects = 1; kernels = 0; slots = 8 }

-- a callback of object 1
callback : ℕ → Status → CallbackRow
callback number status = record {
  number = number;
  context = 7;
  object = record { 0 = 1 };
  routine = record { 0 = 1 };
  pool = record { 0 = 0 };
  group = record { 0 = 0 };
  result = Plain;
  status = status;
  priority = Normal;
  long = false;
  persistent = false;
}

running : Status
running = Running 1 true no_actions

busy_with : ℕ → WorkerRow
busy_with number = record { pool = Some (record { 0 = 0 }); callback = Some number; persistent = false }

waiting_for : List ℕ → BegunWait
waiting_for numbers = record { actor = Client 1; target = Object (record { 0 = 1 }); covered = numbers; notices = []; cleanup = 0 }

world_of : List CallbackRow → ℕ → List ℕ → World
world_of callbacks number numbers = record (opening limits) { callbacks = callbacks; workers = busy_with number ∷ []; waits = waiting_for numbers ∷ [] }

before : World
before = world_of (callback 3 Returned ∷ callback 5 running ∷ callback 8 Pending ∷ []) 5 (3 ∷ 5 ∷ [])

-- callbacks 5 and 8 become 1 and 2, and the wait is for 1 alone
is_closed : closed before ≡ world_of (callback 1 running ∷ callback 2 Pending ∷ []) 1 (1 ∷ [])
unfolding before world_of waiting_for busy_with running callback limits
is_closed = refl

-- and back: place 2 stands for 8, and what comes next for the next number
is_back : (number_in before 9 2 ≡ 8) × (number_in before 9 3 ≡ 9) × (number_in before 9 4 ≡ 10)
unfolding before world_of waiting_for busy_with running callback limits
is_back = (refl, refl, refl)

-- worker 1, which runs callback 5, and worker 2, which is away, change places
unexchanged : World
unexchanged = record before { workers = busy_with 5 ∷ unattached ∷ [] }

is_exchanged : exchanged 0 unexchanged
    ≡ record unexchanged { callbacks = callback 3 Returned ∷ callback 5 (Running 2 true no_actions) ∷ callback 8 Pending ∷ []; workers = unattached ∷ busy_with 5 ∷ [] }
unfolding unexchanged before world_of waiting_for busy_with running callback limits
is_exchanged = refl
