-- How far a wait has come.
use Rattle.std.specs.Prelude.{ℕ, List, [], ◌∷◌, if◌then◌else◌, Option, None, Some}
use Rattle.tp_base.specs.declared.ids.Who.{Who}
use Rattle.tp_base.specs.declared.ids.ObjectId.{ObjectId}
use Rattle.tp_base.specs.declared.rows.WaitTarget.{WaitTarget}
use Rattle.tp_base.specs.declared.rows.WaitTarget.TheVariants.{Object, Group, Kernel}
use Rattle.tp_model.specs.World.{World, BegunWait}
use Rattle.tp_model.specs.Waits.{wait_of, held}
use Rattle.tp_model.specs.Sources.{object_row}
use Rattle.tp_model.specs.Calls.Waits.{holds_starved}
use Rattle.world_reads.specs.declared.waiting.Progress.{Progress}
use Rattle.world_reads.specs.declared.waiting.Progress.TheVariants.{NotBegun, Free, Notifies, Starved, Holds, Acquires}

-- the first notice that is left, of an object that was made
abbrev pub progress_left : World → ℕ → List ObjectId → Progress
progress_left w cleanup [] = Free
progress_left w cleanup (object ∷ objects) = Notifies object (object_row w.objects object).env.cancel (object_row w.objects object).context cleanup

-- with what it holds
abbrev pub progress_with : World → ℕ → BegunWait → List ℕ → Progress
progress_with w room b [] = progress_left w b.cleanup b.notices
progress_with w room b (number ∷ numbers) = if holds_starved w room (number ∷ numbers) then Starved else Holds number

abbrev pub progress_for : World → ℕ → BegunWait → WaitTarget → Progress
progress_for w room b (Object object) = progress_with w room b (held w b)
progress_for w room b (Group group) = progress_with w room b (held w b)
progress_for w room b (Kernel kernel) = Acquires kernel

abbrev pub progress_in : World → ℕ → Option BegunWait → Progress
progress_in w room None = NotBegun
progress_in w room (Some b) = progress_for w room b b.target

abbrev pub progress_of : World → ℕ → Who → Progress
progress_of w room who = progress_in w room (wait_of w who)
