-- What fires: of the clock what is due now, and of a kernel object the waits that are armed on it while it is signalled.
use Rattle.std.specs.Prelude.{◌≡◌, ◌+◌, ◌≤◌, true, List, [], ◌∷◌, ◌++◌, length, if◌then◌else◌, Option, None, Some, IfSome, IfNone, MatchOption}
use Rattle.tp_base.specs.declared.ids.ObjectId.{ObjectId}
use Rattle.tp_base.specs.declared.answers.TakeResult.{TakeResult}
use Rattle.tp_base.specs.declared.plans.Trigger.TheVariants.{Advance}
use Rattle.tp_base.specs.declared.rows.TimerSetting.{TimerSetting}
use Rattle.tp_base.specs.Armings.{without_arming}
use Rattle.tp_base.specs.Timers.{is_due, set_again}
use Rattle.tp_model.specs.Sources.{Sources, Firing, Job, expiry_job, firing, job, jobless, release, release_first}
use Rattle.sources.specs.Rows.{SourceRows, is_there, with_sources}
use Rattle.sources.specs.declared.firing.Cause.{Cause}
use Rattle.sources.specs.declared.firing.Cause.TheVariants.{Clock, Kernel}

-- ---- jobs

-- the job of an object whose wait is set, if it makes a callback at once
abbrev pub jobs_of : ObjectId → Option TakeResult → List Job
jobs_of object None = []
jobs_of object (Some told) = job object told ∷ []

-- the job of what fires, if anything does
abbrev pub jobs_told : Option (ObjectId × TakeResult) → List Job
jobs_told None = []
jobs_told (Some told) = job told.0 told.1 ∷ []

-- behind these jobs
abbrev pub before : List Job → Firing → Firing
before jobs f = record f { jobs = jobs ++ f.jobs }

abbrev pub after_jobs : Sources → List Job → Firing
after_jobs s jobs = record { sources = s; jobs = jobs }

-- ---- all that fires, and the first of it

-- all that is left to fire
abbrev pub rest_of : Cause → Sources → Firing
rest_of Clock s = firing (Advance s.now) s
rest_of (Kernel kernel) s = release kernel.0 (jobless s)

-- the first setting, if it is due: a timer expires, or the wait of a timeout is disarmed
abbrev pub expire_first : Sources → List TimerSetting → Firing
expire_first s [] = jobless s
expire_first s (first ∷ others) =
    if is_due s.now first
    then record { sources = record s { settings = set_again s.now first others; armings = without_arming first.object.0 s.armings }; jobs = expiry_job s.armings first ∷ [] }
    else jobless s

abbrev pub step_of : Cause → Sources → Firing
step_of Clock s = expire_first s s.settings
step_of (Kernel kernel) s = release_first kernel.0 (jobless s)

-- what is told fires first, and nothing is told where nothing fires
pub record Fires (cause : Cause) (old new : SourceRows) (told : Option (ObjectId × TakeResult)) : Type 0 where
  pub after : after_jobs new.sources (jobs_told told) ≡ step_of cause old.sources
  pub others : new ≡ with_sources old new.sources
  pub idle : IfNone told (new ≡ old)
  pub rest : MatchOption told (rest_of cause old.sources ≡ jobless old.sources) (λ first. rest_of cause old.sources ≡ before (job first.0 first.1 ∷ []) (rest_of cause new.sources))
  -- of all that fires each has a slot: so has this, and so has each wait that is still armed
  pub fits : length new.sources.armings + length (jobs_told told) ≤ length (rest_of cause old.sources).jobs + length (rest_of cause old.sources).sources.armings
  pub stands : IfSome told (λ first. is_there old first.0.0 ≡ true)
