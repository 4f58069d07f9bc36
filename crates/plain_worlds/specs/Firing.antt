-- What has fired so far.
use Rattle.std.specs.Prelude.{List, [], ◌∷◌, Option, None, Some}
use Rattle.tp_base.specs.declared.ids.ObjectId.{ObjectId}
use Rattle.tp_base.specs.declared.answers.TakeResult.{TakeResult}
use Rattle.tp_model.specs.Sources.{Sources, Job, Firing, job}

abbrev pub so_far : Sources → List Job → Firing
so_far sources jobs = record { sources = sources; jobs = jobs }

-- the job of an object, if there is one
abbrev pub jobs_of : ObjectId → Option TakeResult → List Job
jobs_of object None = []
jobs_of object (Some told) = job object told ∷ []
