-- The world once the actions of a return are performed and the callbacks of that are made.
use Rattle.std.proofs.Common.{◌≡◌, ℕ, List, ◌++◌, ap, ap₂, ◌∙◌}
use Rattle.tp_base.specs.declared.plans.ActionWords.{ActionWords}
use Rattle.tp_base.specs.declared.rows.Slots.{Slots}
use Rattle.tp_base.specs.declared.rows.ObjectRow.{ObjectRow}
use Rattle.tp_base.specs.declared.rows.CallbackRow.{CallbackRow}
use Rattle.tp_model.specs.World.{World}
use Rattle.tp_model.specs.Actions.{performed}
use Rattle.tp_model.specs.Sources.{Sources, Job, fired, jobless, rows_of, sources_of}
use Rattle.plain_worlds.specs.Firing.{so_far}
use Rattle.plain_worlds.specs.View.{world_of}
use Rattle.plain_worlds.specs.declared.rows.Rows.TheInside.{Inside}

pub after_return : (a : Inside) (w : World) (words : ActionWords) (slots : Slots) (first : ℕ) (s : Sources) (jobs js : List Job) (objects : List ObjectRow) (cs : List CallbackRow)
    → world_of a ≡ w → so_far s jobs ≡ performed words slots (jobless a.sources) → objects ≡ a.objects.items → js ≡ jobs → cs ≡ a.callbacks.items ++ rows_of objects first js
    → record (world_of a) { settings = s.settings; armings = s.armings; kernels = s.kernels; now = s.now; callbacks = cs } ≡ fired w first (performed words slots (jobless (sources_of w)))
after_return a w words slots first s jobs js objects cs is did at told made =
    ap (λ (v : List CallbackRow). record (world_of a) { settings = s.settings; armings = s.armings; kernels = s.kernels; now = s.now; callbacks = v })
    (made ∙ ap₂ (λ (o : List ObjectRow) (j : List Job). a.callbacks.items ++ rows_of o first j) at told)
    ∙ ap (fired (world_of a) first) did
    ∙ ap (λ (v : World). fired v first (performed words slots (jobless (sources_of v)))) is
