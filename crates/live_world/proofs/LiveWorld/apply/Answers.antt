use Rattle.std.proofs.Common.{◌≡◌, ℕ, sym, ap, ap₂, ◌∙◌, arith}
use Rattle.tp_base.specs.declared.plans.Change.TheVariants as change
use Rattle.tp_model.specs.World.{World}
use Rattle.tp_model.specs.Support.Remembered.{forget}
use Rattle.live_world.specs.Live.{Live, moved}
use Rattle.live_world.proofs.LiveWorld.apply.Goals as goal

-- where nothing changes
kept : (l : Live) → forget l.world ≡ l.world → l ≡ moved l change.Keep
kept l living = ap₂ (λ (w : World) (n : ℕ). record { world = w; made = n }) (sym living) (omega arith)

pub returns-in-Keep-clause-after : goal.returns-in-Keep-clause-after
returns-in-Keep-clause-after c = kept c.args.self.now c.is_reachable.ensures.living ∙ ap (moved c.args.self.now) (sym c.in-Keep.is)
