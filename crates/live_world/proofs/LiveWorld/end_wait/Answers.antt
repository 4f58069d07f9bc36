use Rattle.begun_waits.specs.Begun.{wait_among, wanted_by}
use Rattle.std.proofs.Common.{◌≡◌, ◌^◌, Option, IfSome, ap, sym, subst, ◌∙◌}
use Rattle.tp_base.specs.declared.ids.KernelId.{KernelId}
use Rattle.tp_model.specs.Support.Allowed.{MayEnd}
use Rattle.tp_model.specs.Support.Ranged.{AreTakenAtMost}
use Rattle.live_world.specs.Live.{Live}
use Rattle.sources.specs.Rows.{with_sources}
use Rattle.live_world.specs.Taking.{IsFreeFor, rows_left}
use Rattle.live_world.specs.View.{shown}
use Rattle.live_world.proofs.Takings.{wanted_free}
use Rattle.live_world.proofs.Ending.{ended}
use Rattle.live_world.proofs.LiveWorld.end_wait.Goals as goal
use Rattle.live_world.proofs.LiveWorld.end_wait.Goals.{After-end}

pub end_acquire-requires : goal.end_acquire-requires
end_acquire-requires c is =
    let i = c.self.inside in
    let w = (shown i).world in
    subst (λ (o : Option KernelId). IfSome o (λ (kernel : KernelId). IsFreeFor c.args.who i.sources.sources.kernels kernel.0)) (sym c.wanted.ensures)
    (wanted_free w c.args.who c.args.how (subst (λ (l : Live). MayEnd l.world c.args.who c.args.how) (sym c.self.view_is) c.requires.allowed) (subst (λ (l : Live). AreTakenAtMost (2 ^ 47) l.world) (sym c.self.view_is) c.requires.taken) is)

-- what is left of the kernel objects, by what the wait is for
kernels_read : (c : After-end) → c.end_acquire.new.sources ≡ with_sources c.self.inside.sources (record c.self.inside.sources.sources { kernels = rows_left c.args.who c.args.how (wanted_by (wait_among c.self.inside.waits.waits c.args.who)) c.self.inside.sources.sources.kernels })
kernels_read c = c.end_acquire.ensures ∙ ap (λ o. with_sources c.self.inside.sources (record c.self.inside.sources.sources { kernels = rows_left c.args.who c.args.how o c.self.inside.sources.sources.kernels })) c.wanted.ensures

pub invariant_of-self : goal.invariant_of-self
invariant_of-self c =
    (ended c.self.inside c.args.self.now c.args.who c.args.how c.end.new.self c.end_acquire.new.sources c.self.view_is c.self.invariant c.requires.allowed c.end.ensures (kernels_read c)).keeps

pub returns : goal.returns
returns c =
    (ended c.self.inside c.args.self.now c.args.who c.args.how c.end.new.self c.end_acquire.new.sources c.self.view_is c.self.invariant c.requires.allowed c.end.ensures (kernels_read c)).becomes
