use Rattle.std.proofs.Common.{◌≡◌, sym, ap, ◌∙◌, arith}
use Rattle.tp_base.specs.declared.ids.Who.TheVariants.{Worker}
use Rattle.tp_base.specs.declared.rows.Slots.{Slots}
use Rattle.tp_model.specs.Actions.{slots_of, words_of}
use Rattle.live_world.specs.Live.{Live}
use Rattle.live_world.specs.View.{shown}
use Rattle.live_world.proofs.Firings.{return_can, return_fits, returned_by}
use Rattle.live_world.proofs.Performing.{may_all}
use Rattle.live_world.proofs.LiveWorld.return_callback.Goals as goal

-- once the callback has ended, the words are as they were told
pub perform_all-self-inside-requires-clause-may : goal.perform_all-self-inside-requires-clause-may
perform_all-self-inside-requires-clause-may c =
    let runs = c.requires.allowed.runs in
    let told : c.args.words ≡ words_of (shown c.self.inside).world (Worker c.args.by.worker) c.slots_of.result
    = c.requires.allowed.told
    ∙ ap (λ (s : Slots). words_of c.args.self.now.world (Worker c.args.by.worker) s) (sym (c.slots_of.ensures ∙ ap slots_of runs.running))
    ∙ sym (ap (λ (x : Live). words_of x.world (Worker c.args.by.worker) c.slots_of.result) (c.self.view_is ∙ c.end_callback.ensures)) in
    may_all (shown c.self.inside).world (Worker c.args.by.worker) c.args.words c.slots_of.result told

pub perform_all-self-inside-requires-clause-can : goal.perform_all-self-inside-requires-clause-can
perform_all-self-inside-requires-clause-can c =
    return_can c.self.inside c.args.self.now c.args.by c.args.words c.slots_of.result c.args._first c.args._count
    (c.self.view_is ∙ c.end_callback.ensures) c.self.invariant c.is_reachable.ensures.sound c.requires.allowed c.slots_of.ensures

pub perform_all-self-inside-requires-clause-young : goal.perform_all-self-inside-requires-clause-young
perform_all-self-inside-requires-clause-young c =
    let fits = return_fits c.self.inside c.args.self.now c.args.by c.args.words c.slots_of.result c.args._first c.args._count
    (c.self.view_is ∙ c.end_callback.ensures) c.self.invariant c.is_reachable.ensures.sound c.requires.allowed c.slots_of.ensures in
    omega (arith, fits, c.self.invariant.sized.in_range.slots_most, ap (λ (x : Live). x.made) (c.self.view_is ∙ c.end_callback.ensures), c.requires.young)

pub invariant_of-self : goal.invariant_of-self
invariant_of-self c =
    (returned_by c.self.inside c.args.self.now c.args.by c.args.words c.slots_of.result c.args._first c.args._count
    (c.self.view_is ∙ c.end_callback.ensures) c.self.invariant c.is_reachable.ensures.sound c.requires.allowed c.slots_of.ensures
    c.perform_all-self-inside.new.sources c.perform_all-self-inside.new.callbacks c.perform_all-self-inside.result c.perform_all-self-inside.ensures).keeps

pub returns : goal.returns
returns c =
    (returned_by c.self.inside c.args.self.now c.args.by c.args.words c.slots_of.result c.args._first c.args._count
    (c.self.view_is ∙ c.end_callback.ensures) c.self.invariant c.is_reachable.ensures.sound c.requires.allowed c.slots_of.ensures
    c.perform_all-self-inside.new.sources c.perform_all-self-inside.new.callbacks c.perform_all-self-inside.result c.perform_all-self-inside.ensures).becomes
