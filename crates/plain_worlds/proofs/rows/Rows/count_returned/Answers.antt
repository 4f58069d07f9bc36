use Rattle.std.proofs.Common.{length, ap, ◌∙◌, arith}
use Rattle.tp_base.specs.declared.answers.ActionKind.TheVariants.{Semaphore, Event}
use Rattle.tp_model.specs.Actions.{perform}
use Rattle.tp_model.specs.Sources.{jobless, sources_of}
use Rattle.tp_model.specs.World.{World}
use Rattle.plain_worlds.proofs.Released.{both_count, both_fit}
use Rattle.plain_worlds.proofs.rows.Rows.count_returned.Goals as goal

pub overflow_add-result : goal.overflow_add-result
overflow_add-result c =
    let words = c.args.words.now in
    let slots = c.args.slots.now in
    let by_semaphore = c.count_performed-semaphore.ensures ∙ ap (λ (w : World). length (perform Semaphore words.semaphore slots.semaphore (jobless (sources_of w))).jobs) c.self.view_is in
    let by_event = c.count_performed-event.ensures ∙ ap (λ (w : World). length (perform Event words.event slots.event (jobless (sources_of w))).jobs) c.self.view_is in
    omega (arith, both_fit c.args.self.now c.args.who words slots _ _ c.requires.once c.requires.words by_semaphore by_event, c.requires.armings)

pub returns : goal.returns
returns c =
    let words = c.args.words.now in
    let slots = c.args.slots.now in
    let by_semaphore = c.count_performed-semaphore.ensures ∙ ap (λ (w : World). length (perform Semaphore words.semaphore slots.semaphore (jobless (sources_of w))).jobs) c.self.view_is in
    let by_event = c.count_performed-event.ensures ∙ ap (λ (w : World). length (perform Event words.event slots.event (jobless (sources_of w))).jobs) c.self.view_is in
    both_count c.args.self.now c.args.who words slots _ _ c.requires.once c.requires.words by_semaphore by_event
