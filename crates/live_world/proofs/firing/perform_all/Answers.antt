use Rattle.std.proofs.Common.{◌^◌}
use Rattle.tp_base.specs.declared.answers.ActionKind.TheVariants.{Mutex, Semaphore, Event}
use Rattle.tp_model.specs.Actions.{performed}
use Rattle.tp_model.specs.Sources.{jobless}
use Rattle.live_world.specs.Performing.{eventless, locks_only, section_only}
use Rattle.live_world.proofs.Performing.{perform_front, perform_next, perform_turn, young_front, young_turn}
use Rattle.live_world.proofs.firing.perform_all.Goals as goal

pub perform-made-requires-3-clause-can : goal.perform-made-requires-3-clause-can
perform-made-requires-3-clause-can c =
    let words = c.args.words in
    let slots = c.args.slots in
    let start = jobless c.args.sources.now.sources in
    let locks = perform_next Mutex words.mutex slots.mutex (performed words (section_only slots) start) c.perform-made.ensures c.perform-made-2.ensures in
    perform_turn Semaphore words.semaphore slots.semaphore (performed words (locks_only slots) start) locks
    (perform_front Event words.event slots.event (performed words (eventless slots) start) c.args.objects.now.objects c.args.made c.args.callbacks.now c.requires.can)

pub perform-made-requires-3-clause-young : goal.perform-made-requires-3-clause-young
perform-made-requires-3-clause-young c =
    let words = c.args.words in
    let slots = c.args.slots in
    let start = jobless c.args.sources.now.sources in
    let locks = perform_next Mutex words.mutex slots.mutex (performed words (section_only slots) start) c.perform-made.ensures c.perform-made-2.ensures in
    young_turn Semaphore words.semaphore slots.semaphore (performed words (locks_only slots) start) locks (2 ^ 63)
    (young_front Event words.event slots.event (performed words (eventless slots) start) c.args.made (2 ^ 63) c.requires.young)

pub perform-requires-clause-can : goal.perform-requires-clause-can
perform-requires-clause-can c =
    let words = c.args.words in
    let slots = c.args.slots in
    let start = jobless c.args.sources.now.sources in
    let locks = perform_next Mutex words.mutex slots.mutex (performed words (section_only slots) start) c.perform-made.ensures c.perform-made-2.ensures in
    let three = perform_next Semaphore words.semaphore slots.semaphore (performed words (locks_only slots) start) locks c.perform-made-3.ensures in
    perform_turn Event words.event slots.event (performed words (eventless slots) start) three c.requires.can

pub perform-requires-clause-young : goal.perform-requires-clause-young
perform-requires-clause-young c =
    let words = c.args.words in
    let slots = c.args.slots in
    let start = jobless c.args.sources.now.sources in
    let locks = perform_next Mutex words.mutex slots.mutex (performed words (section_only slots) start) c.perform-made.ensures c.perform-made-2.ensures in
    let three = perform_next Semaphore words.semaphore slots.semaphore (performed words (locks_only slots) start) locks c.perform-made-3.ensures in
    young_turn Event words.event slots.event (performed words (eventless slots) start) three (2 ^ 63) c.requires.young

pub returns : goal.returns
returns c =
    let words = c.args.words in
    let slots = c.args.slots in
    let start = jobless c.args.sources.now.sources in
    let locks = perform_next Mutex words.mutex slots.mutex (performed words (section_only slots) start) c.perform-made.ensures c.perform-made-2.ensures in
    let three = perform_next Semaphore words.semaphore slots.semaphore (performed words (locks_only slots) start) locks c.perform-made-3.ensures in
    perform_next Event words.event slots.event (performed words (eventless slots) start) three c.perform.ensures
