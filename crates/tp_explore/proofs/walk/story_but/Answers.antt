use Rattle.std.proofs.Common.{◌++◌, [], ap, ap₂, cond, get_or, map, refl, ◌∙◌}
use Rattle.std.proofs.lemmas.List.{drop_more}
use Rattle.std.specs.List.{flat_map}
use Rattle.tp_base.specs.declared.answers.Answer.TheVariants.{Done}
use Rattle.tp_base.specs.declared.answers.Entry.{Entry}
use Rattle.tp_base.specs.declared.calls.Call.TheVariants.{CreatePool}
use Rattle.tp_base.specs.declared.ids.Who.TheVariants.{Client}
use Rattle.tp_explore.specs.Scripts.{watched_but}
use Rattle.tp_explore.specs.Stands.{place_of}
use Rattle.tp_explore.specs.Story.{begun_by, happened, is_stall, told}
use Rattle.tp_explore.proofs.Telling.{begins, goes_on, may_lead}
use Rattle.tp_explore.proofs.walk.story_but.Goals as goal

-- what stands for an entry outside of the history
abbrev none : Entry
none = record { who = Client 0; call = CreatePool; answer = Done }

pub loop-entry-init : goal.loop-entry-init
loop-entry-init g c =
    begins (watched_but c.args.passed.now c.args.script.now) c.args.limits c.args.history.now c.requires.legal.0 _ refl c.in_ok-world.ensures.world c.in_ok-world.ensures.made c.new-stands.ensures.items c.new-notes.ensures c.new-told.ensures.items
    c.new-happened.ensures.items c.new-waiting.ensures.items c.requires.legal.1

pub led-requires : goal.led-requires
led-requires g c =
    may_lead (watched_but c.args.passed.now c.args.script.now) c.args.limits c.args.history.now c.loop-entry.entry-index _ c.loop-entry.invariant _ _ (drop_more c.args.history.now c.loop-entry.entry-index none c.loop-entry-test.true)

pub loop-entry-preserved : goal.loop-entry-preserved
loop-entry-preserved g c =
    let e : Entry = get_or c.args.history.now c.loop-entry.entry-index none in
    goes_on (watched_but c.args.passed.now c.args.script.now) c.args.limits c.args.history.now c.loop-entry.entry-index _ c.loop-entry.invariant e _ (drop_more c.args.history.now c.loop-entry.entry-index none c.loop-entry-test.true) c.in_ok-passage.passage _
    (record {
      number_is = c.in_ok-number.ensures;
      passage_is = c.in_ok-passage.ensures.passage;
      stands_are = c.in_ok-passage.ensures.stands;
      kept_is = c.in_ok-world-2.ensures.world;
      made_is = c.in_ok-world-2.ensures.made;
      noted_is = c.in_ok-faults.ensures.noted;
      told_is = c.in_ok-add_told.ensures ∙ ap (λ faults. c.loop-entry.told.items ++ map (told c.in_ok-number.number e.who) faults) (c.deref-in-loop-entry-2.ensures.value ∙ c.in_ok-faults.ensures.faults);
      happened_is = c.in_ok-add_happened.ensures ∙ ap (λ deeds. c.loop-entry.happened.items ++ map (happened c.in_ok-number.number) deeds) (c.deref-in-loop-entry-3.ensures.value ∙ c.in_ok-deeds.ensures);
      waiting_is =
          c.in_ok-add_stalled.ensures
          ∙ ap₂ (λ stands whos. c.loop-entry.waiting.items ++ cond (is_stall e.answer) (flat_map (begun_by (watched_but c.args.passed.now c.args.script.now) (record { world = g.V.Reads.world_of c.loop-entry.world; places = place_of stands })) whos) [])
          c.deref.ensures.value (c.deref-in-loop-entry.ensures.value ∙ c.in_ok-actors.ensures);
    })
    refl
