use Rattle.tp_explore.specs.Scripts.{watched_but}
use Rattle.tp_explore.proofs.Telling.{IsTold}
use Rattle.tp_explore.proofs.walk.story_but.Given as goal

abbrev pub invariant-loop-entry : goal.invariant-loop-entry
invariant-loop-entry g l = IsTold (watched_but l.passed l.script) l.limits l.history l.entry-index (record {
  number = l.number;
  kept = g.V.Reads.world_of l.world;
  made = g.V.Reads.made_of l.world;
  stands = l.stands.items;
  noted = l.notes;
  told_so = l.told.items;
  happened_so = l.happened.items;
  waiting_so = l.waiting.items;
})
