-- What the conditions of a refusal ask of an actor.
use Rattle.tp_base.specs.declared.ids.Who.{Who}
use Rattle.tp_model.specs.World.{World}
use Rattle.tp_model.specs.Conditions.{is_actor, is_finished, is_worker, is_without_callback, runs_callback, is_attached, is_in_wait}
use Rattle.world_reads.specs.declared.actors.Actor.{Actor}

abbrev pub actor_of : World → Who → Actor
actor_of w who = record {
  exists = is_actor w who;
  finished = is_finished w who;
  is_worker = is_worker who;
  runs = runs_callback w who;
  is_idle = is_without_callback w who;
  is_attached = is_attached w who;
  in_wait = is_in_wait w who;
}
