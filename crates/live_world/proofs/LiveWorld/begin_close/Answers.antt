use Rattle.std.proofs.Common.{ap, ◌∙◌}
use Rattle.tp_model.specs.Groups.{is_group}
use Rattle.live_world.specs.Live.{Live}
use Rattle.live_world.proofs.BeginClose.{group_settled, may_close_settled, begun_idle, settled_idle, closes_whole}
use Rattle.live_world.proofs.LiveWorld.begin_close.Goals as goal

pub begin_close_wait-requires : goal.begin_close_wait-requires
begin_close_wait-requires c = record {
  allowed = may_close_settled c.args.self.now c.settle_group.new.self c.args.who c.args.group c.args.cancel c.args._notices c.settle_group.ensures c.requires;
  settled = group_settled c.args.self.now c.settle_group.new.self c.args.group c.args.cancel c.settle_group.ensures;
}

pub close_members-requires : goal.close_members-requires
close_members-requires c = record {
  made = ap (λ (l : Live). is_group l.world c.args.group.0) c.begin_close_wait.ensures.begun ∙ ap (λ (l : Live). is_group l.world c.args.group.0) c.settle_group.ensures ∙ c.requires.made;
  idle = begun_idle c.settle_group.new.self c.begin_close_wait.new.self c.args.who c.args.group c.args.cancel c.args.context c.begin_close_wait.ensures.begun
      (settled_idle c.args.self.now c.settle_group.new.self c.args.group c.args.cancel c.settle_group.ensures c.requires.idle);
  may = c.begin_close_wait.ensures.may;
}

pub returns : goal.returns
returns c = c.close_members.ensures ∙ closes_whole c.args.self.now c.settle_group.new.self c.begin_close_wait.new.self c.args.who c.args.group c.args.cancel c.args.context c.args._notices c.requires.none c.settle_group.ensures c.begin_close_wait.ensures.begun
