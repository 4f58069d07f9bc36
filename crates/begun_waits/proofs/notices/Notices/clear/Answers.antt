use Rattle.begun_waits.proofs.Noticed.{shown_cleared, there_in, threaded_cleared}
use Rattle.begun_waits.proofs.notices.Notices.clear.Goals as goal

pub clear_list-requires : goal.clear_list-requires
clear_list-requires c = there_in c.self.inside.objects c.self.inside.lists c.args.actor (rw (← c.self.view_is) at c.requires)

pub invariant_of-self : goal.invariant_of-self
invariant_of-self c = threaded_cleared c.self.inside.objects c.self.inside.lists c.clear_list.new.lists c.args.actor c.clear_list.ensures c.self.invariant

pub returns : goal.returns
returns c = rw (← c.self.view_is) (shown_cleared c.self.inside.objects c.self.inside.lists c.clear_list.new.lists c.args.actor c.clear_list.ensures)
